-- The order of a heap, as of numbers at slots.
use Rattle.std.proofs.Common.{◌≡◌, ◌≢◌, ℕ, zero, suc, ◌+◌, ◌^◌, ◌<◌, ◌≤◌, arith, ⊎_elim, inl, inr, ap}
use Rattle.std.proofs.lemmas.Bool.{cases_eq, cases_lt}
use Rattle.sbpl_open.specs.KeyOrder.{ComesBefore}
use Rattle.sbpl_open.specs.declared.entry.Entry.{Entry}
use Rattle.sbpl_open.specs.Entries.{key_of}
use Rattle.sbpl_open.specs.Heap.{rank, parent, IsHeap, IsHeapBut, IsNotBefore, IsFirstChild}

-- the state of lower rank comes before the other
pub before_from_rank : (a b : Entry) → a.second < 2 ^ 64 → b.second < 2 ^ 64 → a.state < 2 ^ 32
    → b.state < 2 ^ 32 → rank a ≤ rank b
    → a.state ≢ b.state → ComesBefore (key_of a) a.state (key_of b) b.state
before_from_rank a b small small' state state' low apart =
    ⊎_elim
    (λ (below : a.first < b.first). inl (inl below))
    (λ (above : b.first ≤ a.first).
    let same : a.first ≡ b.first = omega arith in
    ⊎_elim
    (λ (below : a.second < b.second). inl (inr (same, below)))
    (λ (above' : b.second ≤ a.second).
    let same' : a.second ≡ b.second = omega arith in
    let earlier : a.state < b.state = omega arith in
    inr (same, same', earlier))
    (cases_lt a.second b.second))
    (cases_lt a.first b.first)

-- the first slot holds the least
module _ {len : ℕ} {r : ℕ → ℕ} (heap : IsHeap len r) where
  pub first_within : (n i : ℕ) → i < n → i < len → r 0 ≤ r i
  first_within zero i below inside = absurd (omega arith)
  first_within (suc n) i below inside =
      ⊎_elim
      (λ (first : i ≡ 0). rw first (omega arith))
      (λ (later : i ≢ 0).
      let up = first_within n (parent i) (omega arith) (omega arith) in
      omega (arith, heap.upward i (omega arith) inside))
      (cases_eq i 0)

  pub first_least : (i : ℕ) → i < len → r 0 ≤ r i
  first_least i inside = first_within (i + 1) i (omega arith) inside

-- one more state at the end
pub heap_pushed : {len : ℕ} {r r' : ℕ → ℕ} → IsHeap len r → ((i : ℕ) → i < len → r' i ≡ r i)
    → IsHeapBut (len + 1) r' len
heap_pushed {len} {r} {r'} heap same = record {
  upward = λ i some inside apart off.
      let here = heap.upward i some (omega arith) in
      let same_i = same i (omega arith) in
      let same_up = same (parent i) (omega arith) in
      omega arith;
  across = λ i some inside below not_before. absurd (omega arith);
}

-- another rank at one slot
pub heap_rekeyed : {len : ℕ} {r r' : ℕ → ℕ} (hole : ℕ) → IsHeap len r → ((i : ℕ) → i < len → i ≢ hole → r' i ≡ r i)
    → IsHeapBut len r' hole
heap_rekeyed {len} {r} {r'} hole heap same = record {
  upward = λ i some inside apart off.
      let here = heap.upward i some inside in
      let same_i = same i inside apart in
      let same_up = same (parent i) (omega arith) off in
      omega arith;
  across = λ i some inside below not_before.
      let here : r (parent i) ≤ r i = heap.upward i some inside in
      let above : r (parent i) ≡ r hole = ap r below in
      let up = heap.upward hole not_before (omega arith) in
      let same_i = same i inside (omega arith) in
      let same_up = same (parent hole) (omega arith) (omega arith) in
      omega arith;
}

-- the same ranks at fewer slots
pub heap_alike : {len len' : ℕ} {r r' : ℕ → ℕ} → IsHeap len r → len' ≤ len
    → ((i : ℕ) → i < len' → r' i ≡ r i) → IsHeap len' r'
heap_alike {len} {len'} {r} {r'} heap fewer same = record {
  upward = λ i some inside.
      let here = heap.upward i some (omega arith) in
      let same_i = same i inside in
      let same_up = same (parent i) (omega arith) in
      omega arith;
}

-- what was above the hole has moved down into it
pub heap_up : {len : ℕ} {r r' : ℕ → ℕ} (hole : ℕ) → IsHeapBut len r hole → 0 < hole → hole < len
    → r hole ≤ r (parent hole)
    → r' hole ≡ r (parent hole) → ((i : ℕ) → i ≢ hole → i ≢ parent hole → r' i ≡ r i) → IsHeapBut len r' (parent hole)
heap_up {len} {r} {r'} hole but below inside lower down same = record {
  upward = λ i some within apart off.
      let not_hole : i ≢ hole = λ e. off (ap parent e) in
      let same_i = same i not_hole apart in
      ⊎_elim
      (λ (under : parent i ≡ hole).
      let across = but.across i some within under below in
      let above : r' (parent i) ≡ r' hole = ap r' under in
      omega arith)
      (λ (elsewhere : parent i ≢ hole).
      let here = but.upward i some within not_hole elsewhere in
      let same_up = same (parent i) elsewhere off in
      omega arith)
      (cases_eq (parent i) hole);
  across = λ i some within under later.
      let up = but.upward (parent hole) later (omega arith) (omega arith) (omega arith) in
      let same_up = same (parent (parent hole)) (omega arith) (omega arith) in
      ⊎_elim
      (λ (at : i ≡ hole).
      let here : r' i ≡ r' hole = ap r' at in
      omega arith)
      (λ (apart : i ≢ hole).
      let here = but.upward i some within apart (omega arith) in
      let above : r (parent i) ≡ r (parent hole) = ap r under in
      let same_i = same i apart (omega arith) in
      omega arith)
      (cases_eq i hole);
}

-- the first below the hole has moved up into it
module _ {len : ℕ} {r r' : ℕ → ℕ} (hole c : ℕ) (but : IsHeapBut len r hole) (child : IsFirstChild len r hole c)
    (up : r' hole ≡ r c) (same : (i : ℕ) → i ≢ hole → i ≢ c → r' i ≡ r i) where
  pub heap_down : IsHeapBut len r' c
  heap_down = record {
    upward = λ i some within apart off.
        let below = child.below in
        ⊎_elim
        (λ (at : i ≡ hole).
        let across = but.across c child.some child.inside below (omega arith) in
        let here : r' i ≡ r' hole = ap r' at in
        let above : r' (parent i) ≡ r' (parent hole) = ap (λ x. r' (parent x)) at in
        let same_up = same (parent hole) (omega arith) (omega arith) in
        omega arith)
        (λ (not_hole : i ≢ hole).
        let same_i = same i not_hole apart in
        ⊎_elim
        (λ (under : parent i ≡ hole).
        let first = child.first i some within under in
        let above : r' (parent i) ≡ r' hole = ap r' under in
        omega arith)
        (λ (elsewhere : parent i ≢ hole).
        let here = but.upward i some within not_hole elsewhere in
        let same_up = same (parent i) elsewhere off in
        omega arith)
        (cases_eq (parent i) hole))
        (cases_eq i hole);
    across = λ i some within under later.
        let below = child.below in
        let here = but.upward i some within (omega arith) (omega arith) in
        let above : r (parent i) ≡ r c = ap r under in
        let over : r' (parent c) ≡ r' hole = ap r' below in
        let same_i = same i (omega arith) (omega arith) in
        omega arith;
  }

  pub after_down : r c ≤ r hole → r' c ≡ r hole → IsNotBefore r' c
  after_down lower down some =
      let over : r' (parent c) ≡ r' hole = ap r' child.below in
      omega arith
