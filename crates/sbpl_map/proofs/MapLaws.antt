-- Writes in turn lead from the map after some batches to the map after one more.
use Rattle.std.proofs.Common.{◌≡◌, ◌≢◌, ℕ, zero, suc, ℤ, pos, negsuc, ◌+◌, ◌*◌, ◌<◌, ◌≤◌, ◌/◌, ◌%◌, nat_lt, length}
use Rattle.std.proofs.Common.{true, false, List, [], ◌∷◌, ◌++◌, slice_get, Option, Some, None, refl, sym, ap, ◌∙◌, inl}
use Rattle.std.proofs.Common.{inr, arith, append-nil, append_assoc}
use Rattle.std.specs.Prelude.{◌==◌, ◌⊎◌}
use Rattle.std.proofs.lemmas.Bool.{cases_Bool, and_from, and_parts, lt-ltb, eqb-true, and_cases, eqb-false, false≢true}
use Rattle.std.proofs.lemmas.Option.{none-some, same_Some, slice_get-get_or}
use Rattle.std.proofs.lemmas.Nat.{div-add-mod'}
use Rattle.std.proofs.lemmas.Grind.{same_number_lists}
use Rattle.std.proofs.Math.Nat.{mod-lt, div-lt_iff_lt-mul, mul_comm}
use Rattle.sbpl_map.specs.CellMap.{CellMap, IsCellMap, cost_at, ChangesCell}
use Rattle.sbpl_map.specs.MapAfter.{is_to, found_or, last_cost, first_writes, cost_after, IsMapAfter, AreWritten}
use Rattle.sbpl_map.specs.declared.write.Write.{Write}

-- ---- the last of two lists of writes, one after the other

found_or_assoc : (a b c : Option ℕ) → found_or (found_or a b) c ≡ found_or a (found_or b c)
found_or_assoc (Some x) b c = refl
found_or_assoc None b c = refl

or_none : (a : Option ℕ) → a ≡ found_or a None
or_none (Some x) = refl
or_none None = refl

last_cost-append : (xs ys : List Write) (x y : ℤ)
    → last_cost (xs ++ ys) x y ≡ found_or (last_cost ys x y) (last_cost xs x y)
unfolding last_cost
last_cost-append [] ys x y = or_none (last_cost ys x y)
last_cost-append (w ∷ xs) ys x y =
    rw (last_cost-append xs ys x y) (found_or_assoc (last_cost ys x y) (last_cost xs x y) _)

-- ---- one write

to_one_cell : (w : Write) (x y : ℤ) → is_to w x y ≡ true → (x ≡ pos w.x) × (y ≡ pos w.y)
to_one_cell w (pos a) (pos b) h =
    let both = and_parts (w.x == a) (w.y == b) h in
    (ap pos (sym (eqb-true w.x a both.0)), ap pos (sym (eqb-true w.y b both.1)))
to_one_cell w (pos a) (negsuc b) h = absurd (false≢true h)
to_one_cell w (negsuc a) y h = absurd (false≢true h)

to_other_cell : (w : Write) (x y : ℤ) → is_to w x y ≡ false → (x ≢ pos w.x) ⊎ (y ≢ pos w.y)
to_other_cell w (pos a) (pos b) h = elim (and_cases (w.x == a) (w.y == b) h) [
  | inl e ↦ inl (λ same. eqb-false w.x a e (grind arith))
  | inr e ↦ inr (λ same. eqb-false w.y b e (grind arith))
]
to_other_cell w (pos a) (negsuc b) h = inr (λ same. grind arith)
to_other_cell w (negsuc a) y h = inl (λ same. grind arith)

-- a map that changed in one cell has the cost of the last write
one_written : (old new : CellMap) (w : Write) (x y : ℤ) → ChangesCell old new (pos w.x) (pos w.y) w.cost
    → cost_at new x y ≡ found_or (last_cost (w ∷ []) x y) (cost_at old x y)
unfolding last_cost
one_written old new w x y h =
    elim (cases_Bool (is_to w x y)) [
      | inl e ↦ let same = to_one_cell w x y e in rw e (rw (same.0, same.1) h.at)
      | inr e ↦ rw e (h.others x y (to_other_cell w x y e))
    ]

-- ---- writes in turn

record IsWrittenOver (old new : CellMap) (writes : List Write) : Type 0 where
  width : new.width ≡ old.width
  height : new.height ≡ old.height
  costs : (x y : ℤ) → cost_at new x y ≡ found_or (last_cost writes x y) (cost_at old x y)

written_over : (old new : CellMap) (writes : List Write) → AreWritten old writes new → IsWrittenOver old new writes
unfolding last_cost
written_over old new [] h =
    record { width = ap (λ m. m.width) h; height = ap (λ m. m.height) h; costs = λ x y. ap (λ m. cost_at m x y) h }
written_over old new (w ∷ later) h =
    let m = h.0 in
    let more = written_over m new later h.2 in
    record {
      width = more.width ∙ h.1.width;
      height = more.height ∙ h.1.height;
      costs = λ x y. more.costs x y ∙ ap (λ o. found_or (last_cost later x y) o) (one_written old m w x y h.1)
          ∙ sym (ap (λ o. found_or o (cost_at old x y)) (last_cost-append (w ∷ []) later x y)
          ∙ found_or_assoc (last_cost later x y) (last_cost (w ∷ []) x y) (cost_at old x y));
    }

pub written_more : (old now new : CellMap) (writes : List Write) (w : Write) → AreWritten old writes now
    → ChangesCell now new (pos w.x) (pos w.y) w.cost → AreWritten old (writes ++ w ∷ []) new
written_more old now new [] w h k =
    let same : ChangesCell old new (pos w.x) (pos w.y) w.cost = rw h at k in (new, same, refl)
written_more old now new (v ∷ later) w h k = (h.0, h.1, written_more h.0 now new later w h.2 k)

-- ---- batches

first_more : (batches : List (List Write)) (k : ℕ) (batch : List Write) → slice_get batches k ≡ Some batch
    → first_writes batches (suc k) ≡ first_writes batches k ++ batch
first_more [] k batch e = absurd (none-some batch e)
first_more (b ∷ bs) zero batch e = rw (same_Some b batch e) (append-nil batch)
first_more (b ∷ bs) (suc k) batch e =
    ap (λ l. b ++ l) (first_more bs k batch e) ∙ sym (append_assoc b (first_writes bs k) batch)

pub map_at_first : (first : CellMap) (batches : List (List Write)) → IsMapAfter first batches 0 first
unfolding last_cost
map_at_first first batches = record { width = refl; height = refl; costs = λ x y. refl }

pub map_after_next : (first now new : CellMap) (batches : List (List Write)) (k : ℕ) (batch : List Write)
    → IsMapAfter first batches k now → slice_get batches k ≡ Some batch → AreWritten now batch new
    → IsMapAfter first batches (k + 1) new
map_after_next first now new batches k batch h e w =
    let over = written_over now new batch w in
    let next : k + 1 ≡ suc k = omega arith in
    record {
      width = over.width ∙ h.width;
      height = over.height ∙ h.height;
      costs = λ x y. over.costs x y ∙ ap (λ o. found_or (last_cost batch x y) o) (h.costs x y)
          ∙ sym (found_or_assoc (last_cost batch x y) (last_cost (first_writes batches k) x y) (cost_at first x y))
          ∙ ap (λ o. found_or o (cost_at first x y)) (sym (last_cost-append (first_writes batches k) batch x y))
          ∙ ap (λ l. found_or (last_cost l x y) (cost_at first x y)) (sym (first_more batches k batch e))
          ∙ ap (λ n. cost_after first batches n x y) (sym next);
    }

-- ---- one map

-- each index of the list of costs is that of a cell
cell_at_place : (m : CellMap) (i : ℕ) → 1 ≤ m.width → i < m.width * m.height
    → cost_at m (pos (i % m.width)) (pos (i / m.width)) ≡ slice_get m.costs i
cell_at_place m i some h =
    let right : i % m.width < m.width = mod-lt i (omega arith) in
    let high : i / m.width < m.height =
    (div-lt_iff_lt-mul {x = i} {y = m.height} (omega arith)).1 (rw (mul_comm m.height m.width) h) in
    let on =
    and_from (nat_lt (i % m.width) m.width) (nat_lt (i / m.width) m.height) (lt-ltb (i % m.width) m.width right)
    (lt-ltb (i / m.width) m.height high) in
    rw on (ap (λ n. slice_get m.costs n) (div-add-mod' i m.width))

same_costs : (a b : CellMap) → IsCellMap a → IsCellMap b → a.width ≡ b.width → a.height ≡ b.height
    → ((x y : ℤ) → cost_at a x y ≡ cost_at b x y) → a.costs ≡ b.costs
same_costs a b ka kb w h same =
    let size : length a.costs ≡ length b.costs =
    ka.cells ∙ ap (λ n. n * a.height) w ∙ ap (λ n. b.width * n) h ∙ sym kb.cells in
    same_number_lists a.costs b.costs size (λ i below.
    let in_a : i < a.width * a.height = rw (← ka.cells) below in
    let in_b : i < b.width * b.height = rw (← kb.cells, ← size) below in
    let of_a = cell_at_place a i ka.width.0 in_a in
    let of_b = cell_at_place b i kb.width.0 in_b in
    let there : slice_get a.costs i ≡ slice_get b.costs i =
    sym of_a ∙ same (pos (i % a.width)) (pos (i / a.width))
    ∙ ap (λ n. cost_at b (pos (i % n)) (pos (i / n))) w ∙ of_b in
    same_Some _ _ (sym (slice_get-get_or a.costs i 0 below) ∙ there ∙ slice_get-get_or b.costs i 0 (rw (← size) below)))

same_map : (a b : CellMap) → a.width ≡ b.width → a.height ≡ b.height → a.costs ≡ b.costs → a ≡ b
same_map a b w h c = rw (w, h, c) refl

pub one_map : (first a b : CellMap) (batches : List (List Write)) (k : ℕ) → IsCellMap a → IsCellMap b
    → IsMapAfter first batches k a → IsMapAfter first batches k b → a ≡ b
one_map first a b batches k ka kb ha hb =
    let w = ha.width ∙ sym hb.width in
    let h = ha.height ∙ sym hb.height in
    same_map a b w h (same_costs a b ka kb w h (λ x y. ha.costs x y ∙ sym (hb.costs x y)))
