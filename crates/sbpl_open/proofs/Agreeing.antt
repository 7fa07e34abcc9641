-- The table of slots goes on agreeing with the heap.
use Rattle.std.proofs.Common.{◌≡◌, ◌≢◌, ℕ, ◌+◌, ◌-◌, ◌<◌, ◌≤◌, List, [], ◌∷◌, ◌++◌, length, slice_index, slice_set}
use Rattle.std.proofs.Common.{arith, ⊎_elim, refl, sym, ◌∙◌, ap}
use Rattle.std.proofs.lemmas.Grind.{elements}
use Rattle.std.proofs.lemmas.List.{length_push, get_or_append_left, get_or_push}
use Rattle.std.proofs.lemmas.Bool.{cases_eq, cases_lt}
use Rattle.sbpl_open.specs.declared.entry.Entry.{Entry}
use Rattle.sbpl_open.specs.Entries.{no_entry, entry_at, state_at}
use Rattle.sbpl_open.specs.Heap.{AreAgreed}

abbrev pub state_in : Entry → ℕ
state_in entry = entry.state

-- two slots have changed what they hold
pub record IsSwapped (old new : ℕ → Entry) (a b : ℕ) : Type 0 where
  pub at_first : new a ≡ old b
  pub at_second : new b ≡ old a
  pub others : (i : ℕ) → i ≢ a → i ≢ b → new i ≡ old i

-- entries of the table change for two states at most
pub record IsPlaced (old new : List ℕ) (s u a b : ℕ) : Type 0 where
  pub states : length new ≡ length old
  pub first : slice_index new s ≡ b
  pub second : slice_index new u ≡ a
  pub others : (x : ℕ) → x ≢ s → x ≢ u → slice_index new x ≡ slice_index old x

-- two states have changed slots
pub agreed_swapped : {heap heap' : List Entry} {slots slots' : List ℕ} (a b : ℕ) → a < length heap
    → b < length heap → AreAgreed heap slots
    → length heap' ≡ length heap → IsSwapped (entry_at heap) (entry_at heap') a b
    → IsPlaced slots slots' (state_at heap a) (state_at heap b) (a + 1) (b + 1) → AreAgreed heap' slots'
agreed_swapped {heap} {heap'} {slots} {slots'} a b in_a in_b agreed same swapped placed =
    let first : state_at heap' a ≡ state_at heap b = ap state_in swapped.at_first in
    let second : state_at heap' b ≡ state_at heap a = ap state_in swapped.at_second in
    record {
      inside = λ i inside.
          ⊎_elim
          (λ (at : i ≡ a). rw at (omega (arith, agreed.inside b in_b, placed.states)))
          (λ (apart : i ≢ a).
          ⊎_elim
          (λ (at : i ≡ b). rw at (omega (arith, agreed.inside a in_a, placed.states)))
          (λ (apart' : i ≢ b).
          omega (arith, ap state_in (swapped.others i apart apart'), agreed.inside i (omega arith), placed.states))
          (cases_eq i b))
          (cases_eq i a);
      placed = λ i inside.
          ⊎_elim
          (λ (at : i ≡ a). rw at (ap (slice_index slots') first ∙ placed.second))
          (λ (apart : i ≢ a).
          ⊎_elim
          (λ (at : i ≡ b). rw at (ap (slice_index slots') second ∙ placed.first))
          (λ (apart' : i ≢ b).
          let here = agreed.placed i (omega arith) in
          let not_s : state_at heap i ≢ state_at heap a =
          λ e. apart (omega (arith, ap (slice_index slots) e, agreed.placed a in_a)) in
          let not_u : state_at heap i ≢ state_at heap b =
          λ e. apart' (omega (arith, ap (slice_index slots) e, agreed.placed b in_b)) in
          ap (λ (e : Entry). slice_index slots' e.state) (swapped.others i apart apart')
          ∙ placed.others (state_at heap i) not_s not_u ∙ here)
          (cases_eq i b))
          (cases_eq i a);
      found = λ x i is.
          ⊎_elim
          (λ (own : x ≡ state_at heap a).
          let at : i ≡ b = omega (arith, ap (slice_index slots') own, placed.first) in
          (omega arith, ap (state_at heap') at ∙ second ∙ sym own))
          (λ (not_s : x ≢ state_at heap a).
          ⊎_elim
          (λ (own : x ≡ state_at heap b).
          let at : i ≡ a = omega (arith, ap (slice_index slots') own, placed.second) in
          (omega arith, ap (state_at heap') at ∙ first ∙ sym own))
          (λ (not_u : x ≢ state_at heap b).
          let was = agreed.found x i (sym (placed.others x not_s not_u) ∙ is) in
          let apart : i ≢ a = λ e. not_s (sym was.1 ∙ ap (state_at heap) e) in
          let apart' : i ≢ b = λ e. not_u (sym was.1 ∙ ap (state_at heap) e) in
          (omega (arith, was.0), ap state_in (swapped.others i apart apart') ∙ was.1))
          (cases_eq x (state_at heap b)))
          (cases_eq x (state_at heap a));
    }

-- one more state at the end
pub agreed_pushed : {heap heap' : List Entry} {slots slots' : List ℕ} (s : ℕ) → s < length slots
    → slice_index slots s ≡ 0
    → AreAgreed heap slots → length heap' ≡ length heap + 1
    → ((i : ℕ) → i < length heap → state_at heap' i ≡ state_at heap i)
    → state_at heap' (length heap) ≡ s → IsPlaced slots slots' s s (length heap + 1) (length heap + 1)
    → AreAgreed heap' slots'
agreed_pushed {heap} {heap'} {slots} {slots'} s state absent agreed longer same last placed = record {
  inside = λ i inside.
      ⊎_elim
      (λ (before : i < length heap). rw (same i before) (omega (arith, agreed.inside i before, placed.states)))
      (λ (after : length heap ≤ i).
      let at : i ≡ length heap = omega arith in
      rw (at, last) (omega (arith, placed.states)))
      (cases_lt i (length heap));
  placed = λ i inside.
      ⊎_elim
      (λ (before : i < length heap).
      let here = agreed.placed i before in
      let apart : state_at heap i ≢ s = λ e. omega (arith, ap (slice_index slots) e) in
      rw (same i before) (placed.others (state_at heap i) apart apart ∙ here))
      (λ (after : length heap ≤ i).
      let at : i ≡ length heap = omega arith in
      rw (at, last) placed.first)
      (cases_lt i (length heap));
  found = λ x i is.
      ⊎_elim
      (λ (own : x ≡ s).
      let at : i ≡ length heap = omega (arith, ap (slice_index slots') own, placed.first) in
      (omega arith, ap (state_at heap') at ∙ last ∙ sym own))
      (λ (apart : x ≢ s).
      let was = agreed.found x i (sym (placed.others x apart apart) ∙ is) in
      (omega (arith, was.0), same i was.0 ∙ was.1))
      (cases_eq x s);
}

-- the last state leaves
pub agreed_popped : {heap heap' : List Entry} {slots slots' : List ℕ} (s : ℕ) → AreAgreed heap slots
    → length heap ≡ length heap' + 1
    → ((i : ℕ) → i < length heap' → state_at heap' i ≡ state_at heap i) → state_at heap (length heap') ≡ s
    → IsPlaced slots slots' s s 0 0 → AreAgreed heap' slots'
agreed_popped {heap} {heap'} {slots} {slots'} s agreed shorter same last placed = record {
  inside = λ i inside. rw (same i inside) (omega (arith, agreed.inside i (omega arith), placed.states));
  placed = λ i inside.
      let here = agreed.placed i (omega arith) in
      let there = agreed.placed (length heap') (omega arith) in
      let apart : state_at heap i ≢ s =
      λ e. omega (arith, ap (slice_index slots) e, ap (slice_index slots) last) in
      rw (same i inside) (placed.others (state_at heap i) apart apart ∙ here);
  found = λ x i is.
      ⊎_elim
      (λ (own : x ≡ s). absurd (omega (arith, ap (slice_index slots') own, placed.first)))
      (λ (apart : x ≢ s).
      let was = agreed.found x i (sym (placed.others x apart apart) ∙ is) in
      let before : i ≢ length heap' = λ e. apart (sym was.1 ∙ ap (state_at heap) e ∙ last) in
      let inside : i < length heap' = omega (arith, was.0) in
      (inside, same i inside ∙ was.1))
      (cases_eq x s);
}

-- the last state has closed the gap that another left
pub agreed_closed : {heap heap' : List Entry} {slots slots' : List ℕ} (gap last : ℕ) → AreAgreed heap slots
    → length heap ≡ last + 1
    → length heap' ≡ last → gap < last → state_at heap' gap ≡ state_at heap last
    → ((i : ℕ) → i < last → i ≢ gap → state_at heap' i ≡ state_at heap i)
    → IsPlaced slots slots' (state_at heap gap) (state_at heap last) (gap + 1) 0 → AreAgreed heap' slots'
agreed_closed {heap} {heap'} {slots} {slots'} gap last agreed longer len before own same placed = record {
  inside = λ i inside.
      ⊎_elim
      (λ (at : i ≡ gap). rw at (omega (arith, own, agreed.inside last (omega arith), placed.states)))
      (λ (apart : i ≢ gap). omega (arith, same i (omega arith) apart, agreed.inside i (omega arith), placed.states))
      (cases_eq i gap);
  placed = λ i inside.
      ⊎_elim
      (λ (at : i ≡ gap). rw at (ap (slice_index slots') own ∙ placed.second))
      (λ (apart : i ≢ gap).
      let here = agreed.placed i (omega arith) in
      let not_s : state_at heap i ≢ state_at heap gap =
      λ e. apart (omega (arith, ap (slice_index slots) e, agreed.placed gap (omega arith))) in
      let not_u : state_at heap i ≢ state_at heap last =
      λ e. omega (arith, ap (slice_index slots) e, agreed.placed last (omega arith)) in
      ap (slice_index slots') (same i (omega arith) apart) ∙ placed.others (state_at heap i) not_s not_u ∙ here)
      (cases_eq i gap);
  found = λ x i is.
      ⊎_elim
      (λ (gone : x ≡ state_at heap gap). absurd (omega (arith, ap (slice_index slots') gone, placed.first)))
      (λ (not_s : x ≢ state_at heap gap).
      ⊎_elim
      (λ (moved : x ≡ state_at heap last).
      let at : i ≡ gap = omega (arith, ap (slice_index slots') moved, placed.second) in
      (omega arith, ap (state_at heap') at ∙ own ∙ sym moved))
      (λ (not_u : x ≢ state_at heap last).
      let was = agreed.found x i (sym (placed.others x not_s not_u) ∙ is) in
      let apart : i ≢ gap = λ e. not_s (sym was.1 ∙ ap (state_at heap) e) in
      let apart' : i ≢ last = λ e. not_u (sym was.1 ∙ ap (state_at heap) e) in
      let inside : i < last = omega (arith, was.0) in
      (omega arith, same i inside apart ∙ was.1))
      (cases_eq x (state_at heap last)))
      (cases_eq x (state_at heap gap));
}

-- in an empty heap there is no state
pub absent_all : {heap : List Entry} {slots : List ℕ} → AreAgreed heap slots → length heap ≡ 0 → (s : ℕ)
    → slice_index slots s ≡ 0
absent_all {heap} {slots} agreed none s =
    ⊎_elim
    (λ (absent : slice_index slots s ≡ 0). absent)
    (λ (there : slice_index slots s ≢ 0).
    let was = agreed.found s (slice_index slots s - 1) (omega arith) in
    absurd (omega (arith, was.0)))
    (cases_eq (slice_index slots s) 0)

-- a state that is there has a slot
pub place_at : {heap : List Entry} {slots : List ℕ} (s : ℕ) → AreAgreed heap slots → 0 < slice_index slots s
    → (slice_index slots s - 1 < length heap) × (state_at heap (slice_index slots s - 1) ≡ s)
place_at {heap} {slots} s agreed there = agreed.found s (slice_index slots s - 1) (omega arith)

-- only known states are there
pub state_of : {heap : List Entry} {slots : List ℕ} (s : ℕ) → AreAgreed heap slots
    → 0 < slice_index slots s → s < length slots
state_of {heap} {slots} s agreed there =
    let was = place_at s agreed there in
    let here = agreed.inside (slice_index slots s - 1) was.0 in
    omega (arith, was.1)

-- the same states stand at the same slots
pub agreed_alike : {heap heap' : List Entry} {slots slots' : List ℕ} → AreAgreed heap slots → length heap' ≡ length heap
    → length slots' ≡ length slots → ((i : ℕ) → i < length heap → state_at heap' i ≡ state_at heap i)
    → ((s : ℕ) → slice_index slots' s ≡ slice_index slots s) → AreAgreed heap' slots'
agreed_alike {heap} {heap'} {slots} {slots'} agreed len states same same_place = record {
  inside = λ i inside. omega (arith, same i (omega arith), agreed.inside i (omega arith));
  placed = λ i inside.
      ap (slice_index slots') (same i (omega arith)) ∙ same_place (state_at heap i) ∙ agreed.placed i (omega arith);
  found = λ s i is.
      let was = agreed.found s i (sym (same_place s) ∙ is) in
      (omega (arith, was.0), same i was.0 ∙ was.1);
}

-- the last entry leaves the lists
pub agreed_pop : (heap prefix : List Entry) (slots : List ℕ) (last : Entry)
    → heap ≡ prefix ++ last ∷ [] → AreAgreed heap slots
    → AreAgreed prefix (slice_set slots last.state 0)
agreed_pop heap prefix slots last is agreed =
    let placed : IsPlaced slots (slice_set slots last.state 0) last.state last.state 0 0 = record {
      states = grind (arith, elements);
      first = grind (arith, elements);
      second = grind (arith, elements);
      others = λ x apart apart'. grind (arith, elements);
    } in
    agreed_popped last.state agreed (ap length is ∙ length_push prefix last)
    (λ i inside. sym (ap (λ (xs : List Entry). state_at xs i) is
    ∙ ap state_in (get_or_append_left prefix (last ∷ []) no_entry i inside)))
    (ap (λ (xs : List Entry). state_at xs (length prefix)) is
    ∙ ap state_in (get_or_push prefix last no_entry (length prefix) refl)) placed
