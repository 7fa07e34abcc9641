-- Keys stay with their states.
use Rattle.std.proofs.Common.{◌≡◌, ◌≢◌, ℕ, ◌+◌, ◌-◌, ◌<◌, Option, Some, None, List, length, slice_index, arith, ⊎_elim}
use Rattle.std.proofs.Common.{refl, sym, ◌∙◌, ap}
use Rattle.std.proofs.lemmas.Bool.{cases_eq, lt-ltb}
use Rattle.sbpl_open.specs.declared.entry.Entry.{Entry}
use Rattle.sbpl_open.specs.Entries.{key_of, entry_at, state_at}
use Rattle.sbpl_open.specs.Heap.{AreAgreed, KeyChanges, SameKeys, key_where}
use Rattle.sbpl_open.proofs.Agreeing.{IsPlaced, IsSwapped}

pub key_present : (heap : List Entry) (slots : List ℕ) (s i : ℕ) → slice_index slots s ≡ i + 1
    → key_where heap slots s ≡ Some (key_of (entry_at heap i))
key_present heap slots s i at =
    let slot : slice_index slots s - 1 ≡ i = omega arith in
    rw (lt-ltb 0 (slice_index slots s) (omega arith), slot) refl

pub key_missing : (heap : List Entry) (slots : List ℕ) (s : ℕ) → slice_index slots s ≡ 0 → key_where heap slots s ≡ None
key_missing heap slots s absent = rw absent refl

-- a state's entry is the same, at whatever slot
key_moved : (heap heap' : List Entry) (slots slots' : List ℕ) (s i j : ℕ) → slice_index slots s ≡ i + 1
    → slice_index slots' s ≡ j + 1 → entry_at heap' j ≡ entry_at heap i
    → key_where heap' slots' s ≡ key_where heap slots s
key_moved heap heap' slots slots' s i j at at' same =
    key_present heap' slots' s j at' ∙ ap (λ (e : Entry). Some (key_of e)) same ∙ sym (key_present heap slots s i at)

-- a state stays at its slot, and so does its entry
key_unmoved : {heap : List Entry} {slots : List ℕ} (heap' : List Entry) (slots' : List ℕ) (s : ℕ) → AreAgreed heap slots
    → slice_index slots' s ≡ slice_index slots s
    → ((i : ℕ) → i < length heap → state_at heap i ≡ s → entry_at heap' i ≡ entry_at heap i)
    → key_where heap' slots' s ≡ key_where heap slots s
key_unmoved {heap} {slots} heap' slots' s agreed same_place same =
    ⊎_elim
    (λ (absent : slice_index slots s ≡ 0).
    key_missing heap' slots' s (same_place ∙ absent) ∙ sym (key_missing heap slots s absent))
    (λ (there : slice_index slots s ≢ 0).
    let slot = slice_index slots s - 1 in
    let at : slice_index slots s ≡ slot + 1 = omega arith in
    let was = agreed.found s slot at in
    key_moved heap heap' slots slots' s slot slot at (same_place ∙ at) (same slot was.0 was.1))
    (cases_eq (slice_index slots s) 0)

-- two entries have changed slots
pub keys_swapped : {heap : List Entry} {slots : List ℕ} (heap' : List Entry) (slots' : List ℕ) (a b : ℕ)
    → a < length heap → b < length heap
    → AreAgreed heap slots → IsSwapped (entry_at heap) (entry_at heap') a b
    → IsPlaced slots slots' (state_at heap a) (state_at heap b) (a + 1) (b + 1) → SameKeys heap slots heap' slots'
keys_swapped {heap} {slots} heap' slots' a b in_a in_b agreed swapped placed = λ s.
    ⊎_elim
    (λ (own : s ≡ state_at heap a).
    key_moved heap heap' slots slots' s a b (ap (slice_index slots) own ∙ agreed.placed a in_a)
    (ap (slice_index slots') own ∙ placed.first) swapped.at_second)
    (λ (not_a : s ≢ state_at heap a).
    ⊎_elim
    (λ (own : s ≡ state_at heap b).
    key_moved heap heap' slots slots' s b a (ap (slice_index slots) own ∙ agreed.placed b in_b)
    (ap (slice_index slots') own ∙ placed.second) swapped.at_first)
    (λ (not_b : s ≢ state_at heap b).
    key_unmoved heap' slots' s agreed (placed.others s not_a not_b)
    (λ i inside is.
    swapped.others i (λ e. not_a (sym is ∙ ap (state_at heap) e)) (λ e. not_b (sym is ∙ ap (state_at heap) e))))
    (cases_eq s (state_at heap b)))
    (cases_eq s (state_at heap a))

-- the last entry has closed the gap that s left
pub keys_closed : {heap heap' : List Entry} {slots slots' : List ℕ} (s gap last : ℕ) → AreAgreed heap slots
    → length heap ≡ last + 1 → state_at heap gap ≡ s → entry_at heap' gap ≡ entry_at heap last
    → ((i : ℕ) → i < last → i ≢ gap → entry_at heap' i ≡ entry_at heap i)
    → IsPlaced slots slots' s (state_at heap last) (gap + 1) 0 → KeyChanges heap slots heap' slots' s None
keys_closed {heap} {heap'} {slots} {slots'} s gap last agreed longer own moved same placed = record {
  at = key_missing heap' slots' s placed.first;
  others = λ u apart.
      ⊎_elim
      (λ (is : u ≡ state_at heap last).
      key_moved heap heap' slots slots' u last gap (ap (slice_index slots) is ∙ agreed.placed last (omega arith))
      (ap (slice_index slots') is ∙ placed.second) moved)
      (λ (apart' : u ≢ state_at heap last).
      key_unmoved heap' slots' u agreed (placed.others u apart apart')
      (λ i within is.
      let before : i ≢ last = λ e. apart' (sym is ∙ ap (state_at heap) e) in
      same i (omega arith) (λ e. apart (sym is ∙ ap (state_at heap) e ∙ own))))
      (cases_eq u (state_at heap last));
}

-- s was the last entry, and has left
pub keys_left : {heap heap' : List Entry} {slots slots' : List ℕ} (s last : ℕ) → AreAgreed heap slots
    → length heap ≡ last + 1 → state_at heap last ≡ s → ((i : ℕ) → i < last → entry_at heap' i ≡ entry_at heap i)
    → IsPlaced slots slots' s s 0 0 → KeyChanges heap slots heap' slots' s None
keys_left {heap} {heap'} {slots} {slots'} s last agreed longer own same placed = record {
  at = key_missing heap' slots' s placed.first;
  others = λ u apart.
      key_unmoved heap' slots' u agreed (placed.others u apart apart)
      (λ i within is.
      let before : i ≢ last = λ e. apart (sym is ∙ ap (state_at heap) e ∙ own) in
      same i (omega arith));
}

-- a change, and then the same keys
pub changes_then : {heap heap' heap'' : List Entry} {slots slots' slots'' : List ℕ} {s : ℕ} {key : Option (ℕ × ℕ)}
    → KeyChanges heap slots heap' slots' s key → SameKeys heap' slots' heap'' slots''
    → KeyChanges heap slots heap'' slots'' s key
changes_then {s = s} change same =
    record { at = same s ∙ change.at; others = λ u apart. same u ∙ change.others u apart }
