-- A hole on its way up or down the heap.
use Rattle.std.proofs.Common.{◌≡◌, ◌≢◌, ℕ, ◌+◌, ◌<◌, ◌≤◌, List, length, slice_index, slice_set, arith, sym}
use Rattle.std.proofs.Common.{ap, ◌∙◌, length-set}
use Rattle.std.proofs.lemmas.List.{get_or-set_same, get_or-set_other}
use Rattle.sbpl_open.specs.declared.entry.Entry.{Entry}
use Rattle.sbpl_open.specs.Entries.{entry_at, no_entry, state_at}
use Rattle.sbpl_open.specs.Heap.{AreAgreed, HasHole, IsNotBefore, IsFirstChild, IsHeapBut, SameKeys, filled, parent}
use Rattle.sbpl_open.specs.Heap.{placed_at, rank, rank_at}
use Rattle.sbpl_open.proofs.Agreeing.{IsPlaced, IsSwapped, agreed_swapped}
use Rattle.sbpl_open.proofs.Counting.{states_at_most}
use Rattle.sbpl_open.proofs.Keeping.{keys_swapped}
use Rattle.sbpl_open.proofs.Ordering.{heap_up, heap_down, after_down}

-- a hole that has moved from where it began: the same keys, and the same numbers of entries and of states
pub record IsMoving (heap' : List Entry) (slots' : List ℕ) (hole' : ℕ) (heap : List Entry) (slots : List ℕ) (hole : ℕ)
    (entry : Entry) : Type 0 where
  pub len : length heap ≡ length heap'
  pub states : length slots ≡ length slots'
  pub stands : HasHole heap slots hole entry
  pub keys : SameKeys (filled heap' hole' entry) (placed_at slots' hole' entry) (filled heap hole entry)
      (placed_at slots hole entry)

-- what the heap holds besides the hole
pub filled_other : (heap : List Entry) (hole i : ℕ) (entry : Entry) → i ≢ hole
    → entry_at (filled heap hole entry) i ≡ entry_at heap i
filled_other heap hole i entry apart = get_or-set_other heap hole i entry no_entry apart

pub filled_own : (heap : List Entry) (hole : ℕ) (entry : Entry) → hole < length heap
    → entry_at (filled heap hole entry) hole ≡ entry
filled_own heap hole entry inside = get_or-set_same heap hole entry no_entry inside

pub length_filled : (heap : List Entry) (hole : ℕ) (entry : Entry) → length (filled heap hole entry) ≡ length heap
length_filled heap hole entry = length-set heap hole entry

-- the entry of another slot has moved into the hole
module _ (heap : List Entry) (slots : List ℕ) (hole next : ℕ) (entry : Entry) (stands : HasHole heap slots hole entry)
    (inside : next < length heap) (apart : next ≢ hole) where
  abbrev heap_next : List Entry
  heap_next = slice_set heap hole (entry_at heap next)

  abbrev places_next : List ℕ
  places_next = slice_set slots (state_at heap next) (hole + 1)

  step_swapped : IsSwapped (entry_at (filled heap hole entry)) (entry_at (filled heap_next next entry)) hole next
  step_swapped = record {
    at_first =
        filled_other heap_next next hole entry (λ e. apart (sym e))
        ∙ filled_own heap hole (entry_at heap next) stands.inside ∙ sym (filled_other heap hole next entry apart);
    at_second =
        filled_own heap_next next entry (omega (arith, length_filled heap hole (entry_at heap next)))
        ∙ sym (filled_own heap hole entry stands.inside);
    others = λ i not_hole not_next.
        filled_other heap_next next i entry not_next ∙ filled_other heap hole i (entry_at heap next) not_hole
        ∙ sym (filled_other heap hole i entry not_hole);
  }

  own_state : state_at (filled heap hole entry) hole ≡ entry.state
  own_state = ap (λ (e : Entry). e.state) (filled_own heap hole entry stands.inside)

  next_state : state_at (filled heap hole entry) next ≡ state_at heap next
  next_state = ap (λ (e : Entry). e.state) (filled_other heap hole next entry apart)

  states_apart : state_at heap next ≢ entry.state
  states_apart same =
      let len = length_filled heap hole entry in
      let own = stands.agreed.placed hole (omega (arith, stands.inside)) in
      let other = stands.agreed.placed next (omega arith) in
      let equal : state_at (filled heap hole entry) next ≡ state_at (filled heap hole entry) hole =
      next_state ∙ same ∙ sym own_state in
      apart (omega (arith, ap (slice_index (placed_at slots hole entry)) equal))

  own_known : entry.state < length slots
  own_known =
      omega (
        arith,
        length_filled heap hole entry,
        length-set slots entry.state (hole + 1),
        stands.agreed.inside hole (omega (arith, length_filled heap hole entry, stands.inside)),
        own_state,
      )

  pub next_known : state_at heap next < length slots
  next_known =
      omega (
        arith,
        length_filled heap hole entry,
        length-set slots entry.state (hole + 1),
        stands.agreed.inside next (omega (arith, length_filled heap hole entry)),
        next_state,
      )

  step_placed : IsPlaced (placed_at slots hole entry) (placed_at places_next next entry)
      (state_at (filled heap hole entry) hole) (state_at (filled heap hole entry) next) (hole + 1) (next + 1)
  step_placed =
      let len_next = length-set slots (state_at heap next) (hole + 1) in
      rw (own_state, next_state)
      (record {
        states =
            length-set places_next entry.state (next + 1) ∙ len_next ∙ sym (length-set slots entry.state (hole + 1));
        first = get_or-set_same places_next entry.state (next + 1) 0 (omega (arith, len_next, own_known));
        second =
            get_or-set_other places_next entry.state (state_at heap next) (next + 1) 0 states_apart
            ∙ get_or-set_same slots (state_at heap next) (hole + 1) 0 next_known;
        others = λ x not_own not_next.
            get_or-set_other places_next entry.state x (next + 1) 0 not_own
            ∙ get_or-set_other slots (state_at heap next) x (hole + 1) 0 not_next
            ∙ sym (get_or-set_other slots entry.state x (hole + 1) 0 not_own);
      })

  step_len : length (filled heap_next next entry) ≡ length (filled heap hole entry)
  step_len =
      length_filled heap_next next entry ∙ length_filled heap hole (entry_at heap next)
      ∙ sym (length_filled heap hole entry)

  step_agreed : AreAgreed (filled heap_next next entry) (placed_at places_next next entry)
  step_agreed =
      agreed_swapped hole next (omega (arith, length_filled heap hole entry, stands.inside))
      (omega (arith, length_filled heap hole entry)) stands.agreed
      step_len step_swapped step_placed

  step_keys : SameKeys (filled heap hole entry) (placed_at slots hole entry) (filled heap_next next entry)
      (placed_at places_next next entry)
  step_keys =
      keys_swapped (filled heap_next next entry) (placed_at places_next next entry) hole next
      (omega (arith, length_filled heap hole entry, stands.inside))
      (omega (arith, length_filled heap hole entry)) stands.agreed
      step_swapped step_placed

  step_stands : IsHeapBut (length heap) (rank_at (filled heap_next next entry)) next
      → HasHole heap_next places_next next entry
  step_stands ordered =
      let len = length_filled heap hole (entry_at heap next) in
      record { inside = omega (arith, len); agreed = step_agreed; ordered = rw len ordered }

  step_moving : {heap' : List Entry} {slots' : List ℕ} {hole' : ℕ} → IsMoving heap' slots' hole' heap slots hole entry
      → IsHeapBut (length heap) (rank_at (filled heap_next next entry)) next
      → IsMoving heap' slots' hole' heap_next places_next next entry
  step_moving moving ordered = record {
    len = length_filled heap hole (entry_at heap next) ∙ moving.len;
    states = length-set slots (state_at heap next) (hole + 1) ∙ moving.states;
    stands = step_stands ordered;
    keys = λ s. step_keys s ∙ moving.keys s;
  }

  rank_first : rank_at (filled heap_next next entry) hole ≡ rank_at (filled heap hole entry) next
  rank_first = ap rank step_swapped.at_first

  rank_second : rank_at (filled heap_next next entry) next ≡ rank_at (filled heap hole entry) hole
  rank_second = ap rank step_swapped.at_second

  rank_others : (i : ℕ) → i ≢ hole → i ≢ next
      → rank_at (filled heap_next next entry) i ≡ rank_at (filled heap hole entry) i
  rank_others i not_hole not_next = ap rank (step_swapped.others i not_hole not_next)

-- a hole and its entry's state are below the number of states
pub hole_fits : {heap : List Entry} {slots : List ℕ} {hole : ℕ} {entry : Entry}
    → HasHole heap slots hole entry → hole < length slots
hole_fits {heap} {slots} {hole} {entry} stands =
    let len = length_filled heap hole entry in
    let most = states_at_most stands.agreed in
    omega (arith, stands.inside, length-set slots entry.state (hole + 1))

pub entry_known : {heap : List Entry} {slots : List ℕ} {hole : ℕ} {entry : Entry} → HasHole heap slots hole entry
    → entry.state < length slots
entry_known {heap} {slots} {hole} {entry} stands =
    let len = length_filled heap hole entry in
    let own = ap (λ (e : Entry). e.state) (filled_own heap hole entry stands.inside) in
    omega (
      arith,
      length-set slots entry.state (hole + 1),
      stands.agreed.inside hole (omega (arith, stands.inside)),
      own,
    )

-- up, where the entry comes before what is above the hole
pub moves_up : {heap' : List Entry} {slots' : List ℕ} {hole' : ℕ} {heap : List Entry} {slots : List ℕ}
    {hole : ℕ} {entry : Entry}
    → IsMoving heap' slots' hole' heap slots hole entry → 0 < hole → rank entry ≤ rank (entry_at heap (parent hole))
    → IsMoving heap' slots' hole' (slice_set heap hole (entry_at heap (parent hole)))
    (slice_set slots (state_at heap (parent hole)) (hole + 1)) (parent hole) entry
moves_up {heap = heap} {slots = slots} {hole = hole} {entry = entry} moving some lower =
    let stands = moving.stands in
    let inside : parent hole < length heap = omega (arith, stands.inside) in
    let apart : parent hole ≢ hole = omega arith in
    let own = ap rank (filled_own heap hole entry stands.inside) in
    let above = ap rank (filled_other heap hole (parent hole) entry apart) in
    step_moving heap slots hole (parent hole) entry stands inside apart moving
    (heap_up hole stands.ordered some stands.inside (rw (own, above) lower) (rank_first heap slots hole (parent hole)
    entry stands inside apart) (rank_others heap slots hole (parent hole) entry stands inside apart))

-- the first child of a slot does not depend on what is there
child_filled : (heap : List Entry) (hole c : ℕ) (entry : Entry) → IsFirstChild (length heap) (rank_at heap) hole c
    → IsFirstChild (length heap) (rank_at (filled heap hole entry)) hole c
child_filled heap hole c entry child = record {
  some = child.some;
  inside = child.inside;
  below = child.below;
  first = λ i some within under.
      let here = child.first i some within under in
      let below = child.below in
      let above = child.some in
      rw (
        ap rank (filled_other heap hole c entry (omega arith)),
        ap rank (filled_other heap hole i entry (omega arith)),
      ) here;
}

pub child_apart : (heap : List Entry) (hole c : ℕ) → IsFirstChild (length heap) (rank_at heap) hole c → c ≢ hole
child_apart heap hole c child =
    let below = child.below in
    omega (arith, child.some)

-- down, where the first child of the hole comes before the entry
module _ {heap' : List Entry} {slots' : List ℕ} {hole' : ℕ} (heap : List Entry) (slots : List ℕ)
    (hole c : ℕ) (entry : Entry)
    (moving : IsMoving heap' slots' hole' heap slots hole entry)
    (child : IsFirstChild (length heap) (rank_at heap) hole c)
    (lower : rank (entry_at heap c) ≤ rank entry) where
  pub moves_down : IsMoving heap' slots' hole' (slice_set heap hole (entry_at heap c))
      (slice_set slots (state_at heap c) (hole + 1)) c entry
  moves_down =
      let stands = moving.stands in
      step_moving heap slots hole c entry stands child.inside (child_apart heap hole c child) moving
      (heap_down hole c stands.ordered (child_filled heap hole c entry child)
      (rank_first heap slots hole c entry stands child.inside (child_apart heap hole c child))
      (rank_others heap slots hole c entry stands child.inside (child_apart heap hole c child)))

  pub moves_after : IsNotBefore (rank_at (filled (slice_set heap hole (entry_at heap c)) c entry)) c
  moves_after =
      let stands = moving.stands in
      let own = ap rank (filled_own heap hole entry stands.inside) in
      let below = ap rank (filled_other heap hole c entry (child_apart heap hole c child)) in
      after_down hole c stands.ordered (child_filled heap hole c entry child)
      (rank_first heap slots hole c entry stands child.inside (child_apart heap hole c child))
      (rank_others heap slots hole c entry stands child.inside (child_apart heap hole c child))
      (rw (own, below) lower) (rank_second heap slots hole c entry stands child.inside (child_apart heap hole c child))
