-- Entries that come into the heap and leave it.
use Rattle.std.proofs.Common.{◌≡◌, ◌≢◌, ℕ, ◌+◌, ◌-◌, ◌<◌, ◌≤◌, None, List, [], ◌∷◌, ◌++◌, length, take, slice_index}
use Rattle.std.proofs.Common.{slice_set, arith, ⊎_elim, refl, sym, ap, ◌∙◌, length-set}
use Rattle.std.proofs.lemmas.Bool.{cases_eq}
use Rattle.std.proofs.lemmas.List.{get_or-set_same, get_or-set_other, get_or_append_left}
use Rattle.std.proofs.lemmas.List.{get_or-take, length-take-le, length_push}
use Rattle.sbpl_open.specs.declared.entry.Entry.{Entry}
use Rattle.sbpl_open.specs.Entries.{entry_at, no_entry, state_at}
use Rattle.sbpl_open.specs.Heap.{AreAgreed, HasHole, IsHeap, KeyChanges, filled, placed_at, rank, rank_at}
use Rattle.sbpl_open.proofs.Agreeing.{IsPlaced, agreed_alike, agreed_closed, agreed_popped}
use Rattle.sbpl_open.proofs.Agreeing.{agreed_pushed, place_at, state_of}
use Rattle.sbpl_open.proofs.Keeping.{keys_closed, keys_left}
use Rattle.sbpl_open.proofs.Ordering.{heap_alike, heap_pushed, heap_rekeyed}
use Rattle.sbpl_open.proofs.Sifting.{filled_other, filled_own, length_filled}

-- the slot of the entry's state stands open for it
pub hole_there : {heap : List Entry} {slots : List ℕ} (entry : Entry) → AreAgreed heap slots
    → IsHeap (length heap) (rank_at heap)
    → 0 < slice_index slots entry.state → HasHole heap slots (slice_index slots entry.state - 1) entry
hole_there {heap} {slots} entry agreed ordered there =
    let s = entry.state in
    let at = slice_index slots entry.state - 1 in
    let slot = place_at s agreed there in
    let known = state_of s agreed there in
    record {
      inside = slot.0;
      agreed =
          agreed_alike agreed (length_filled heap at entry) (length-set slots s (at + 1))
          (λ i within.
          ⊎_elim
          (λ (own : i ≡ at). rw own (ap (λ (e : Entry). e.state) (filled_own heap at entry slot.0) ∙ sym slot.1))
          (λ (apart : i ≢ at). ap (λ (e : Entry). e.state) (filled_other heap at i entry apart))
          (cases_eq i at))
          (λ u.
          ⊎_elim
          (λ (own : u ≡ s).
          let one_more : at + 1 ≡ slice_index slots s = omega arith in
          rw own (get_or-set_same slots s (at + 1) 0 known ∙ one_more))
          (λ (apart : u ≢ s). get_or-set_other slots s u (at + 1) 0 apart)
          (cases_eq u s));
      ordered = heap_rekeyed at ordered (λ i within apart. ap rank (filled_other heap at i entry apart));
    }

-- what a longer heap holds below its end
pushed_same : (heap : List Entry) (entry : Entry) (i : ℕ) → i < length heap
    → entry_at (heap ++ entry ∷ []) i ≡ entry_at heap i
pushed_same heap entry i inside = get_or_append_left heap (entry ∷ []) no_entry i inside

-- one more slot at the end stands open for an entry whose state is not there
pub hole_pushed : {heap : List Entry} {slots : List ℕ} (entry : Entry) → AreAgreed heap slots
    → IsHeap (length heap) (rank_at heap)
    → slice_index slots entry.state ≡ 0 → entry.state < length slots
    → HasHole (heap ++ entry ∷ []) slots (length heap) entry
hole_pushed {heap} {slots} entry agreed ordered absent known =
    let longer = heap ++ entry ∷ [] in
    let at = length heap in
    let more : length longer ≡ length heap + 1 = length_push heap entry in
    let s = entry.state in
    let same : (i : ℕ) → i < length heap → entry_at (filled longer at entry) i ≡ entry_at heap i =
    λ i within. filled_other longer at i entry (omega arith) ∙ pushed_same heap entry i within in
    let placed : IsPlaced slots (placed_at slots at entry) s s (at + 1) (at + 1) = record {
      states = length-set slots s (at + 1);
      first = get_or-set_same slots s (at + 1) 0 known;
      second = get_or-set_same slots s (at + 1) 0 known;
      others = λ x apart apart'. get_or-set_other slots s x (at + 1) 0 apart;
    } in
    record {
      inside = omega arith;
      agreed =
          agreed_pushed s known absent agreed (length_filled longer at entry ∙ more)
          (λ i within. ap (λ (e : Entry). e.state) (same i within)) (ap (λ (e : Entry). e.state)
          (filled_own longer at entry (omega arith))) placed;
      ordered = rw more (heap_pushed ordered (λ i within. ap rank (same i within)));
    }

-- the last entry leaves the end of the heap, and s, the state at the gap, leaves the table
module _ (heap : List Entry) (slots : List ℕ) (s gap last : ℕ) (agreed : AreAgreed heap slots)
    (ordered : IsHeap (length heap) (rank_at heap)) (len : length heap ≡ last + 1) (own : state_at heap gap ≡ s) where
  front_len : length (take last heap) ≡ last
  front_len = length-take-le last heap (omega arith)

  front_same : (i : ℕ) → i < last → entry_at (take last heap) i ≡ entry_at heap i
  front_same i inside = get_or-take last heap i no_entry inside

  module _ (before : gap < last) where
    known : s < length slots
    known = omega (arith, own, agreed.inside gap (omega arith))

    moved_known : state_at heap last < length slots
    moved_known = agreed.inside last (omega arith)

    moved_apart : state_at heap last ≢ s
    moved_apart same =
        omega (
          arith,
          ap (slice_index slots) (same ∙ sym own),
          agreed.placed last (omega arith),
          agreed.placed gap (omega arith),
        )

    closed_placed : IsPlaced slots (placed_at (slice_set slots s 0) gap (entry_at heap last)) s
        (state_at heap last) (gap + 1) 0
    closed_placed =
        let shorter = length-set slots s 0 in
        record {
          states = length-set (slice_set slots s 0) (state_at heap last) (gap + 1) ∙ shorter;
          first =
              get_or-set_other (slice_set slots s 0) (state_at heap last) s (gap + 1) 0 (λ e. moved_apart (sym e))
              ∙ get_or-set_same slots s 0 0 known;
          second = get_or-set_same (slice_set slots s 0) (state_at heap last) (gap + 1) 0 (omega (arith, moved_known));
          others = λ x apart apart'.
              get_or-set_other (slice_set slots s 0) (state_at heap last) x (gap + 1) 0 apart'
              ∙ get_or-set_other slots s x 0 0 apart;
        }

    closed_same : (i : ℕ) → i < last → i ≢ gap
        → entry_at (filled (take last heap) gap (entry_at heap last)) i ≡ entry_at heap i
    closed_same i inside apart = filled_other (take last heap) gap i (entry_at heap last) apart ∙ front_same i inside

    closed_own : entry_at (filled (take last heap) gap (entry_at heap last)) gap ≡ entry_at heap last
    closed_own = filled_own (take last heap) gap (entry_at heap last) (omega (arith, front_len))

    pub hole_closing : HasHole (take last heap) (slice_set slots s 0) gap (entry_at heap last)
    hole_closing =
        let fewer : IsHeap last (rank_at heap) = heap_alike ordered (omega arith) (λ i inside. refl) in
        record {
          inside = omega (arith, front_len);
          agreed =
              agreed_closed gap last agreed len
              (length_filled (take last heap) gap (entry_at heap last) ∙ front_len) before
              (ap (λ (e : Entry). e.state) closed_own)
              (λ i inside apart. ap (λ (e : Entry). e.state) (closed_same i inside apart)) (rw own closed_placed);
          ordered = rw front_len (heap_rekeyed gap fewer (λ i inside apart. ap rank (closed_same i inside apart)));
        }

    pub keys_closing : KeyChanges heap slots (filled (take last heap) gap (entry_at heap last))
        (placed_at (slice_set slots s 0) gap (entry_at heap last)) s None
    keys_closing = keys_closed s gap last agreed len own closed_own closed_same closed_placed

  module _ (not_before : last ≤ gap) (inside : gap < length heap) where
    last_own : state_at heap last ≡ s
    last_own =
        let at : last ≡ gap = omega arith in
        ap (state_at heap) at ∙ own

    left_placed : IsPlaced slots (slice_set slots s 0) s s 0 0
    left_placed =
        let known : s < length slots = omega (arith, own, agreed.inside gap inside) in
        record {
          states = length-set slots s 0;
          first = get_or-set_same slots s 0 0 known;
          second = get_or-set_same slots s 0 0 known;
          others = λ x apart apart'. get_or-set_other slots s x 0 0 apart;
        }

    pub agreed_leaving : AreAgreed (take last heap) (slice_set slots s 0)
    agreed_leaving =
        agreed_popped s agreed (omega (arith, front_len))
        (λ i within. ap (λ (e : Entry). e.state) (front_same i (omega (arith, front_len))))
        (ap (state_at heap) front_len ∙ last_own) left_placed

    pub keys_leaving : KeyChanges heap slots (take last heap) (slice_set slots s 0) s None
    keys_leaving = keys_left s last agreed len last_own front_same left_placed
