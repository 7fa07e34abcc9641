-- The heap as a finite map.
use Rattle.std.proofs.Common.{◌≡◌, ◌≢◌, ℕ, zero, suc, ◌+◌, ◌-◌, ◌^◌, ◌<◌, ◌≤◌, ◌↔◌, Bool, true, false, IsTrue, IsSome}
use Rattle.std.proofs.Common.{if◌then◌else◌, Option, Some, None, List, [], ◌∷◌, length, slice_get, slice_index}
use Rattle.std.proofs.Common.{slice_index_or, arith, ⊎_elim, refl, sym, ap, ◌∙◌, subst}
use Rattle.std.proofs.lemmas.Bool.{cases_eq, cases_lt, ltb-true}
use Rattle.std.proofs.lemmas.Option.{cond_some, none-some, same_Some}
use Rattle.std.proofs.lemmas.List.{get_or_past}
use Rattle.sbpl_open.specs.KeyOrder.{ComesBefore}
use Rattle.sbpl_open.specs.OpenList.{OpenList, states_of, key_at, IsEmpty, ChangesKey, IsLeast}
use Rattle.sbpl_open.specs.declared.entry.Entry.{Entry}
use Rattle.sbpl_open.specs.Entries.{entry_at, key_of, state_at}
use Rattle.sbpl_open.specs.Heap.{AreParts, KeyChanges, is_there, key_where, keys_of, listed}
use Rattle.sbpl_open.proofs.Ordering.{before_from_rank, first_least}
use Rattle.sbpl_open.proofs.Agreeing.{place_at, state_of}
use Rattle.sbpl_open.proofs.Keeping.{key_missing, key_present}

length_listed : {A : Type 0} (f : ℕ → A) (n : ℕ) → length (listed f n) ≡ n
unfolding listed
length_listed f zero = refl
length_listed f (suc n) = ap suc (length_listed (λ i. f (suc i)) n)

listed_at : {A : Type 0} (f : ℕ → A) (d : A) (n i : ℕ) → i < n → slice_index_or (listed f n) i d ≡ f i
unfolding listed
listed_at f d zero i inside = absurd (omega arith)
listed_at f d (suc n) zero inside = refl
listed_at f d (suc n) (suc i) inside = listed_at (λ j. f (suc j)) d n i (omega arith)

-- what is there has a key, and nothing else
pub some_there : (there : Bool) (key : ℕ × ℕ) → IsTrue there ↔ IsSome (if there then Some key else None)
some_there true key = (λ _. refl, λ _. refl)
some_there false key = (λ is. is, λ is. is)

module _ (heap : List Entry) (slots : List ℕ) where
  pub states_are : length (keys_of heap slots) ≡ length slots
  states_are = length_listed (key_where heap slots) (length slots)

  pub key_is : (s : ℕ) → slice_index_or (keys_of heap slots) s None ≡ key_where heap slots s
  key_is s =
      ⊎_elim
      (λ (inside : s < length slots). listed_at (key_where heap slots) None (length slots) s inside)
      (λ (past : length slots ≤ s).
      let none : slice_index slots s ≡ 0 = get_or_past slots s 0 past in
      get_or_past (keys_of heap slots) s None (omega (arith, states_are)) ∙ rw none refl)
      (cases_lt s (length slots))

  module _ {m : OpenList} (view : record { keys = keys_of heap slots } ≡ m) where
    pub states_view : states_of m ≡ length slots
    states_view = ap states_of (sym view) ∙ states_are

    pub key_view : (s : ℕ) → key_at m s ≡ key_where heap slots s
    key_view s = ap (λ f. key_at f s) (sym view) ∙ key_is s

    pub key_listed : (s i : ℕ) → slice_index slots s ≡ i + 1 → key_at m s ≡ Some (key_of (entry_at heap i))
    key_listed s i at = key_view s ∙ key_present heap slots s i at

    pub key_absent : (s : ℕ) → slice_index slots s ≡ 0 → key_at m s ≡ None
    key_absent s absent = key_view s ∙ key_missing heap slots s absent

    pub there_key : (s : ℕ) → IsSome (key_at m s) → 0 < slice_index slots s
    there_key s is =
        ltb-true 0 (slice_index slots s)
        ((some_there (is_there slots s) (key_of (entry_at heap (slice_index slots s - 1)))).1 (rw key_view at is))

    pub empty_view : ((s : ℕ) → slice_index slots s ≡ 0) → IsEmpty m
    empty_view absent = record { none = λ s. key_absent s (absent s) }

  pub states_fresh : (s : ℕ) → length slots ≡ s → states_of (record { keys = keys_of heap slots }) ≡ s
  states_fresh s states = states_are ∙ states

  pub empty_fresh : ((s : ℕ) → s < length slots → slice_index slots s ≡ 0)
      → IsEmpty (record { keys = keys_of heap slots })
  empty_fresh absent =
      empty_view refl
      (λ s.
      ⊎_elim
      (λ (inside : s < length slots). absent s inside)
      (λ (past : length slots ≤ s). get_or_past slots s 0 past)
      (cases_lt s (length slots)))

-- what has changed of the heap has changed of the map
pub changes_view : (heap : List Entry) (slots : List ℕ) (heap' : List Entry) (slots' : List ℕ) (s : ℕ)
    (key : Option (ℕ × ℕ)) {m : OpenList}
    → record { keys = keys_of heap slots } ≡ m → length slots' ≡ length slots → KeyChanges heap slots heap' slots' s key
    → ChangesKey m (record { keys = keys_of heap' slots' }) s key
changes_view heap slots heap' slots' s key view states change = record {
  states = states_are heap' slots' ∙ states ∙ sym (states_view heap slots view);
  at = key_is heap' slots' s ∙ change.at;
  others = λ u apart. key_is heap' slots' u ∙ change.others u apart ∙ sym (key_view heap slots view u);
}

-- the second parts of keys go on fitting their type, as a state gets a key or leaves
pub small_put : {heap heap' : List Entry} {slots slots' : List ℕ} {s first second : ℕ}
    → ((u : ℕ) (key : ℕ × ℕ) → key_where heap slots u ≡ Some key → key.1 < 2 ^ 64)
    → KeyChanges heap slots heap' slots' s (Some (first, second)) → second < 2 ^ 64
    → (u : ℕ) (key : ℕ × ℕ) → key_where heap' slots' u ≡ Some key → key.1 < 2 ^ 64
small_put {heap' = heap'} {slots' = slots'} {s = s} {first = first} {second = second} small change fits u key is =
    ⊎_elim
    (λ (own : u ≡ s).
    let same : (first, second) ≡ key =
    same_Some (first, second) key (sym change.at ∙ sym (ap (key_where heap' slots') own) ∙ is) in
    rw (← ap (λ (k : ℕ × ℕ). k.1) same) fits)
    (λ (apart : u ≢ s). small u key (sym (change.others u apart) ∙ is))
    (cases_eq u s)

pub small_left : {heap heap' : List Entry} {slots slots' : List ℕ} {s : ℕ}
    → ((u : ℕ) (key : ℕ × ℕ) → key_where heap slots u ≡ Some key → key.1 < 2 ^ 64)
    → KeyChanges heap slots heap' slots' s None
    → (u : ℕ) (key : ℕ × ℕ) → key_where heap' slots' u ≡ Some key → key.1 < 2 ^ 64
small_left {heap' = heap'} {slots' = slots'} {s = s} small change u key is =
    ⊎_elim
    (λ (own : u ≡ s). absurd (none-some key (sym change.at ∙ sym (ap (key_where heap' slots') own) ∙ is)))
    (λ (apart : u ≢ s). small u key (sym (change.others u apart) ∙ is))
    (cases_eq u s)

-- what is at the first slot is the least
pub least_view : (heap : List Entry) (slots : List ℕ) (room : ℕ) (entry : Entry) {m : OpenList}
    → record { keys = keys_of heap slots } ≡ m
    → AreParts heap slots room → 0 < length heap → entry_at heap 0 ≡ entry → IsLeast m entry.state (key_of entry)
least_view heap slots room entry {m} view parts some at =
    let state = ap (λ (e : Entry). e.state) at in
    let known : entry.state < length slots = omega (arith, parts.agreed.inside 0 some, state) in
    let placed : slice_index slots entry.state ≡ 0 + 1 =
    ap (slice_index slots) (sym state) ∙ parts.agreed.placed 0 some in
    record {
      inside = omega (arith, states_view heap slots view);
      there = key_listed heap slots view entry.state 0 placed ∙ ap (λ (e : Entry). Some (key_of e)) at;
      first = λ u other is apart.
          let slot = slice_index slots u - 1 in
          let found =
          cond_some (is_there slots u) (key_of (entry_at heap slot)) other (sym (key_view heap slots view u) ∙ is) in
          let there : 0 < slice_index slots u = ltb-true 0 (slice_index slots u) found.0 in
          let own = place_at u parts.agreed there in
          let low = first_least parts.ordered slot own.0 in
          let few = parts.few in
          let known_u = state_of u parts.agreed there in
          let at_place : slice_index slots u ≡ slot + 1 = omega arith in
          let small_first =
          parts.small entry.state (key_of (entry_at heap 0)) (key_present heap slots entry.state 0 placed) in
          let small_other = parts.small u (key_of (entry_at heap slot)) (key_present heap slots u slot at_place) in
          let state_u = own.1 in
          let before =
          before_from_rank (entry_at heap 0) (entry_at heap slot) small_first small_other (omega arith) (omega arith)
          low (λ e. apart (sym own.1 ∙ sym e ∙ state)) in
          subst (λ (k : ℕ × ℕ). ComesBefore (key_of entry) entry.state k u) found.1
          (subst (λ (x : ℕ). ComesBefore (key_of entry) entry.state (key_of (entry_at heap slot)) x) own.1
          (subst (λ (e : Entry). ComesBefore (key_of e) e.state (key_of (entry_at heap slot)) (state_at heap slot))
          at before));
    }

-- a list without a first element is empty
pub length_none : {A : Type 0} (xs : List A) → None ≡ slice_get xs 0 → length xs ≡ 0
length_none [] none = refl
length_none (x ∷ xs) none = cc
