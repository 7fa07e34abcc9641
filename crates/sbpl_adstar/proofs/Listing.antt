-- The underconsistent states are listed.
use Rattle.std.proofs.Common.{◌≡◌, ◌≢◌, ℕ, ◌+◌, ◌<◌, ◌≤◌, List, [], ◌∷◌, ◌++◌, length, get_or, slice_index, arith}
use Rattle.std.proofs.Common.{⊎_elim, inl, sym, ◌∙◌, subst}
use Rattle.std.proofs.lemmas.Bool.{cases_eq}
use Rattle.std.proofs.lemmas.List.{get_or_default}
use Rattle.std.proofs.lemmas.List.Quantifiers.{all_pairs_push}
use Rattle.std.proofs.lemmas.List.Elements.{Contains-append_left, Contains-get_or, Contains-push, Contains-push_cases}
use Rattle.std.proofs.lemmas.List.Kept.{AllPairs-from_increasing}
use Rattle.std.specs.List.{All, AllPairs, Contains}
use Rattle.std.specs.List.Sorted.{IsStrictlyIncreasing}
use Rattle.sbpl_ara.specs.sbpl_labels.Marks.{Marks, states_of}
use Rattle.sbpl_ara.specs.sbpl_serial.Run.{IsUnder}
use Rattle.sbpl_adstar.specs.Listed.{AreListed}
use Rattle.sbpl_adstar.proofs.Occurrences.{few}

-- the list has the underconsistent ones of the first i states of a row, upwards
pub record IsListing (m : Marks) (row : ℕ → ℕ) (i : ℕ) (list : List ℕ) : Type 0 where
  pub among : (s : ℕ) → Contains list s → (j : ℕ) × (j < i) × (row j ≡ s)
  pub under : (s : ℕ) → Contains list s → IsUnder m s
  pub all : (j : ℕ) → j < i → IsUnder m (row j) → Contains list (row j)
  pub upwards : AllPairs (λ (s t : ℕ). s < t) list

-- what comes upwards is there once
apart : (list : List ℕ) → AllPairs (λ (s t : ℕ). s < t) list → AllPairs (λ (s t : ℕ). s ≢ t) list
apart list upwards a b d before inside same = omega (arith, upwards a b d before inside, same)

-- and each number is below the next
pub listing_upwards : {m : Marks} {row : ℕ → ℕ} {list : List ℕ} (i : ℕ) → IsListing m row i list
    → IsStrictlyIncreasing list
listing_upwards {m} {row} {list} i here k inside = here.upwards k (k + 1) 0 (omega arith) inside

pub listing_none : (m : Marks) (row : ℕ → ℕ) → IsListing m row 0 []
listing_none m row = record {
  among = λ s among. absurd (omega (arith, among.1));
  under = λ s among. absurd (omega (arith, among.1));
  all = λ j before under. absurd (omega (arith, before));
  upwards = λ a b d before inside. absurd (omega (arith, before, inside));
}

module _ {m : Marks} {row : ℕ → ℕ} {list : List ℕ} (i : ℕ) (here : IsListing m row i list) where
  pub listing_passed : (IsUnder m (row i) → ⊥) → IsListing m row (i + 1) list
  listing_passed none = record {
    among = λ s among. let at = here.among s among in (at.0, omega (arith, at.1), at.2);
    under = here.under;
    all = λ j before under.
        ⊎_elim
        (λ (at : j ≡ i). absurd (none (rw at at under)))
        (λ (apart : j ≢ i). here.all j (omega arith) under)
        (cases_eq j i);
    upwards = here.upwards;
  }

  pub listing_more : ((j : ℕ) → j < i → row j < row i) → IsUnder m (row i) → IsListing m row (i + 1) (list ++ row i ∷ [])
  listing_more upwards own =
      let s : ℕ = row i in
      let above : (k : ℕ) (d : ℕ) → k < length list → get_or list k d < s =
      λ k d within. let at = here.among (get_or list k d) (Contains-get_or list k d within) in
      let less : row at.0 < row i = upwards at.0 at.1 in omega (arith, less, at.2)
      in
      record {
        among = λ t among.
            ⊎_elim
            (λ (before : Contains list t). let at = here.among t before in (at.0, omega (arith, at.1), at.2))
            (λ (last : s ≡ t). (i, omega arith, last))
            (Contains-push_cases list s t among);
        under = λ t among.
            ⊎_elim
            (λ (before : Contains list t). here.under t before)
            (λ (last : s ≡ t). subst (IsUnder m) last own)
            (Contains-push_cases list s t among);
        all = λ j before under.
            ⊎_elim
            (λ (at : j ≡ i).
            subst (λ (k : ℕ). Contains (list ++ s ∷ []) (row k)) (sym at) (Contains-push list s))
            (λ (apart : j ≢ i).
            Contains-append_left list (s ∷ []) (row j) (here.all j (omega arith) under))
            (cases_eq j i);
        upwards = all_pairs_push (λ (a b : ℕ). a < b) list s here.upwards above;
      }

  -- each is a state, as those are
  pub listed_inside : ((j : ℕ) → j < i → row j < states_of m) → (s : ℕ) → Contains list s → s < states_of m
  listed_inside inside s among =
      let at = here.among s among in
      subst (λ (t : ℕ). t < states_of m) at.2 (inside at.0 at.1)

  -- there is room for them
  pub room_for : ((j : ℕ) → j < i → row j < states_of m) → length list ≤ states_of m
  room_for inside = few list (states_of m) (listed_inside inside) (apart list here.upwards)

  -- they are all, where each underconsistent state is one of the row
  pub listing_all : ((j : ℕ) → j < i → row j < states_of m)
      → ((s : ℕ) → s < states_of m → IsUnder m s → (j : ℕ) × (j < i) × (row j ≡ s)) → AreListed m list
  listing_all inside under = record {
    inside = listed_inside inside;
    all = λ s within own.
        let at = under s within own in
        subst (Contains list) at.2 (here.all at.0 at.1 (subst (IsUnder m) (sym at.2) own));
    only = λ s among. inl (here.under s among);
    once = apart list here.upwards;
  }

-- a row of states that come upwards, as a list
module _ (states : List ℕ) where
  pub rises : IsStrictlyIncreasing states → (i : ℕ) → i < length states → (j : ℕ) → j < i
      → slice_index states j < slice_index states i
  rises upwards i inside j before = AllPairs-from_increasing states upwards j i 0 before inside

  pub within_row : (count : ℕ) → All (λ (t : ℕ). t < count) states → (i : ℕ) → i ≤ length states → (j : ℕ) → j < i
      → slice_index states j < count
  within_row count inside i within j before = inside j 0 (omega (arith, within, before))

  pub found_in : (s : ℕ) → Contains states s → (j : ℕ) × (j < length states) × (slice_index states j ≡ s)
  found_in s at = (at.0, at.1, get_or_default states at.0 0 s at.1 ∙ at.2)

-- what holds of what is there holds of each
pub all_by : (P : ℕ → Type 0) (xs : List ℕ) → ((s : ℕ) → Contains xs s → P s) → All P xs
all_by P xs each k d inside = each _ (Contains-get_or xs k d inside)
