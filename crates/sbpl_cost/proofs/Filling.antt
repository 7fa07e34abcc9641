-- The prefix of a list with one element more, and tables that are filled one entry after another.
use Rattle.std.proofs.Common.{◌≡◌, ℕ, ◌+◌, ◌<◌, inl, inr, ◌⊎◌, Bool, true, false, cond, List, [], ◌∷◌, ◌++◌, length}
use Rattle.std.proofs.Common.{take, slice_get, Some, ap, ◌∙◌, arith, subst}
use Rattle.std.proofs.lemmas.Bool.{cases_lt}
use Rattle.std.proofs.lemmas.Grind.{common_steps}
use Rattle.std.proofs.lemmas.List.{length-take-le, append-nil}
use Rattle.std.proofs.lemmas.Option.{gets, slice_get_within}
use Rattle.sbpl_cost.specs.Lattices.{indices_from}
use Rattle.sbpl_cost.proofs.Numbered.{indices_from-push}

-- the elements before the next one and that one
pub take_next : {X : Type 0} (xs : List X) (i : ℕ) (x : X) → slice_get xs i ≡ Some x
    → take (i + 1) xs ≡ take i xs ++ x ∷ []
take_next xs i x h = grind (arith, common_steps, gets)

-- an element of the first n + 1 is one of the first n or the next
pub among : {X : Type 0} (xs : List X) (n : ℕ) (x : X) (i : ℕ) (y : X) → slice_get xs n ≡ Some x
    → slice_get (take (n + 1) xs) i ≡ Some y → (slice_get (take n xs) i ≡ Some y) ⊎ (x ≡ y)
among xs n x i y next at = grind (arith, common_steps, gets)

-- one more element that passes, and one that doesn't
pub indices_more : {X : Type 0} (test : X → Bool) (xs : List X) (i : ℕ) (x : X) → slice_get xs i ≡ Some x
    → indices_from test 0 (take (i + 1) xs) ≡ indices_from test 0 (take i xs) ++ cond (test x) (i ∷ []) []
indices_more test xs i x h =
    let within = slice_get_within xs i x h in
    let n : 0 + length (take i xs) ≡ i = omega (arith, length-take-le i xs (omega arith)) in
    ap (indices_from test 0) (take_next xs i x h) ∙ indices_from-push test 0 (take i xs) x
    ∙ ap (λ k. indices_from test 0 (take i xs) ++ cond (test x) (k ∷ []) []) n

pub indices_yes : {X : Type 0} (test : X → Bool) (xs : List X) (i : ℕ) (x : X) → slice_get xs i ≡ Some x → test x ≡ true
    → indices_from test 0 (take (i + 1) xs) ≡ indices_from test 0 (take i xs) ++ i ∷ []
indices_yes test xs i x h passes =
    indices_more test xs i x h ∙ ap (λ b. indices_from test 0 (take i xs) ++ cond b (i ∷ []) []) passes

pub indices_no : {X : Type 0} (test : X → Bool) (xs : List X) (i : ℕ) (x : X) → slice_get xs i ≡ Some x → test x ≡ false
    → indices_from test 0 (take (i + 1) xs) ≡ indices_from test 0 (take i xs)
indices_no test xs i x h fails =
    indices_more test xs i x h ∙ ap (λ b. indices_from test 0 (take i xs) ++ cond b (i ∷ []) []) fails
    ∙ append-nil (indices_from test 0 (take i xs))

-- a table has n entries, and each is as it has to be
abbrev pub IsFilled : {X : Type 0} → (ℕ → X → Type 0) → List X → ℕ → Type 0
IsFilled {X} P table n = (length table ≡ n) × ((k : ℕ) → k < n → (y : X) × (slice_get table k ≡ Some y) × P k y)

-- one more entry
pub filled_more : {X : Type 0} (P : ℕ → X → Type 0) (table new : List X) (n : ℕ) (x : X) → IsFilled P table n
    → new ≡ table ++ x ∷ [] → P n x → IsFilled P new (n + 1)
filled_more P table new n x (count, old) added right = (
  grind (arith, common_steps, gets),
  λ k h.
      elim (cases_lt k n) [
        | inl before ↦ let was = old k before in (was.0, grind (arith, common_steps, gets, was.1), was.2)
        | inr after ↦
            let last : n ≡ k = omega arith in (x, grind (arith, common_steps, gets), subst (λ m. P m x) last right)
      ],
)
