-- How often numbers stand in a list.
use Rattle.std.proofs.Common.{◌≡◌, ◌≢◌, ℕ, zero, suc, ◌+◌, ◌<◌, ◌≤◌, cond, nat_eq, List, [], ◌∷◌, ◌++◌, length, arith}
use Rattle.std.proofs.Common.{⊎_elim, refl, sym, ◌∙◌, eq-eqb}
use Rattle.std.proofs.lemmas.Bool.{cases_eq, ne_eqb}
use Rattle.std.proofs.lemmas.List.{get_or_default}
use Rattle.std.proofs.lemmas.List.Quantifiers.{all_pairs_push}
use Rattle.std.specs.List.{AllPairs, Contains}

-- how often a number stands in a list
abbrev occurrences : List ℕ → ℕ → ℕ
occurrences [] s = 0
occurrences (x ∷ xs) s = cond (nat_eq x s) 1 0 + occurrences xs s

-- whether two numbers are equal, as one or none
abbrev one_if : ℕ → ℕ → ℕ
one_if x s = cond (nat_eq x s) 1 0

one_if_same : (x s : ℕ) → x ≡ s → one_if x s ≡ 1
one_if_same x s same = rw (eq-eqb x s same) refl

one_if_other : (x s : ℕ) → x ≢ s → one_if x s ≡ 0
one_if_other x s other = rw (ne_eqb x s other) refl

-- what is not there does not occur
pub occurs_not : (xs : List ℕ) (s : ℕ) → (Contains xs s → ⊥) → occurrences xs s ≡ 0
occurs_not [] s none = refl
occurs_not (x ∷ xs) s none =
    let other : x ≢ s = λ e. none (0, omega arith, e) in
    let first : one_if x s ≡ 0 = one_if_other x s other in
    let rest : occurrences xs s ≡ 0 = occurs_not xs s (λ among. none (suc among.0, omega (arith, among.1), among.2)) in
    omega (arith, first, rest)

-- what differs from all later ones occurs once
occurs_once : (xs : List ℕ) (s : ℕ) → AllPairs (λ (a b : ℕ). a ≢ b) xs → occurrences xs s ≤ 1
occurs_once [] s apart = omega arith
occurs_once (x ∷ xs) s apart =
    let rest : occurrences xs s ≤ 1 =
    occurs_once xs s (λ i j d before inside. apart (suc i) (suc j) d (omega (arith, before)) (omega (arith, inside))) in
    ⊎_elim
    (λ (at : x ≡ s).
    let none : occurrences xs s ≡ 0 =
    occurs_not xs s (λ among. apart 0 (suc among.0) s (omega arith) (omega (arith, among.1)) (at ∙ sym among.2)) in
    omega (arith, one_if_same x s at, none))
    (λ (other : x ≢ s). omega (arith, one_if_other x s other, rest))
    (cases_eq x s)

-- a number that was not there differs from each that was
pub once_push : (xs : List ℕ) (x : ℕ) → (Contains xs x → ⊥) → AllPairs (λ (a b : ℕ). a ≢ b) xs
    → AllPairs (λ (a b : ℕ). a ≢ b) (xs ++ x ∷ [])
once_push xs x none once =
    all_pairs_push (λ (a b : ℕ). a ≢ b) xs x once
    (λ k d inside same. none (k, inside, get_or_default xs k x d inside ∙ same))

-- ---- how long a list is

abbrev sum_below : (ℕ → ℕ) → ℕ → ℕ
sum_below f zero = 0
sum_below f (suc n) = sum_below f n + f n

sum_none : (x n : ℕ) → n ≤ x → sum_below (one_if x) n ≡ 0
sum_none x zero past = refl
sum_none x (suc n) past = omega (arith, sum_none x n (omega arith), one_if_other x n (λ e. omega (arith, e)))

sum_one : (x n : ℕ) → x < n → sum_below (one_if x) n ≡ 1
sum_one x zero inside = absurd (omega arith)
sum_one x (suc n) inside =
    ⊎_elim
    (λ (at : x ≡ n). omega (arith, sum_none x n (omega (arith, at)), one_if_same x n at))
    (λ (other : x ≢ n). omega (arith, sum_one x n (omega arith), one_if_other x n other))
    (cases_eq x n)

sum_cons : (x : ℕ) (xs : List ℕ) (n : ℕ)
    → sum_below (occurrences (x ∷ xs)) n ≡ sum_below (one_if x) n + sum_below (occurrences xs) n
sum_cons x xs zero = refl
sum_cons x xs (suc n) = omega (arith, sum_cons x xs n)

sum_nil : (n : ℕ) → sum_below (occurrences []) n ≡ 0
sum_nil zero = refl
sum_nil (suc n) = omega (arith, sum_nil n)

sum_length : (xs : List ℕ) (n : ℕ) → ((s : ℕ) → Contains xs s → s < n) → sum_below (occurrences xs) n ≡ length xs
sum_length [] n inside = sum_nil n
sum_length (x ∷ xs) n inside =
    omega (
      arith,
      sum_cons x xs n,
      sum_one x n (inside x (0, omega arith, refl)),
      sum_length xs n (λ s among. inside s (suc among.0, omega (arith, among.1), among.2)),
    )

sum_most : (f : ℕ → ℕ) (n : ℕ) → ((s : ℕ) → f s ≤ 1) → sum_below f n ≤ n
sum_most f zero most = omega arith
sum_most f (suc n) most = omega (arith, sum_most f n most, most n)

-- states that stand there once are no more than there are states
pub few : (xs : List ℕ) (n : ℕ) → ((s : ℕ) → Contains xs s → s < n) → AllPairs (λ (a b : ℕ). a ≢ b) xs → length xs ≤ n
few xs n inside once = omega (arith, sum_length xs n inside, sum_most (occurrences xs) n (λ s. occurs_once xs s once))
