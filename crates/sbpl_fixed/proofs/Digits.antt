-- Digits, and the number that they write up to a cap.
use Rattle.std.proofs.Common.{◌≡◌, ℕ, zero, suc, ◌+◌, ◌-◌, ◌*◌, ◌^◌, ◌<◌, ◌≤◌, min, Bool, true, List, [], ◌∷◌, length}
use Rattle.std.proofs.Common.{get_or, drop, refl, sym, ap, ◌∙◌, arith, inl, inr, leb, add-one}
use Rattle.std.proofs.lemmas.Bool.{and_parts, leb-true, cases_lt, lt-leb}
use Rattle.std.proofs.lemmas.List.{drop_all}
use Rattle.std.proofs.Math.Nat.{mul-le-mul_right, pow-succ', mul_assoc}
use Rattle.std.proofs.Math.Seq.{drop-cons}
use Rattle.sbpl_fixed.specs.Numbers.{is_digit, all_digits, number_after, number_of, nine_decimals, sized, most}

pub record IsDigit (b : ℕ) : Type 0 where
  pub low : 48 ≤ b
  pub high : b ≤ 57

pub IsDigit-from_test : (b : ℕ) → is_digit b ≡ true → IsDigit b
IsDigit-from_test b e =
    let both = and_parts (leb 48 b) (leb b 57) e in
    record { low = leb-true 48 b both.0; high = leb-true b 57 both.1 }

pub digit_at : (ds : List ℕ) (i : ℕ) → all_digits ds ≡ true → i < length ds → IsDigit (get_or ds i 0)
digit_at [] i e h = absurd (omega arith)
digit_at (d ∷ ds) zero e h = IsDigit-from_test d (and_parts (is_digit d) (all_digits ds) e).0
digit_at (d ∷ ds) (suc i) e h = digit_at ds i (and_parts (is_digit d) (all_digits ds) e).1 (omega arith)

grows : (n : ℕ) (ds : List ℕ) → n ≤ number_after n ds
unfolding number_after
grows n [] = omega arith
grows n (d ∷ ds) = let more = grows (n * 10 + (d - 48)) ds in omega arith

-- to cap a number on the way changes nothing in the end
capped : (cap n : ℕ) (ds : List ℕ) → min cap (number_after (min cap n) ds) ≡ min cap (number_after n ds)
capped cap n ds =
    elim (cases_lt cap n) [
      | inl lt ↦ let a = grows (min cap n) ds in let b = grows n ds in omega arith
      | inr le ↦ ap (λ (x : ℕ). min cap (number_after x ds)) (omega arith)
    ]

pub capped_more : (cap value next i : ℕ) (ds : List ℕ) (total : ℕ) → i < length ds
    → next ≡ min cap (value * 10 + (get_or ds i 0 - 48))
    → min cap (number_after value (drop i ds)) ≡ total → min cap (number_after next (drop (i + 1) ds)) ≡ total
unfolding number_after
capped_more cap value next i ds total h e so_far =
    let one : number_after value (drop i ds) ≡ number_after (value * 10 + (get_or ds i 0 - 48)) (drop (i + 1) ds) =
    rw (add-one, drop-cons ds i 0) refl in
    rw e (capped cap (value * 10 + (get_or ds i 0 - 48)) (drop (i + 1) ds) ∙ ap (min cap) (sym one) ∙ so_far)

pub capped_done : (cap value i : ℕ) (ds : List ℕ) (total : ℕ) → length ds ≤ i → value ≤ cap
    → min cap (number_after value (drop i ds)) ≡ total → value ≡ total
unfolding number_after
capped_done cap value i ds total h le so_far =
    let all : min cap (number_after value []) ≡ total = rw (drop_all i ds) at so_far in
    omega arith

-- a number of k digits is below 10 ^ k
pub digits_below : (n : ℕ) (ds : List ℕ) → all_digits ds ≡ true → number_after n ds < (n + 1) * 10 ^ length ds
unfolding number_after
digits_below n [] e = omega arith
digits_below n (d ∷ ds) e =
    let both = and_parts (is_digit d) (all_digits ds) e in
    let digit = IsDigit-from_test d both.0 in
    let more = digits_below (n * 10 + (d - 48)) ds both.1 in
    let room = mul-le-mul_right (10 ^ length ds) (let le : n * 10 + (d - 48) + 1 ≤ (n + 1) * 10 = omega arith in le) in
    let longer : (n + 1) * 10 ^ suc (length ds) ≡ (n + 1) * 10 * 10 ^ length ds =
    rw pow-succ' (sym (mul_assoc (n + 1) 10 (10 ^ length ds))) in
    omega (arith, more, room, longer)

-- the decimals with zeros after them are digits too
digit_or_zero : (ds : List ℕ) (i : ℕ) → all_digits ds ≡ true → is_digit (get_or ds i 48) ≡ true
digit_or_zero [] i e = refl
digit_or_zero (d ∷ ds) zero e = (and_parts (is_digit d) (all_digits ds) e).0
digit_or_zero (d ∷ ds) (suc i) e = digit_or_zero ds i (and_parts (is_digit d) (all_digits ds) e).1

pub nine_digits : (ds : List ℕ) → all_digits ds ≡ true → all_digits (nine_decimals ds) ≡ true
nine_digits ds e =
    rw (
      digit_or_zero ds 0 e,
      digit_or_zero ds 1 e,
      digit_or_zero ds 2 e,
      digit_or_zero ds 3 e,
      digit_or_zero ds 4 e,
      digit_or_zero ds 5 e,
      digit_or_zero ds 6 e,
      digit_or_zero ds 7 e,
      digit_or_zero ds 8 e,
    ) refl

pub nine_below : (ds : List ℕ) → all_digits ds ≡ true → number_of (nine_decimals ds) < 10 ^ 9
nine_below ds e = digits_below 0 (nine_decimals ds) (nine_digits ds e)

pub sized_nano_capped : (minus : Bool) (w d : ℕ)
    → sized minus (min (10 ^ 9 + 1) w * 10 ^ 9 + d) ≡ sized minus (w * 10 ^ 9 + d)
sized_nano_capped minus w d =
    elim (cases_lt (10 ^ 9 + 1) w) [
      | inl lt ↦
          let over : min (10 ^ 9 + 1) w ≡ 10 ^ 9 + 1 = omega arith in
          let near : most < (10 ^ 9 + 1) * 10 ^ 9 + d = omega arith in
          let far : most < w * 10 ^ 9 + d = omega arith in
          rw (over, lt-leb ((10 ^ 9 + 1) * 10 ^ 9 + d) most near, lt-leb (w * 10 ^ 9 + d) most far) refl
      | inr le ↦ ap (λ (x : ℕ). sized minus (x * 10 ^ 9 + d)) (omega arith)
    ]

pub three_below : (ds : List ℕ) → all_digits ds ≡ true → length ds ≡ 3 → number_of ds < 1000
three_below ds e three =
    let lt = digits_below 0 ds e in let power : 10 ^ length ds ≡ 1000 = ap (λ (k : ℕ). 10 ^ k) three in omega arith
