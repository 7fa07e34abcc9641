-- Digits that are written from the end.
use Rattle.std.proofs.Common.{◌≡◌, ℕ, zero, suc, ◌+◌, ◌-◌, ◌*◌, ◌/◌, ◌%◌, ◌^◌, ◌<◌, ◌≤◌, List, [], ◌∷◌, ◌++◌, refl, sym}
use Rattle.std.proofs.Common.{append_assoc, add-one, arith}
use Rattle.std.proofs.lemmas.Grind.{pow_more}
use Rattle.std.specs.Prelude.{decimal}
use Rattle.std.proofs.lemmas.Fmt.{decimal_step_wide, decimal_digit}
use Rattle.sbpl_fixed.specs.Printed.{last_digits}

pub decimal_longer : (n : ℕ) (after : List ℕ) → 10 ≤ n → n < 10 ^ 39
    → decimal (n / 10) ++ (48 + n % 10) ∷ after ≡ decimal n ++ after
decimal_longer n after two small =
    rw (decimal_step_wide n two (omega arith)) (sym (append_assoc (decimal (n / 10)) ((48 + n % 10) ∷ []) after))

pub decimal_last : (n : ℕ) (after : List ℕ) → n < 10 → (48 + n) ∷ after ≡ decimal n ++ after
decimal_last n after lt = rw (decimal_digit n lt) refl

-- a number of two digits or more has one digit more than its tenth
pub one_shorter : (n k : ℕ) → 10 ≤ n → n < 10 ^ k → (2 ≤ k) × (n / 10 < 10 ^ (k - 1))
one_shorter n zero two lt = absurd (omega arith)
one_shorter n (suc zero) two lt = absurd (omega arith)
one_shorter n (suc (suc k)) two lt =
    let p : 10 ^ (suc k + 1) ≡ 10 ^ suc k * 10 = pow_more 10 (suc k) in
    let q : n < 10 ^ (suc k + 1) = rw add-one lt in
    let e : suc (suc k) - 1 ≡ suc k = omega arith in
    (omega arith, rw e (omega (arith, p, q)))

pub last_digits_longer : (count n : ℕ) (after : List ℕ)
    → last_digits count (n / 10) ++ (48 + n % 10) ∷ after ≡ last_digits (suc count) n ++ after
unfolding last_digits
last_digits_longer count n after = sym (append_assoc (last_digits count (n / 10)) ((48 + n % 10) ∷ []) after)
