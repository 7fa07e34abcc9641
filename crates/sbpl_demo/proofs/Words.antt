-- Numbers of four decimals are words, and are read back.
use Rattle.std.proofs.Common.{◌≡◌, ℕ, ◌+◌, ◌*◌, ◌/◌, ◌%◌, ◌^◌, ◌<◌, ◌≤◌, ℤ, pos, negsuc, neg_ℤ, Bool, true, false, List}
use Rattle.std.proofs.Common.{[], ◌∷◌, ◌++◌, Ok, refl, ap, ◌∙◌, inl, inr, arith}
use Rattle.std.specs.Prelude.{decimal, unsigned_abs}
use Rattle.std.proofs.lemmas.Int.{ints}
use Rattle.sbpl_fixed.specs.Numbers.{nano_of, nine_decimals, number_after, number_of, signed, sized}
use Rattle.sbpl_fixed.specs.NumberForms.{IsSign}
use Rattle.sbpl_fixed.specs.Printed.{last_digits, point_text}
use Rattle.sbpl_fixed.specs.ReadBack.{IsWord}
use Rattle.sbpl_fixed.proofs.Forms.{decimals_have_values}
use Rattle.sbpl_fixed.proofs.ReadBack.{point_filled, point_is, point_some, sized_ok, whole_digits}
use Rattle.sbpl_demo.specs.Primitives.{nanos, parts_text}

nine_of_four : (n : ℕ) → n < 10000 → number_of (nine_decimals (last_digits 4 n)) ≡ n * 10 ^ 5
unfolding last_digits number_after
nine_of_four n lt = omega arith

parts_back : (n : ℕ) (sign : List ℕ) (minus : Bool) → n ≤ 10 ^ 13 → IsSign sign minus
    → nano_of (sign ++ point_text 4 n) ≡ Ok (signed minus (n * 10 ^ 5))
parts_back n sign minus le s =
    let small : n / 10 ^ 4 < 2 ^ 64 = omega arith in
    let value =
    decimals_have_values (sign ++ point_text 4 n) minus (decimal (n / 10 ^ 4)) (last_digits 4 (n % 10 ^ 4))
    (point_is 4 n sign minus small s) in
    let sum : number_of (decimal (n / 10 ^ 4)) * 10 ^ 9 + number_of (nine_decimals (last_digits 4 (n % 10 ^ 4)))
    ≡ n * 10 ^ 5 =
    rw ((whole_digits (n / 10 ^ 4) small).1, nine_of_four (n % 10 ^ 4) (omega arith)) (omega arith) in
    value ∙ ap (sized minus) sum ∙ sized_ok minus (n * 10 ^ 5) (omega arith)

up : (n : ℕ) → pos (n * 10 ^ 5) ≡ nanos (pos n)
up n = omega (arith, ints)

down : (n : ℕ) → neg_ℤ (pos ((n + 1) * 10 ^ 5)) ≡ nanos (negsuc n)
down n = omega (arith, ints)

pub parts_are_read_back : (z : ℤ) → unsigned_abs z ≤ 10 ^ 13 → nano_of (parts_text z) ≡ Ok (nanos z)
parts_are_read_back (pos n) le = parts_back n [] false le (inr (inr refl, refl)) ∙ ap (λ v. Ok v) (up n)
parts_are_read_back (negsuc n) le =
    parts_back (n + 1) (45 ∷ []) true (omega (arith, le)) (inl (refl, refl)) ∙ ap (λ v. Ok v) (down n)

pub parts_are_words : (z : ℤ) → unsigned_abs z ≤ 10 ^ 13 → IsWord (parts_text z)
parts_are_words (pos n) le = record { some = point_some 4 n; filled = point_filled 4 n (omega (arith, le)) }
parts_are_words (negsuc n) le = record { some = omega arith; filled = point_filled 4 (n + 1) (omega (arith, le)) }
