-- Numbers without a sign: their digits, and that what is printed is read back.
use Rattle.std.proofs.Common.{◌≡◌, ℕ, zero, suc, ◌+◌, ◌*◌, ◌/◌, ◌%◌, ◌^◌, ◌<◌, true, List, [], ◌∷◌, ◌++◌, length, eqb}
use Rattle.std.proofs.Common.{ltb, refl, ap, ◌∙◌, arith, inl, inr, pow-suc}
use Rattle.std.specs.Prelude.{decimal}
use Rattle.std.proofs.lemmas.Bool.{cases_Bool, cases_lt, and_parts, eqb-true, eq-eqb, le-leb, lt-ltb, ltb-true}
use Rattle.std.proofs.lemmas.List.{length-append}
use Rattle.std.proofs.lemmas.List.Folds.{list_all-append}
use Rattle.sbpl_fixed.specs.Tokens.{is_filled}
use Rattle.sbpl_fixed.specs.Numbers.{is_digit, all_digits, number_after, number_of, is_whole, whole_part, decimals_part}
use Rattle.sbpl_fixed.specs.Printed.{last_digits, milli_text}
use Rattle.sbpl_fixed.specs.Unsigned.{digits_of, is_milli, milli_of, IsDigits, IsMilli, DigitsHaveValues}
use Rattle.sbpl_fixed.specs.Unsigned.{NoOthersAreDigits, MillisHaveValues, NoOthersAreMillis}
use Rattle.sbpl_fixed.specs.Unsigned.{DecimalsAreDigits, DecimalsAreReadBack, DecimalsAreWords}
use Rattle.sbpl_fixed.specs.Unsigned.{ThousandthsAreMillis, ThousandthsAreReadBack, ThousandthsAreWords}
use Rattle.sbpl_fixed.proofs.Forms.{parted, point_parts}
use Rattle.std.proofs.lemmas.Fmt.{decimal_step_wide, decimal_digit}
use Rattle.sbpl_fixed.proofs.ReadBack.{number_push, last_number, last_are_digits, last_length, digits_filled}

-- ---- by parts

pub digits_have_values : DigitsHaveValues
unfolding digits_of
digits_have_values end text w = rw (lt-ltb 0 (length text) w.some, w.digits_only) refl

digits_from_test : (text : List ℕ) → is_whole text ≡ true → IsDigits text
digits_from_test text e =
    let both = and_parts (ltb 0 (length text)) (all_digits text) e in
    record { digits_only = both.1; some = ltb-true 0 (length text) both.0 }

pub no_others_are_digits : NoOthersAreDigits
unfolding digits_of
no_others_are_digits end text =
    elim (cases_Bool (is_whole text)) [ inl e ↦ inr (digits_from_test text e) | inr e ↦ inl (rw e refl) ]

pub millis_have_values : MillisHaveValues
unfolding milli_of
millis_have_values end text whole decimals w =
    let parts = parted whole (46 ∷ []) decimals w.whole_digits.digits_only (inl refl) in
    rw (
      w.parts,
      parts.0,
      parts.1,
      lt-ltb 0 (length whole) w.whole_digits.some,
      w.whole_digits.digits_only,
      w.decimal_digits,
      eq-eqb (length decimals) 3 w.three,
    ) refl

pub no_others_are_millis : NoOthersAreMillis
unfolding milli_of
no_others_are_millis end text =
    elim (cases_Bool (is_milli text)) [
      | inl e ↦
          let both = and_parts (is_whole (whole_part text)) _ e in
          let rest = and_parts (all_digits (decimals_part text)) (eqb (length (decimals_part text)) 3) both.1 in
          let three = eqb-true (length (decimals_part text)) 3 rest.1 in
          let point = point_parts text in
          let is : point.0 ≡ 46 ∷ [] = elim point.2 [
            | inl q ↦ q
            | inr q ↦ absurd (let none : length (decimals_part text) ≡ 0 = rw q.1 refl in omega arith)
          ] in
          inr (
            whole_part text,
            decimals_part text,
            record {
              parts = point.1 ∙ ap (λ (x : List ℕ). whole_part text ++ (x ++ decimals_part text)) is;
              whole_digits = digits_from_test (whole_part text) both.0;
              decimal_digits = rest.0;
              three = three;
            },
          )
      | inr e ↦ inl (rw e refl)
    ]

-- ---- what is printed

one_digit : (n : ℕ) → n < 10 → IsDigits (decimal n) × (number_of (decimal n) ≡ n)
unfolding number_after
one_digit n lt =
    rw (decimal_digit n lt) (
      record {
        digits_only = rw (le-leb 48 (48 + n) (omega arith), le-leb (48 + n) 57 (omega arith)) refl;
        some = omega arith;
      },
      omega arith,
    )

one_more_digit : (n : ℕ) (ds : List ℕ) (d : ℕ) → d < 10 → IsDigits ds × (number_of ds ≡ n)
    → IsDigits (ds ++ (48 + d) ∷ []) × (number_of (ds ++ (48 + d) ∷ []) ≡ n * 10 + d)
one_more_digit n ds d lt w = (
  record {
    digits_only =
        rw (
          list_all-append is_digit ds ((48 + d) ∷ []),
          w.0.digits_only,
          le-leb 48 (48 + d) (omega arith),
          le-leb (48 + d) 57 (omega arith),
        ) refl;
    some = omega (arith, length-append ds ((48 + d) ∷ []));
  },
  number_push 0 ds (48 + d) ∙ omega (arith, w.1),
)

-- a number below ten to the k is printed as its digits
pub decimal_is : (k n : ℕ) → n < 10 ^ k → n < 10 ^ 39 → IsDigits (decimal n) × (number_of (decimal n) ≡ n)
decimal_is zero n lt small = one_digit n (omega arith)
decimal_is (suc k) n lt small =
    elim (cases_lt n 10) [
      | inl one ↦ one_digit n one
      | inr two ↦ (
          let shorter : n / 10 < 10 ^ k = omega (arith, lt, pow-suc 10 k) in
          let more =
          one_more_digit (n / 10) (decimal (n / 10)) (n % 10) (omega arith)
          (decimal_is k (n / 10) shorter (omega arith)) in
          rw (decimal_step_wide n two (omega arith)) (more.0, more.1 ∙ omega arith)
          )
    ]

pub decimals_are_digits : DecimalsAreDigits
decimals_are_digits n small = decimal_is 39 n small small

pub decimals_are_read_back : DecimalsAreReadBack
unfolding digits_of
decimals_are_read_back end n small lt =
    let w = decimal_is 39 n small small in
    digits_have_values end (decimal n) w.0 ∙ rw (w.1, lt-ltb n end lt) refl

pub decimals_are_words : DecimalsAreWords
decimals_are_words n small = let w = decimal_is 39 n small small in record {
  some = w.0.some;
  filled = digits_filled (decimal n) w.0.digits_only;
}

pub milli_is : (n : ℕ) → n < 10 ^ 39
    → IsMilli (milli_text n) (decimal (n / 1000)) (last_digits 3 (n % 1000))
    × (number_of (decimal (n / 1000)) * 1000 + number_of (last_digits 3 (n % 1000)) ≡ n)
milli_is n small =
    let w = decimal_is 39 (n / 1000) (omega arith) (omega arith) in
    let last = last_number 3 (n % 1000) (omega arith) in (
      record {
        parts = refl;
        whole_digits = w.0;
        decimal_digits = last_are_digits 3 (n % 1000);
        three = last_length 3 (n % 1000);
      },
      omega (arith, w.1, last),
    )

pub thousandths_are_millis : ThousandthsAreMillis
thousandths_are_millis n small = let w = milli_is n small in (_, _, w.0, w.1)

pub thousandths_are_read_back : ThousandthsAreReadBack
unfolding milli_of
thousandths_are_read_back end n small lt =
    let w = milli_is n small in
    millis_have_values end (milli_text n) (decimal (n / 1000)) (last_digits 3 (n % 1000)) w.0
    ∙ rw (w.1, lt-ltb n end lt) refl

pub thousandths_are_words : ThousandthsAreWords
thousandths_are_words n small =
    let w = milli_is n small in record {
      some = omega (arith, length-append (decimal (n / 1000)) (46 ∷ last_digits 3 (n % 1000)));
      filled =
          rw (
            list_all-append is_filled (decimal (n / 1000)) (46 ∷ last_digits 3 (n % 1000)),
            digits_filled (decimal (n / 1000)) w.0.whole_digits.digits_only,
          ) (digits_filled (last_digits 3 (n % 1000)) w.0.decimal_digits);
    }
