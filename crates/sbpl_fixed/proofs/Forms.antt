-- Numbers by their parts.
use Rattle.std.proofs.Common.{◌≡◌, ℕ, suc, ◌+◌, ◌<◌, Bool, true, false, not, ◌&&◌, ◌||◌, List, [], ◌∷◌, ◌++◌, length}
use Rattle.std.proofs.Common.{eqb, ltb, refl, ap, ◌∙◌, arith, inl, inr, one-add, rules}
use Rattle.std.specs.List.{prefix_len}
use Rattle.std.proofs.lemmas.Str.Parse.{IsNumeralModel, numerals_by_fold}
use Rattle.std.proofs.lemmas.Bool.{cases_Bool, and_parts, or_parts, not-true, eqb-true, ne_eqb, lt-ltb, ltb-true}
use Rattle.std.proofs.lemmas.List.{take_at, drop_at, drop_all, drop-drop, length-append}
use Rattle.sbpl_fixed.specs.Numbers.{is_digit, all_digits, number_after, number_of, is_no_point, is_minus, without_sign}
use Rattle.sbpl_fixed.specs.Numbers.{whole_part, decimals_part, is_whole, is_decimal, whole_of, nano_of}
use Rattle.sbpl_fixed.specs.NumberForms.{IsSign, IsPoint, WholesHaveValues, NoOthersAreWhole, DecimalsHaveValues}
use Rattle.sbpl_fixed.specs.NumberForms.{NoOthersAreDecimals, MissingDecimalsAreZeros, DigitsWriteNumbers}
use Rattle.sbpl_fixed.proofs.Digits.{IsDigit-from_test}

-- ---- digits

pub zeros_after : MissingDecimalsAreZeros
zeros_after [] = refl
zeros_after (a ∷ []) = refl
zeros_after (a ∷ b ∷ []) = refl
zeros_after (a ∷ b ∷ c ∷ []) = refl
zeros_after (a ∷ b ∷ c ∷ d ∷ []) = refl
zeros_after (a ∷ b ∷ c ∷ d ∷ e ∷ []) = refl
zeros_after (a ∷ b ∷ c ∷ d ∷ e ∷ f ∷ []) = refl
zeros_after (a ∷ b ∷ c ∷ d ∷ e ∷ f ∷ g ∷ []) = refl
zeros_after (a ∷ b ∷ c ∷ d ∷ e ∷ f ∷ g ∷ h ∷ []) = refl
zeros_after (a ∷ b ∷ c ∷ d ∷ e ∷ f ∷ g ∷ h ∷ i ∷ ds) = refl

pub numerals : IsNumeralModel (λ ds. all_digits ds ≡ true) number_of
unfolding number_after
numerals = numerals_by_fold (λ ds. all_digits ds ≡ true) (search rules) number_after (search rules)

pub write_numbers : DigitsWriteNumbers
write_numbers ds h = numerals.same ds (numerals.to ds h)

abbrev no_bytes : List ℕ
no_bytes = []

-- ---- signs

-- no sign stands first
abbrev is_plain : List ℕ → Bool
is_plain [] = true
is_plain (b ∷ bs) = not (eqb b 43 || eqb b 45)

plain_is : (body : List ℕ) → is_plain body ≡ true → (is_minus body ≡ false) × (without_sign body ≡ body)
plain_is [] h = (refl, refl)
plain_is (b ∷ bs) h =
    let neither = or_parts (eqb b 43) (eqb b 45) (not-true (eqb b 43 || eqb b 45) h) in
    (neither.1, rw (neither.0, neither.1) refl)

after_sign : (sign body : List ℕ) (minus : Bool) → IsSign sign minus → is_plain body ≡ true
    → (is_minus (sign ++ body) ≡ minus) × (without_sign (sign ++ body) ≡ body)
after_sign sign body minus h plain =
    elim h [
      | inl w ↦ rw (w.0, w.1) (refl, refl)
      | inr w ↦ elim w.0 [
        | inl plus ↦ rw (plus, w.1) (refl, refl)
        | inr none ↦ rw (none, w.1) (plain_is body plain)
      ]
    ]

-- what is before a body
sign_parts : (text : List ℕ) → (sign : List ℕ) × (text ≡ sign ++ without_sign text) × IsSign sign (is_minus text)
sign_parts [] = ([], refl, inr (inr refl, refl))
sign_parts (b ∷ bs) =
    elim (cases_Bool (eqb b 45)) [
      | inl e ↦ let is : b ≡ 45 = eqb-true b 45 e in rw is (45 ∷ [], refl, inl (refl, refl))
      | inr e ↦ elim (cases_Bool (eqb b 43)) [
        | inl f ↦ let is : b ≡ 43 = eqb-true b 43 f in rw is (43 ∷ [], refl, inr (inl refl, refl))
        | inr f ↦ rw (f, e) ([], refl, inr (inr refl, refl))
      ]
    ]

digits_plain : (b : ℕ) (bs : List ℕ) → is_digit b ≡ true → is_plain (b ∷ bs) ≡ true
digits_plain b bs e =
    let digit = IsDigit-from_test b e in
    let no_plus : eqb b 43 ≡ false = ne_eqb b 43 (λ q. omega (arith, q, digit.low)) in
    let no_minus : eqb b 45 ≡ false = ne_eqb b 45 (λ q. omega (arith, q, digit.low)) in
    rw (no_plus, no_minus) refl

-- ---- whole numbers

whole_plain : (digits : List ℕ) → all_digits digits ≡ true → is_plain digits ≡ true
whole_plain [] e = refl
whole_plain (d ∷ ds) e = digits_plain d ds (and_parts (is_digit d) (all_digits ds) e).0

pub wholes_have_values : WholesHaveValues
unfolding whole_of
wholes_have_values text minus digits w =
    let after = after_sign w.sign digits minus w.signed (whole_plain digits w.digits_only) in
    let some : ltb 0 (length digits) ≡ true = lt-ltb 0 (length digits) w.some in
    rw (w.parts, after.0, after.1, some, w.digits_only) refl

pub no_others_are_whole : NoOthersAreWhole
unfolding whole_of
no_others_are_whole text =
    elim (cases_Bool (is_whole (without_sign text))) [
      | inl e ↦
          let sign = sign_parts text in
          let both = and_parts (ltb 0 (length (without_sign text))) (all_digits (without_sign text)) e in
          inr (
            is_minus text,
            without_sign text,
            record {
              sign = sign.0;
              parts = sign.1;
              signed = sign.2;
              digits_only = both.1;
              some = ltb-true 0 (length (without_sign text)) both.0;
            },
          )
      | inr e ↦ inl (rw e refl)
    ]

-- ---- decimals

-- digits have no point among them
digits_front : (whole rest : List ℕ) → all_digits whole ≡ true → prefix_len is_no_point rest ≡ 0
    → prefix_len is_no_point (whole ++ rest) ≡ length whole
digits_front [] rest e h = h
digits_front (d ∷ ds) rest e h =
    let both = and_parts (is_digit d) (all_digits ds) e in
    let digit = IsDigit-from_test d both.0 in
    let no_point : eqb d 46 ≡ false = ne_eqb d 46 (λ q. omega (arith, q, digit.low)) in
    rw (no_point, one-add) (ap suc (digits_front ds rest both.1 h))

pub parted : (whole point decimals : List ℕ) → all_digits whole ≡ true → IsPoint point decimals
    → (whole_part (whole ++ (point ++ decimals)) ≡ whole) × (decimals_part (whole ++ (point ++ decimals)) ≡ decimals)
parted whole point decimals e h =
    elim h [
      | inl is ↦ rw is (
          let len : prefix_len is_no_point (whole ++ 46 ∷ decimals) ≡ length whole =
          digits_front whole (46 ∷ decimals) e refl in (
            rw len (take_at whole (46 ∷ decimals) (length whole) refl),
            rw (len, ← drop-drop, drop_at whole (46 ∷ decimals) (length whole) refl) refl,
          ))
      | inr is ↦ rw (is.0, is.1) (
          let len : prefix_len is_no_point (whole ++ []) ≡ length whole = digits_front whole [] e refl in (
            rw len (take_at whole [] (length whole) refl),
            rw len (drop_all (length whole + 1) (whole ++ []) (omega (arith, length-append whole (no_bytes)))),
          ))
    ]

body_plain : (whole point decimals : List ℕ) → all_digits whole ≡ true → IsPoint point decimals
    → 0 < length whole + length decimals → is_plain (whole ++ (point ++ decimals)) ≡ true
body_plain [] point decimals e h some =
    elim h [ inl is ↦ rw is refl | inr is ↦ absurd (let none : length decimals ≡ 0 = rw is.1 refl in omega arith) ]
body_plain (d ∷ ds) point decimals e h some =
    digits_plain d (ds ++ (point ++ decimals)) (and_parts (is_digit d) (all_digits ds) e).0

pub decimals_have_values : DecimalsHaveValues
unfolding nano_of
decimals_have_values text minus whole decimals w =
    let body = whole ++ (w.point ++ decimals) in
    let after =
    after_sign w.sign body minus w.signed (body_plain whole w.point decimals w.whole_digits w.pointed w.some) in
    let parts = parted whole w.point decimals w.whole_digits w.pointed in
    let some : ltb 0 (length whole + length decimals) ≡ true = lt-ltb 0 (length whole + length decimals) w.some in
    rw (w.parts, after.0, after.1, parts.0, parts.1, some, w.whole_digits, w.decimal_digits) refl

-- what is between a whole part and its decimals
pub point_parts : (body : List ℕ)
    → (point : List ℕ) × (body ≡ whole_part body ++ (point ++ decimals_part body)) × IsPoint point (decimals_part body)
point_parts [] = ([], refl, inr (refl, refl))
point_parts (b ∷ bs) =
    elim (cases_Bool (eqb b 46)) [
      | inl e ↦ let is : b ≡ 46 = eqb-true b 46 e in rw is (46 ∷ [], refl, inl refl)
      | inr e ↦
          let more = point_parts bs in
          let longer : suc (prefix_len is_no_point bs) + 1 ≡ suc (prefix_len is_no_point bs + 1) = omega arith in
          rw (e, one-add, longer) (more.0, ap (λ (x : List ℕ). b ∷ x) more.1, more.2)
    ]

pub no_others_are_decimals : NoOthersAreDecimals
unfolding nano_of
no_others_are_decimals text =
    elim (cases_Bool (is_decimal (without_sign text))) [
      | inl e ↦
          let body = without_sign text in
          let sign = sign_parts text in
          let point = point_parts body in
          let both =
          and_parts (ltb 0 (length (whole_part body) + length (decimals_part body)))
          (all_digits (whole_part body) && all_digits (decimals_part body)) e in
          let digits = and_parts (all_digits (whole_part body)) (all_digits (decimals_part body)) both.1 in
          inr (
            is_minus text,
            whole_part body,
            decimals_part body,
            record {
              sign = sign.0;
              point = point.0;
              parts = sign.1 ∙ ap (λ (x : List ℕ). sign.0 ++ x) point.1;
              signed = sign.2;
              pointed = point.2;
              whole_digits = digits.0;
              decimal_digits = digits.1;
              some = ltb-true 0 (length (whole_part body) + length (decimals_part body)) both.0;
            },
          )
      | inr e ↦ inl (rw e refl)
    ]
