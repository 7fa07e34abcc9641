-- What is read as a number is one in plain words.
use Rattle.std.proofs.Common.{◌≡◌, ◌≢◌, ◌⊎◌, ◌∙◌, ◌+◌, ◌-◌, ◌*◌, ◌^◌, ◌<◌, ◌≤◌, ◌&&◌, ℕ, zero, suc, ℤ, Bool, true}
use Rattle.std.proofs.Common.{false, List, [], ◌∷◌, ◌++◌, length, take, replicate, get_or, Result, Ok, Err}
use Rattle.std.proofs.Common.{if◌then◌else◌, eqb, ltb, leb, refl, sym, ap, arith, inl, inr, one-add, rules}
use Rattle.std.proofs.Common.{add-mul, mul_assoc}
use Rattle.std.proofs.Math.Nat.{pow-succ'}
use Rattle.std.specs.List.{AllByRecursion, prefix_len}
use Rattle.std.specs.Str.Parse.{digits_value}
use Rattle.std.proofs.lemmas.Bool.{cases_Bool, and_parts, eqb-true, leb-true, ltb-true}
use Rattle.std.proofs.lemmas.List.{length-append}
use Rattle.std.proofs.lemmas.List.Folds.{list_all-append}
use Rattle.std.proofs.lemmas.Str.Parse.{IsNumeralModel, numerals_by_fold}
use Rattle.sbpl_promises.specs.sbpl_fixed.Numbers.{all_digits, decimals_part, is_decimal, is_digit, is_minus, is_no_point, is_whole}
use Rattle.sbpl_promises.specs.sbpl_fixed.Numbers.{most, nano_number, nano_of, nine_decimals, number_after, number_of, signed, sized}
use Rattle.sbpl_promises.specs.sbpl_fixed.Numbers.{whole_of, whole_part, without_sign}
use Rattle.sbpl_promises.specs.sbpl_fixed.declared.fault.NumFault.{NumFault}
use Rattle.sbpl_promises.specs.sbpl_fixed.declared.fault.NumFault.TheVariants.{Form, Size}
use Rattle.sbpl_headline.specs.Numbers.{AreDigits, IsNanos, IsNumber, IsSigned}

-- ---- what is read

-- where a choice between a result and a fault gives a value, the choice is for the result
taken : {A E : Type 0} → (b : Bool) (r : Result A E) (e : E) (z : A) → (if b then r else Err e) ≡ Ok z
    → (b ≡ true) × (r ≡ Ok z)
taken true r e z h = (refl, h)
taken false r e z h = absurd (let no : ⊥ = cc in no)

-- two results that are the same have the same value
same_Ok : {A E : Type 0} → (x z : A) → ◌≡◌ {A = Result A E} (Ok x) (Ok z) → x ≡ z
same_Ok x z h = cc

-- a number that is not too great has its sign
sized_is : (minus : Bool) (n : ℕ) (z : ℤ) → sized minus n ≡ Ok z → z ≡ signed minus n
sized_is minus n z h =
    let read = taken {E = NumFault} (leb n most) (Ok (signed minus n)) Size z h in
    sym (same_Ok {E = NumFault} (signed minus n) z read.1)

-- ---- signs

-- a text is what follows its sign, with a minus, a plus or nothing before it
sign_stands : (text : List ℕ)
    → ((text ≡ 45 ∷ without_sign text) × (is_minus text ≡ true))
    ⊎ (((text ≡ 43 ∷ without_sign text) ⊎ (text ≡ without_sign text)) × (is_minus text ≡ false))
sign_stands [] = inr (inr refl, refl)
sign_stands (b ∷ bs) =
    elim (cases_Bool (eqb b 45)) [
      | inl e ↦ let is : b ≡ 45 = eqb-true b 45 e in rw is (inl (refl, refl))
      | inr e ↦ elim (cases_Bool (eqb b 43)) [
        | inl f ↦ let is : b ≡ 43 = eqb-true b 43 f in rw is (inr (inl refl, refl))
        | inr f ↦ rw (f, e) (inr (inr refl, refl))
      ]
    ]

-- so the number with that sign is what the text says
signs : (text : List ℕ) (n : ℕ) (z : ℤ) → z ≡ signed (is_minus text) n → IsSigned text (without_sign text) n z
signs text n z e =
    elim (sign_stands text) [
      | inl m ↦ inl (m.0, e ∙ ap (λ (b : Bool). signed b n) m.1)
      | inr p ↦ inr (p.0, e ∙ ap (λ (b : Bool). signed b n) p.1)
    ]

-- ---- digits

-- bytes that pass the test are digits one by one
each_digit : (ds : List ℕ) → all_digits ds ≡ true → AllByRecursion (λ b. (48 ≤ b) × (b ≤ 57)) ds
each_digit [] e = tt
each_digit (d ∷ ds) e =
    let both = and_parts (is_digit d) (all_digits ds) e in
    let here = and_parts (leb 48 d) (leb d 57) both.0 in
    ((leb-true 48 d here.0, leb-true d 57 here.1), each_digit ds both.1)

-- some bytes are not none
not_none : (ds : List ℕ) → 0 < length ds → ds ≢ []
not_none [] h e = omega arith
not_none (d ∷ ds) h e = cc

-- one digit or more
are_digits : (ds : List ℕ) → 0 < length ds → all_digits ds ≡ true → AreDigits ds
are_digits ds some e = (not_none ds some, each_digit ds e)

-- digits and their number, in the words of std
numerals : IsNumeralModel (λ ds. all_digits ds ≡ true) number_of
unfolding number_after
numerals = numerals_by_fold (λ ds. all_digits ds ≡ true) (search rules) number_after (search rules)

-- the number of digits is what they write in base ten
number_is : (ds : List ℕ) → all_digits ds ≡ true → number_of ds ≡ digits_value 10 ds
number_is ds e = numerals.same ds (numerals.to ds e)

-- a whole number that is read is one in plain words
pub whole_says : (text : List ℕ) (z : ℤ) → whole_of text ≡ Ok z → IsNumber text z
unfolding whole_of
whole_says text z h =
    let body = without_sign text in
    let read = taken (is_whole body) (sized (is_minus text) (number_of body)) Form z h in
    let both = and_parts (ltb 0 (length body)) (all_digits body) read.0 in
    let value : z ≡ signed (is_minus text) (digits_value 10 body) =
    sized_is (is_minus text) (number_of body) z read.1
    ∙ ap (λ (n : ℕ). signed (is_minus text) n) (number_is body both.1) in (
      body,
      are_digits body (ltb-true 0 (length body) both.0) both.1,
      signs text (digits_value 10 body) z value,
    )

-- ---- decimals

-- a body is its whole part and its decimals with a point between them, or its whole part alone
point_stands : (body : List ℕ) → (body ≡ whole_part body ++ 46 ∷ decimals_part body)
    ⊎ ((body ≡ whole_part body) × (decimals_part body ≡ []))
point_stands [] = inr (refl, refl)
point_stands (b ∷ bs) =
    elim (cases_Bool (eqb b 46)) [
      | inl e ↦ let is : b ≡ 46 = eqb-true b 46 e in rw is (inl refl)
      | inr e ↦
          let longer : suc (prefix_len is_no_point bs) + 1 ≡ suc (prefix_len is_no_point bs + 1) = omega arith in
          rw (e, one-add, longer) (elim (point_stands bs) [
            | inl p ↦ inl (ap (λ (x : List ℕ). b ∷ x) p)
            | inr n ↦ inr (ap (λ (x : List ℕ). b ∷ x) n.0, n.1)
          ])
    ]

-- the first nine decimals are those of the decimals with zeros after them
nine_are : (ds : List ℕ) → nine_decimals ds ≡ take 9 (ds ++ replicate 9 48)
nine_are [] = refl
nine_are (a ∷ []) = refl
nine_are (a ∷ b ∷ []) = refl
nine_are (a ∷ b ∷ c ∷ []) = refl
nine_are (a ∷ b ∷ c ∷ d ∷ []) = refl
nine_are (a ∷ b ∷ c ∷ d ∷ e ∷ []) = refl
nine_are (a ∷ b ∷ c ∷ d ∷ e ∷ f ∷ []) = refl
nine_are (a ∷ b ∷ c ∷ d ∷ e ∷ f ∷ g ∷ []) = refl
nine_are (a ∷ b ∷ c ∷ d ∷ e ∷ f ∷ g ∷ h ∷ []) = refl
nine_are (a ∷ b ∷ c ∷ d ∷ e ∷ f ∷ g ∷ h ∷ i ∷ ds) = refl

-- a decimal is a digit, and so is the zero in the place of one that is missing
digit_or_zero : (ds : List ℕ) (i : ℕ) → all_digits ds ≡ true → is_digit (get_or ds i 48) ≡ true
digit_or_zero [] i e = refl
digit_or_zero (d ∷ ds) zero e = (and_parts (is_digit d) (all_digits ds) e).0
digit_or_zero (d ∷ ds) (suc i) e = digit_or_zero ds i (and_parts (is_digit d) (all_digits ds) e).1

-- the first nine decimals are digits
nine_digits : (ds : List ℕ) → all_digits ds ≡ true → all_digits (nine_decimals ds) ≡ true
nine_digits ds e =
    rw (
      digit_or_zero ds 0 e,
      digit_or_zero ds 1 e,
      digit_or_zero ds 2 e,
      digit_or_zero ds 3 e,
      digit_or_zero ds 4 e,
      digit_or_zero ds 5 e,
      digit_or_zero ds 6 e,
      digit_or_zero ds 7 e,
      digit_or_zero ds 8 e,
    ) refl

-- digits together are digits
both_digits : (a b : List ℕ) → all_digits a ≡ true → all_digits b ≡ true → all_digits (a ++ b) ≡ true
both_digits a b e f = rw (list_all-append is_digit a b, e, f) refl

-- a digit before others weighs ten times what their first place does
weight : (n e p q more : ℕ) → q ≡ 10 * p → (n * 10 + e) * p + more ≡ n * q + ((0 * 10 + e) * p + more)
weight n e p q more h =
    let ten : n * q ≡ n * 10 * p = ap (λ (x : ℕ). n * x) h ∙ sym (mul_assoc n 10 p) in
    let front : (n * 10 + e) * p ≡ n * 10 * p + e * p = add-mul (n * 10) e p in
    let none : (0 * 10 + e) * p ≡ e * p = ap (λ (x : ℕ). x * p) (omega arith) in
    omega (arith, ten, front, none)

-- digits after a number weigh what they write, and the number weighs their places more
weighed : (n : ℕ) (ds : List ℕ) → number_after n ds ≡ n * 10 ^ length ds + number_after 0 ds
unfolding number_after
weighed n [] = omega arith
weighed n (d ∷ ds) =
    weighed (n * 10 + (d - 48)) ds
    ∙ weight n (d - 48) (10 ^ length ds) (10 ^ suc (length ds)) (number_after 0 ds) (pow-succ' 10 (length ds))
    ∙ ap (λ (x : ℕ). n * 10 ^ suc (length ds) + x) (sym (weighed (0 * 10 + (d - 48)) ds))

-- the digits of two texts, one after the other
after_both : (n : ℕ) (a b : List ℕ) → number_after n (a ++ b) ≡ number_after (number_after n a) b
unfolding number_after
after_both n [] b = refl
after_both n (d ∷ ds) b = after_both (n * 10 + (d - 48)) ds b

-- billionths are what the whole part and the first nine decimals write together
nano_is : (whole decimals : List ℕ) → all_digits whole ≡ true → all_digits decimals ≡ true
    → number_of whole * 10 ^ 9 + number_of (nine_decimals decimals)
    ≡ digits_value 10 (whole ++ take 9 (decimals ++ replicate 9 48))
nano_is whole decimals e f =
    let nine = nine_decimals decimals in
    sym (after_both 0 whole nine ∙ weighed (number_of whole) nine)
    ∙ number_is (whole ++ nine) (both_digits whole nine e (nine_digits decimals f))
    ∙ ap (λ (x : List ℕ). digits_value 10 (whole ++ x)) (nine_are decimals)

-- a decimal that is read is one in plain words
pub nano_says : (text : List ℕ) (z : ℤ) → nano_of text ≡ Ok z → IsNanos text z
unfolding nano_of
nano_says text z h =
    let body = without_sign text in
    let whole = whole_part body in
    let decimals = decimals_part body in
    let read = taken (is_decimal body) (sized (is_minus text) (nano_number body)) Form z h in
    let both =
    and_parts (ltb 0 (length whole + length decimals)) (all_digits whole && all_digits decimals) read.0 in
    let digits = and_parts (all_digits whole) (all_digits decimals) both.1 in
    let some : 0 < length (whole ++ decimals) =
    omega (arith, length-append whole decimals, ltb-true 0 (length whole + length decimals) both.0) in
    let number = digits_value 10 (whole ++ take 9 (decimals ++ replicate 9 48)) in
    let value : z ≡ signed (is_minus text) number =
    sized_is (is_minus text) (nano_number body) z read.1
    ∙ ap (λ (n : ℕ). signed (is_minus text) n) (nano_is whole decimals digits.0 digits.1) in (
      whole,
      decimals,
      body,
      are_digits (whole ++ decimals) some (both_digits whole decimals digits.0 digits.1),
      point_stands body,
      signs text number z value,
    )
