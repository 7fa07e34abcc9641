-- What `parse` reads of a seed.
use Rattle.std.proofs.Common.{◌≡◌, ◌≢◌, ℕ, ◌<◌, ◌≤◌, ◌^◌, Bool, true, false, ◌&&◌, List, [], ◌∷◌, length, get_or}
use Rattle.std.proofs.Common.{Option, Some, None, Result, Ok, Err, refl, sym, ap, ◌∙◌, nat_lt, if◌then◌else◌}
use Rattle.std.proofs.Common.{nat_eq, nat_le, slice_index_or}
use Rattle.std.proofs.lemmas.Bool.{and_parts, and_from, and_right, eq-eqb, eqb-true, leb-true, le-leb, lt-leb}
use Rattle.std.proofs.lemmas.Bool.{lt-ltb, ltb-true, true≢false}
use Rattle.std.proofs.lemmas.Str.Parse.{IsDigitsTest, FoldsDigits, IsNumeralModel, numerals_by_fold, parse_plain}
use Rattle.std.specs.Result.{OkIff, result_ok}
use Rattle.std.specs.Str.Parse.{ParsesUnsigned}
use Rattle.sbpl_cfg.specs.sbpl_fixed.declared.fault.NumFault.TheVariants.{Form, Size}
use Rattle.sbpl_cfg.specs.sbpl_fixed.Numbers.{all_digits, is_digit, is_whole, number_after, number_of}
use Rattle.sbpl_cfg.specs.sbpl_fixed.Unsigned.{digits_of}
use Rattle.sbpl_job.specs.Jobs.{seed_in}

tells_digits : IsDigitsTest (λ ds. all_digits ds ≡ true)
tells_digits = record {
  empty = refl;
  parts = λ c cs e. let k = and_parts (is_digit c) (all_digits cs) e in
      let m = and_parts _ _ k.0 in ((leb-true 48 c m.0, leb-true c 57 m.1), k.1);
  more = λ c cs k e. and_from _ _ (and_from _ _ (le-leb 48 c k.0) (le-leb c 57 k.1)) e;
}

folds_digits : FoldsDigits number_after
unfolding number_after
folds_digits = record { empty = λ n. refl; more = λ n c cs k. refl }

own : IsNumeralModel (λ ds. all_digits ds ≡ true) number_of
own = numerals_by_fold _ tells_digits number_after folds_digits

-- digits below the limit are read, and nothing else
by_tests : {E : Type 0} (text : List ℕ) (r : Result ℕ E) (some all fits : Bool) → nat_lt 0 (length text) ≡ some
    → all_digits text ≡ all → nat_lt (number_of text) (2 ^ 64) ≡ fits
    → OkIff r ((all_digits text ≡ true) × (0 < length text) × (number_of text < 2 ^ 64)) (number_of text)
    → result_ok (if some && all then (if fits then Ok (number_of text) else Err Size) else Err Form) ≡ result_ok r
by_tests text (Ok x) true true true some all fits is = ap Some (sym is.1)
by_tests text (Ok x) true true false some all fits is = let not = sym fits ∙ lt-ltb _ _ is.0.2 in cc
by_tests text (Ok x) true false fitting some all fits is = let not = sym all ∙ is.0.0 in cc
by_tests text (Ok x) false every fitting some all fits is = let not = sym some ∙ lt-ltb _ _ is.0.1 in cc
by_tests text (Err e) true true true some all fits is = absurd (is (all, ltb-true _ _ some, ltb-true _ _ fits))
by_tests text (Err e) true true false some all fits is = refl
by_tests text (Err e) true false fitting some all fits is = refl
by_tests text (Err e) false every fitting some all fits is = refl

pub digits_parsed : {E : Type 0} (text : List ℕ) (r : Result ℕ E) → ParsesUnsigned 64 10 text r → get_or text 0 0 ≢ 43
    → result_ok (digits_of (2 ^ 64) text) ≡ result_ok r
unfolding digits_of
digits_parsed text r parsed no_plus = by_tests text r _ _ _ refl refl refl (parse_plain own 64 text r parsed no_plus)

-- too many digits, and a plus, are no seed
pub long_is_none : (text : List ℕ) → 20 < length text → seed_in text ≡ None
long_is_none text long = rw (lt-leb (length text) 20 long) refl

pub plus_is_none : (text : List ℕ) → nat_eq (slice_index_or text 0 0) 43 ≡ true → seed_in text ≡ None
unfolding digits_of
plus_is_none [] plus = cc
plus_is_none (b ∷ bs) plus =
    let digit : is_digit b ≡ false = ap is_digit (eqb-true b 43 plus) in
    let none : is_whole (b ∷ bs) ≡ false =
    and_right (nat_lt 0 (length (b ∷ bs))) (all_digits (b ∷ bs)) (ap (λ (t : Bool). t && all_digits bs) digit) in
    ap (λ (t : Bool). if nat_le (length (b ∷ bs)) 20 then result_ok (if t then (if nat_lt (number_of (b ∷ bs)) (2 ^ 64)
    then Ok (number_of (b ∷ bs)) else Err Size) else Err Form) else None) none
    ∙ either (nat_le (length (b ∷ bs)) 20)
  where
    either : (t : Bool) → ◌≡◌ {A = Option ℕ} (if t then None else None) None
    either true = refl
    either false = refl

pub short_is_parsed : {E : Type 0} (text : List ℕ) (r : Result ℕ E) → length text ≤ 20
    → nat_eq (slice_index_or text 0 0) 43 ≡ false → ParsesUnsigned 64 10 text r → seed_in text ≡ result_ok r
short_is_parsed text r short no_plus parsed =
    ap (λ (t : Bool). if t then result_ok (digits_of (2 ^ 64) text) else None) (le-leb (length text) 20 short)
    ∙ digits_parsed text r parsed (λ same. true≢false (sym (eq-eqb (get_or text 0 0) 43 same) ∙ no_plus))
