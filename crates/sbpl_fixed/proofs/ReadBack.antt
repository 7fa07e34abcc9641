-- What is printed is read back, and is one token.
use Rattle.std.proofs.Common.{◌≡◌, ℕ, zero, suc, ◌+◌, ◌-◌, ◌*◌, ◌/◌, ◌%◌, ◌^◌, ◌<◌, ◌≤◌, Bool, true, false, List}
use Rattle.std.proofs.Common.{[], ◌∷◌, ◌++◌, length, eqb, leb, pos, negsuc, Ok, refl, sym, ap, ◌∙◌, arith, inl}
use Rattle.std.proofs.Common.{inr, add-one, pow-suc}
use Rattle.std.specs.Prelude.{decimal, take_while}
use Rattle.std.specs.List.{list_all, prefix_len}
use Rattle.std.proofs.lemmas.Fmt.{digits_decimal, digits_value-decimal, decimal_nonempty}
use Rattle.std.proofs.lemmas.Bool.{and_parts, and_from, ne_eqb, le-leb, not-true}
use Rattle.std.proofs.lemmas.List.{take_at, drop_at, length-append, append-nil}
use Rattle.std.proofs.lemmas.List.Folds.{list_all-append}
use Rattle.sbpl_fixed.specs.Tokens.{is_blank, is_filled, tokens_past}
use Rattle.sbpl_fixed.specs.Numbers.{is_digit, all_digits, number_after, number_of, nine_decimals, sized, signed}
use Rattle.sbpl_fixed.specs.Numbers.{most, whole_of, nano_of}
use Rattle.sbpl_fixed.specs.NumberForms.{IsSign, IsDecimal}
use Rattle.sbpl_fixed.specs.Printed.{last_digits, point_text, milli_text}
use Rattle.sbpl_fixed.specs.ReadBack.{NanosAreReadBack, MillisAreReadBack, WholesAreReadBack, NanosAreWords}
use Rattle.sbpl_fixed.specs.ReadBack.{WholesAreWords, WordsAreTokens, LastWordsAreTokens, BlanksPartTokens}
use Rattle.sbpl_fixed.specs.Runs.{begins_blank}
use Rattle.sbpl_fixed.proofs.Digits.{IsDigit-from_test}
use Rattle.sbpl_fixed.proofs.Forms.{numerals, zeros_after, wholes_have_values, decimals_have_values}
use Rattle.sbpl_fixed.proofs.Runs.{whole_front, is_front}
use Rattle.sbpl_fixed.proofs.Tokens.{skip_filled, first_token}

-- ---- the last digits

pub number_push : (n : ℕ) (ds : List ℕ) (d : ℕ) → number_after n (ds ++ d ∷ []) ≡ number_after n ds * 10 + (d - 48)
unfolding number_after
number_push n [] d = refl
number_push n (e ∷ ds) d = number_push (n * 10 + (e - 48)) ds d

pub last_number : (count n : ℕ) → n < 10 ^ count → number_of (last_digits count n) ≡ n
unfolding last_digits number_after
last_number zero n lt = omega arith
last_number (suc count) n lt =
    let shorter : n / 10 < 10 ^ count = omega (arith, lt, pow-suc 10 count) in
    let more = last_number count (n / 10) shorter in
    number_push 0 (last_digits count (n / 10)) (48 + n % 10) ∙ omega (arith, more)

pub last_are_digits : (count n : ℕ) → all_digits (last_digits count n) ≡ true
unfolding last_digits
last_are_digits zero n = refl
last_are_digits (suc count) n =
    let low : leb 48 (48 + n % 10) ≡ true = le-leb 48 (48 + n % 10) (omega arith) in
    let high : leb (48 + n % 10) 57 ≡ true = le-leb (48 + n % 10) 57 (omega arith) in
    rw (
      list_all-append is_digit (last_digits count (n / 10)) ((48 + n % 10) ∷ []),
      last_are_digits count (n / 10),
      low,
      high,
    ) refl

pub last_length : (count n : ℕ) → length (last_digits count n) ≡ count
unfolding last_digits
last_length zero n = refl
last_length (suc count) n =
    let more = last_length count (n / 10) in
    omega (arith, length-append (last_digits count (n / 10)) ((48 + n % 10) ∷ []), more)

nine_of_nine : (n : ℕ) → n < 10 ^ 9 → number_of (nine_decimals (last_digits 9 n)) ≡ n
nine_of_nine n lt =
    ap number_of (zeros_after (last_digits 9 n) ∙ take_at (last_digits 9 n) _ 9 (last_length 9 n)) ∙ last_number 9 n lt

nine_of_three : (n : ℕ) → n < 1000 → number_of (nine_decimals (last_digits 3 n)) ≡ n * 10 ^ 6
unfolding last_digits number_after
nine_of_three n lt = omega arith

-- ---- numbers

pub whole_digits : (n : ℕ) → n < 2 ^ 64
    → (all_digits (decimal n) ≡ true) × (number_of (decimal n) ≡ n) × (0 < length (decimal n))
whole_digits n lt = (digits_decimal numerals n lt, digits_value-decimal numerals n lt, decimal_nonempty n lt)

pub point_is : (count n : ℕ) (sign : List ℕ) (minus : Bool) → n / 10 ^ count < 2 ^ 64 → IsSign sign minus
    → IsDecimal (sign ++ point_text count n) minus (decimal (n / 10 ^ count)) (last_digits count (n % 10 ^ count))
point_is count n sign minus lt signed =
    let whole = whole_digits (n / 10 ^ count) lt in
    record {
      sign = sign;
      point = 46 ∷ [];
      parts = refl;
      signed = signed;
      pointed = inl refl;
      whole_digits = whole.0;
      decimal_digits = last_are_digits count (n % 10 ^ count);
      some = omega (arith, whole.2);
    }

pub sized_ok : (minus : Bool) (n : ℕ) → n ≤ most → sized minus n ≡ Ok (signed minus n)
sized_ok minus n le = rw (le-leb n most le) refl

nano_back : (n : ℕ) (sign : List ℕ) (minus : Bool) → n ≤ most → IsSign sign minus
    → nano_of (sign ++ point_text 9 n) ≡ Ok (signed minus n)
nano_back n sign minus le s =
    let small : n / 10 ^ 9 < 2 ^ 64 = omega arith in
    let value =
    decimals_have_values (sign ++ point_text 9 n) minus (decimal (n / 10 ^ 9)) (last_digits 9 (n % 10 ^ 9))
    (point_is 9 n sign minus small s) in
    let sum : number_of (decimal (n / 10 ^ 9)) * 10 ^ 9 + number_of (nine_decimals (last_digits 9 (n % 10 ^ 9))) ≡ n =
    rw ((whole_digits (n / 10 ^ 9) small).1, nine_of_nine (n % 10 ^ 9) (omega arith)) (omega arith) in
    value ∙ ap (sized minus) sum ∙ sized_ok minus n le

pub nanos_are_read_back : NanosAreReadBack
nanos_are_read_back (pos n) le = nano_back n [] false le (inr (inr refl, refl))
nanos_are_read_back (negsuc n) le =
    nano_back (n + 1) (45 ∷ []) true (omega (arith, le)) (inl (refl, refl)) ∙ rw add-one refl

pub millis_are_read_back : MillisAreReadBack
millis_are_read_back n le =
    let small : n / 10 ^ 3 < 2 ^ 64 = omega arith in
    let value =
    decimals_have_values (milli_text n) false (decimal (n / 10 ^ 3)) (last_digits 3 (n % 10 ^ 3))
    (point_is 3 n [] false small (inr (inr refl, refl))) in
    let sum : number_of (decimal (n / 10 ^ 3)) * 10 ^ 9 + number_of (nine_decimals (last_digits 3 (n % 10 ^ 3)))
    ≡ n * 10 ^ 6 =
    rw ((whole_digits (n / 10 ^ 3) small).1, nine_of_three (n % 10 ^ 3) (omega arith)) (omega arith) in
    value ∙ ap (sized false) sum ∙ sized_ok false (n * 10 ^ 6) le

whole_back : (n : ℕ) (sign : List ℕ) (minus : Bool) → n ≤ most → IsSign sign minus
    → whole_of (sign ++ decimal n) ≡ Ok (signed minus n)
whole_back n sign minus le s =
    let digits = whole_digits n (omega arith) in
    let value =
    wholes_have_values (sign ++ decimal n) minus (decimal n)
    (record { sign = sign; parts = refl; signed = s; digits_only = digits.0; some = digits.2 }) in
    value ∙ ap (sized minus) digits.1 ∙ sized_ok minus n le

pub wholes_are_read_back : WholesAreReadBack
wholes_are_read_back (pos n) le = whole_back n [] false le (inr (inr refl, refl))
wholes_are_read_back (negsuc n) le = whole_back (suc n) (45 ∷ []) true le (inl (refl, refl))

-- ---- tokens

digit_filled : (b : ℕ) → is_digit b ≡ true → is_filled b ≡ true
digit_filled b e =
    let digit = IsDigit-from_test b e in
    let other : (c : ℕ) → c < 48 → eqb b c ≡ false = λ c lt. ne_eqb b c (λ q. omega (arith, q, digit.low)) in
    rw (
      other 32 (omega arith),
      other 9 (omega arith),
      other 10 (omega arith),
      other 11 (omega arith),
      other 12 (omega arith),
      other 13 (omega arith),
    ) refl

pub digits_filled : (ds : List ℕ) → all_digits ds ≡ true → list_all is_filled ds ≡ true
digits_filled [] e = refl
digits_filled (d ∷ ds) e =
    let both = and_parts (is_digit d) (all_digits ds) e in
    and_from (is_filled d) (list_all is_filled ds) (digit_filled d both.0) (digits_filled ds both.1)

pub point_filled : (count n : ℕ) → n / 10 ^ count < 2 ^ 64 → list_all is_filled (point_text count n) ≡ true
point_filled count n lt =
    rw (
      list_all-append is_filled (decimal (n / 10 ^ count)) (46 ∷ last_digits count (n % 10 ^ count)),
      digits_filled (decimal (n / 10 ^ count)) (whole_digits (n / 10 ^ count) lt).0,
    )
    (digits_filled (last_digits count (n % 10 ^ count)) (last_are_digits count (n % 10 ^ count)))

pub point_some : (count n : ℕ) → 0 < length (point_text count n)
point_some count n = omega (arith, length-append (decimal (n / 10 ^ count)) (46 ∷ last_digits count (n % 10 ^ count)))

pub nanos_are_words : NanosAreWords
nanos_are_words (pos n) lt = record { some = point_some 9 n; filled = point_filled 9 n (omega arith) }
nanos_are_words (negsuc n) lt = record { some = omega arith; filled = point_filled 9 (n + 1) (omega arith) }

pub wholes_are_words : WholesAreWords
wholes_are_words (pos n) lt =
    let digits = whole_digits n (omega arith) in record { some = digits.2; filled = digits_filled (decimal n) digits.0 }
wholes_are_words (negsuc n) lt = let digits = whole_digits (suc n) (omega arith) in record {
  some = omega arith;
  filled = digits_filled (decimal (suc n)) digits.0;
}

abbrev no_more : List ℕ
no_more = []

word_token : (b : ℕ) (bs after : List ℕ) (place : ℕ) → list_all is_filled (b ∷ bs) ≡ true → begins_blank after ≡ true
    → tokens_past true place ((b ∷ bs) ++ after)
    ≡ record { place = place; bytes = b ∷ bs } ∷ tokens_past true (place + length (b ∷ bs)) after
word_token b bs after place filled ends =
    let no_blank : is_blank b ≡ false =
    not-true (is_blank b) (and_parts (is_filled b) (list_all is_filled bs) filled).0 in
    let whole : take_while is_filled (b ∷ (bs ++ after)) ≡ b ∷ bs = is_front (b ∷ bs) after filled ends in
    let len : prefix_len is_filled (b ∷ (bs ++ after)) ≡ length (b ∷ bs) = whole_front (b ∷ bs) after filled ends in
    let rest : tokens_past false place (b ∷ (bs ++ after)) ≡ tokens_past true (place + length (b ∷ bs)) after =
    skip_filled place (b ∷ (bs ++ after)) ∙ rw (len, drop_at (b ∷ bs) after (length (b ∷ bs)) refl) refl in
    first_token place b (bs ++ after) no_blank ∙ rw (whole, rest) refl

at_blank : (blank : ℕ) (rest : List ℕ) (place : ℕ) → is_blank blank ≡ true
    → tokens_past true place (blank ∷ rest) ≡ tokens_past true (place + 1) rest
unfolding tokens_past
at_blank blank rest place e = rw e refl

pub at_end : (place : ℕ) → tokens_past true place [] ≡ []
unfolding tokens_past
at_end place = refl

pub words_are_tokens : WordsAreTokens
words_are_tokens [] blank rest place word e = absurd (omega (arith, word.some))
words_are_tokens (b ∷ bs) blank rest place word e =
    word_token b bs (blank ∷ rest) place word.filled e ∙ rw (at_blank blank rest (place + length (b ∷ bs)) e) refl

pub last_words_are_tokens : LastWordsAreTokens
last_words_are_tokens [] place word = absurd (omega (arith, word.some))
last_words_are_tokens (b ∷ bs) place word =
    let whole : (b ∷ bs) ++ no_more ≡ b ∷ bs = append-nil (b ∷ bs) in
    ap (tokens_past true place) (sym whole) ∙ word_token b bs [] place word.filled refl
    ∙ rw (at_end (place + length (b ∷ bs))) refl

pub blanks_part_tokens : BlanksPartTokens
blanks_part_tokens blank rest place e = at_blank blank rest place e
