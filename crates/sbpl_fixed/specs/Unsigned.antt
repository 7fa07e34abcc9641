-- Numbers without a sign, below a limit. Leading zeros are allowed.
use Rattle.std.specs.Prelude.{◌≡◌, ℕ, ◌+◌, ◌*◌, ◌^◌, ◌<◌, Bool, true, ◌&&◌, ◌⊎◌, if◌then◌else◌, nat_lt, ◌==◌, List, ◌∷◌, ◌++◌, length, decimal, Result, Ok, Err}
use Rattle.sbpl_fixed.specs.Numbers.{all_digits, number_of, is_whole, whole_part, decimals_part}
use Rattle.sbpl_fixed.specs.Printed.{milli_text}
use Rattle.sbpl_fixed.specs.ReadBack.{IsWord}
use Rattle.sbpl_fixed.specs.declared.fault.NumFault.{NumFault}
use Rattle.sbpl_fixed.specs.declared.fault.NumFault.TheVariants.{Form, Size}

-- a number below the limit
abbrev pub below : ℕ → ℕ → Result ℕ NumFault
below end n = if nat_lt n end then Ok n else Err Size

-- what a text says as a number of digits alone
unfoldable pub digits_of : ℕ → List ℕ → Result ℕ NumFault
digits_of end text = if is_whole text then below end (number_of text) else Err Form

-- digits, a point and three digits
abbrev pub is_milli : List ℕ → Bool
is_milli text = is_whole (whole_part text) && (all_digits (decimals_part text) && (length (decimals_part text) == 3))

-- what a text says in thousandths
unfoldable pub milli_of : ℕ → List ℕ → Result ℕ NumFault
milli_of end text = if is_milli text then below end (number_of (whole_part text) * 1000 + number_of (decimals_part text)) else Err Form

-- ---- in plain words

-- one or more digits and no other byte
pub record IsDigits (text : List ℕ) : Type 0 where
  pub digits_only : all_digits text ≡ true
  pub some : 0 < length text

-- digits, a point and three digits
pub record IsMilli (text whole decimals : List ℕ) : Type 0 where
  pub parts : text ≡ whole ++ 46 ∷ decimals
  pub whole_digits : IsDigits whole
  pub decimal_digits : all_digits decimals ≡ true
  pub three : length decimals ≡ 3

-- digits are worth their number
abbrev pub DigitsHaveValues : Type 0
DigitsHaveValues = (end : ℕ) (text : List ℕ) → IsDigits text → digits_of end text ≡ below end (number_of text)

-- and no other text is a number of digits
abbrev pub NoOthersAreDigits : Type 0
NoOthersAreDigits = (end : ℕ) (text : List ℕ) → (digits_of end text ≡ Err Form) ⊎ IsDigits text

abbrev pub MillisHaveValues : Type 0
MillisHaveValues = (end : ℕ) (text whole decimals : List ℕ) → IsMilli text whole decimals → milli_of end text ≡ below end (number_of whole * 1000 + number_of decimals)

abbrev pub NoOthersAreMillis : Type 0
NoOthersAreMillis = (end : ℕ) (text : List ℕ) → (milli_of end text ≡ Err Form) ⊎ ((whole : List ℕ) × (decimals : List ℕ) × IsMilli text whole decimals)

-- ---- what is printed is read back, and is one token

abbrev pub DecimalsAreReadBack : Type 0
DecimalsAreReadBack = (end n : ℕ) → n < 10 ^ 39 → n < end → digits_of end (decimal n) ≡ Ok n

abbrev pub DecimalsAreWords : Type 0
DecimalsAreWords = (n : ℕ) → n < 10 ^ 39 → IsWord (decimal n)

abbrev pub ThousandthsAreReadBack : Type 0
ThousandthsAreReadBack = (end n : ℕ) → n < 10 ^ 39 → n < end → milli_of end (milli_text n) ≡ Ok n

abbrev pub ThousandthsAreWords : Type 0
ThousandthsAreWords = (n : ℕ) → n < 10 ^ 39 → IsWord (milli_text n)

-- what is printed is digits, and writes the number
abbrev pub DecimalsAreDigits : Type 0
DecimalsAreDigits = (n : ℕ) → n < 10 ^ 39 → IsDigits (decimal n) × (number_of (decimal n) ≡ n)

abbrev pub ThousandthsAreMillis : Type 0
ThousandthsAreMillis = (n : ℕ) → n < 10 ^ 39 → (whole : List ℕ) × (decimals : List ℕ) × IsMilli (milli_text n) whole decimals × (number_of whole * 1000 + number_of decimals ≡ n)

-- what is read as a number without a sign, and what is printed as one
pub record NumbersAreTheirDigits : Type 0 where
  pub digits : DigitsHaveValues
  pub other_digits : NoOthersAreDigits
  pub millis : MillisHaveValues
  pub other_millis : NoOthersAreMillis
  pub printed_digits : DecimalsAreDigits
  pub digits_back : DecimalsAreReadBack
  pub digit_words : DecimalsAreWords
  pub printed_millis : ThousandthsAreMillis
  pub millis_back : ThousandthsAreReadBack
  pub milli_words : ThousandthsAreWords
