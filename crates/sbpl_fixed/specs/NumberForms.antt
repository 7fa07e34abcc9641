-- Which texts are numbers, by their parts, and what they are worth.
use Rattle.std.specs.Prelude.{◌≡◌, ℕ, ◌+◌, ◌*◌, ◌^◌, ◌<◌, Bool, true, false, ◌⊎◌, List, [], ◌∷◌, ◌++◌, length, take, replicate, Err}
use Rattle.std.specs.Str.Parse.{digits_value}
use Rattle.sbpl_fixed.specs.Numbers.{all_digits, number_of, nine_decimals, sized, whole_of, nano_of}
use Rattle.sbpl_fixed.specs.declared.fault.NumFault.TheVariants.{Form}

-- a minus, a plus, or none
abbrev pub IsSign : List ℕ → Bool → Type 0
IsSign sign minus = ((sign ≡ 45 ∷ []) × (minus ≡ true)) ⊎ (((sign ≡ 43 ∷ []) ⊎ (sign ≡ [])) × (minus ≡ false))

-- a sign or none, and one digit or more
pub record IsWhole (text : List ℕ) (minus : Bool) (digits : List ℕ) : Type 0 where
  pub sign : List ℕ
  pub parts : text ≡ sign ++ digits
  pub signed : IsSign sign minus
  pub digits_only : all_digits digits ≡ true
  pub some : 0 < length digits

-- a point, or none and then no decimals
abbrev pub IsPoint : List ℕ → List ℕ → Type 0
IsPoint point decimals = (point ≡ 46 ∷ []) ⊎ ((point ≡ []) × (decimals ≡ []))

-- a sign or none, then digits with at most one point among, before or after them, and at least one digit
pub record IsDecimal (text : List ℕ) (minus : Bool) (whole decimals : List ℕ) : Type 0 where
  pub sign : List ℕ
  pub point : List ℕ
  pub parts : text ≡ sign ++ (whole ++ (point ++ decimals))
  pub signed : IsSign sign minus
  pub pointed : IsPoint point decimals
  pub whole_digits : all_digits whole ≡ true
  pub decimal_digits : all_digits decimals ≡ true
  pub some : 0 < length whole + length decimals

-- a whole number is worth its digits
abbrev pub WholesHaveValues : Type 0
WholesHaveValues = (text : List ℕ) (minus : Bool) (digits : List ℕ) → IsWhole text minus digits → whole_of text ≡ sized minus (number_of digits)

-- and no other text is one
abbrev pub NoOthersAreWhole : Type 0
NoOthersAreWhole = (text : List ℕ) → (whole_of text ≡ Err Form) ⊎ ((minus : Bool) × (digits : List ℕ) × IsWhole text minus digits)

-- a decimal is worth its whole part and its first nine decimals, in billionths
abbrev pub DecimalsHaveValues : Type 0
DecimalsHaveValues = (text : List ℕ) (minus : Bool) (whole decimals : List ℕ) → IsDecimal text minus whole decimals
    → nano_of text ≡ sized minus (number_of whole * 10 ^ 9 + number_of (nine_decimals decimals))

-- and no other text is one
abbrev pub NoOthersAreDecimals : Type 0
NoOthersAreDecimals = (text : List ℕ) → (nano_of text ≡ Err Form) ⊎ ((minus : Bool) × (whole : List ℕ) × (decimals : List ℕ) × IsDecimal text minus whole decimals)

-- the first nine decimals are those of the text with zeros after it
abbrev pub MissingDecimalsAreZeros : Type 0
MissingDecimalsAreZeros = (decimals : List ℕ) → nine_decimals decimals ≡ take 9 (decimals ++ replicate 9 48)

-- the number of digits is that which they write in base ten
abbrev pub DigitsWriteNumbers : Type 0
DigitsWriteNumbers = (digits : List ℕ) → all_digits digits ≡ true → number_of digits ≡ digits_value 10 digits
