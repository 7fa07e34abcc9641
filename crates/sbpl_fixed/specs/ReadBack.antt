-- What is printed is read back.
use Rattle.std.specs.Prelude.{◌≡◌, ℕ, ◌+◌, ◌*◌, ◌^◌, ◌<◌, ◌≤◌, true, List, [], ◌∷◌, ◌++◌, length, ℤ, pos, unsigned_abs, Ok}
use Rattle.std.specs.List.{list_all}
use Rattle.std.specs.Fmt.{signed_decimal}
use Rattle.sbpl_fixed.specs.Tokens.{is_blank, is_filled, tokens_past}
use Rattle.sbpl_fixed.specs.Numbers.{most, whole_of, nano_of}
use Rattle.sbpl_fixed.specs.Printed.{milli_text, nano_text}

abbrev pub NanosAreReadBack : Type 0
NanosAreReadBack = (value : ℤ) → unsigned_abs value ≤ most → nano_of (nano_text value) ≡ Ok value

-- this many billionths
abbrev pub MillisAreReadBack : Type 0
MillisAreReadBack = (value : ℕ) → value * 10 ^ 6 ≤ most → nano_of (milli_text value) ≡ Ok (pos (value * 10 ^ 6))

-- what std writes for an integer
abbrev pub WholesAreReadBack : Type 0
WholesAreReadBack = (value : ℤ) → unsigned_abs value ≤ most → whole_of (signed_decimal value) ≡ Ok value

-- a text that is one token
pub record IsWord (bytes : List ℕ) : Type 0 where
  pub some : 0 < length bytes
  pub filled : list_all is_filled bytes ≡ true

abbrev pub NanosAreWords : Type 0
NanosAreWords = (value : ℤ) → unsigned_abs value < 2 ^ 64 → IsWord (nano_text value)

abbrev pub WholesAreWords : Type 0
WholesAreWords = (value : ℤ) → unsigned_abs value < 2 ^ 63 → IsWord (signed_decimal value)

-- a word and a blank after it are a token, and the tokens of what follows
abbrev pub WordsAreTokens : Type 0
WordsAreTokens = (word : List ℕ) (blank : ℕ) (rest : List ℕ) (place : ℕ) → IsWord word → is_blank blank ≡ true
    → tokens_past true place (word ++ blank ∷ rest) ≡ record { place = place; bytes = word } ∷ tokens_past true (place + length word + 1) rest

-- the same for a word at the end of a text
abbrev pub LastWordsAreTokens : Type 0
LastWordsAreTokens = (word : List ℕ) (place : ℕ) → IsWord word → tokens_past true place word ≡ record { place = place; bytes = word } ∷ []

-- a blank separates tokens, and is not one
abbrev pub BlanksPartTokens : Type 0
BlanksPartTokens = (blank : ℕ) (rest : List ℕ) (place : ℕ) → is_blank blank ≡ true → tokens_past true place (blank ∷ rest) ≡ tokens_past true (place + 1) rest
