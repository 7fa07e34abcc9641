-- What a token is: a longest run of bytes that are not blanks.
use Rattle.std.specs.Prelude.{◌≡◌, ℕ, ◌+◌, ◌<◌, ◌≤◌, Bool, true, ◌⊎◌, List, [], ◌∷◌, ◌++◌, length}
use Rattle.std.specs.List.{list_all}
use Rattle.sbpl_fixed.specs.Tokens.{is_blank, is_filled, tokens_from, Piece}

-- the last byte is a blank; where there is no byte, as given
abbrev pub ends_blank : Bool → List ℕ → Bool
ends_blank empty [] = empty
ends_blank empty (b ∷ bs) = ends_blank (is_blank b) bs

-- the first byte is a blank, or there is no byte
abbrev pub begins_blank : List ℕ → Bool
begins_blank [] = true
begins_blank (b ∷ bs) = is_blank b

-- A run in a text that begins at a place, with or without a blank before it (fresh): filled bytes, with a blank or
-- nothing before them and after them.
pub record IsRun (fresh : Bool) (place : ℕ) (text : List ℕ) (t : Piece) : Type 0 where
  pub before : List ℕ
  pub after : List ℕ
  pub parts : text ≡ before ++ (t.bytes ++ after)
  pub here : t.place ≡ place + length before
  pub some : 0 < length t.bytes
  pub filled : list_all is_filled t.bytes ≡ true
  pub begins : ends_blank fresh before ≡ true
  pub ends : begins_blank after ≡ true

-- one of the longest runs of a text
abbrev pub IsLongestRun : List ℕ → Piece → Type 0
IsLongestRun text t = IsRun true 0 text t

abbrev pub IsOneOf : Piece → List Piece → Type 0
IsOneOf t [] = ⊥
IsOneOf t (s ∷ ss) = (t ≡ s) ⊎ IsOneOf t ss

-- each stands after the one before it, and none before low
abbrev pub AreAbove : ℕ → List Piece → Type 0
AreAbove low [] = Unit {0}
AreAbove low (t ∷ ts) = (low ≤ t.place) × AreAbove (t.place + 1) ts

-- a token of a text from an offset on stands there or later and within the text, and the tokens from its end on are those that come after it
abbrev pub TokensGoOn : Type 0
TokensGoOn = (text : List ℕ) (at : ℕ) (before : List Piece) (t : Piece) (after : List Piece) → at ≤ length text → tokens_from text at ≡ before ++ t ∷ after
    → (at ≤ t.place) × (0 < length t.bytes) × (t.place + length t.bytes ≤ length text) × (tokens_from text (t.place + length t.bytes) ≡ after)
