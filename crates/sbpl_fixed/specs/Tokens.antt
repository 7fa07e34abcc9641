-- The tokens of a text: its longest runs of bytes that are not blanks.
use Rattle.std.specs.Prelude.{ℕ, ◌+◌, ◌-◌, Bool, true, false, not, ◌||◌, if◌then◌else◌, ◌==◌, List, [], ◌∷◌, take, drop, slice_index, take_while}

-- space, tab, line feed, vertical tab, form feed, carriage return
abbrev pub is_blank : ℕ → Bool
is_blank b = (b == 32) || (b == 9) || (b == 10) || (b == 11) || (b == 12) || (b == 13)

abbrev pub is_filled : ℕ → Bool
is_filled b = not (is_blank b)

-- a token: where its first byte stands, and its bytes
pub record Piece : Type 0 where
  pub place : ℕ
  pub bytes : List ℕ

-- The tokens that begin in a text at this place: at each filled byte after a blank, and at a filled first byte where fresh is true.
unfoldable pub tokens_past : Bool → ℕ → List ℕ → List Piece
tokens_past fresh place [] = []
tokens_past fresh place (b ∷ bs) =
    if is_blank b then tokens_past true (place + 1) bs
    else (if fresh then record { place = place; bytes = take_while is_filled (b ∷ bs) } ∷ tokens_past false (place + 1) bs
    else tokens_past false (place + 1) bs)

-- all tokens of a text
abbrev pub tokens : List ℕ → List Piece
tokens text = tokens_past true 0 text

-- no filled byte stands right before the offset
abbrev pub is_fresh : List ℕ → ℕ → Bool
is_fresh text at = (at == 0) || is_blank (slice_index text (at - 1))

-- the tokens that begin at the offset or after it
abbrev pub tokens_from : List ℕ → ℕ → List Piece
tokens_from text at = tokens_past (is_fresh text at) at (drop at text)

-- the token between two offsets
abbrev pub token_at : List ℕ → ℕ → ℕ → Piece
token_at text from to = record { place = from; bytes = take (to - from) (drop from text) }
