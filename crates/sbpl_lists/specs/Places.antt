-- Lines and columns of a text, as editors count them.
use Rattle.std.specs.Prelude.{ℕ, ◌+◌, ◌==◌, Bool, not, List, reverse, take, drop}
use Rattle.std.specs.List.{count_by, prefix_len}
use Rattle.sbpl_fixed.specs.Tokens.{is_filled}

abbrev pub is_line_feed : ℕ → Bool
is_line_feed b = b == 10

abbrev pub is_in_line : ℕ → Bool
is_in_line b = not (b == 10)

-- the line of a place, counted from 1: one more than the line feeds before the place
abbrev pub line_of : List ℕ → ℕ → ℕ
line_of text place = count_by is_line_feed (take place text) + 1

-- its column, counted from 1 in bytes: one more than the bytes that stand right before the place and are no line feeds
abbrev pub column_of : List ℕ → ℕ → ℕ
column_of text place = prefix_len is_in_line (reverse (take place text)) + 1

-- the bytes from a place to the next blank: a token, where one begins at the place; none at the end of the text
abbrev pub filled_at : List ℕ → ℕ → List ℕ
filled_at text place = take (prefix_len is_filled (drop place text)) (drop place text)
