-- The texts of numbers in fixed point, and of lines of words.
use Rattle.std.specs.Prelude.{ℕ, zero, suc, ◌+◌, ◌/◌, ◌%◌, ◌^◌, List, [], ◌∷◌, ◌++◌, ℤ, pos, negsuc, decimal}
use Rattle.std.specs.List.{flat_map}

-- the last `count` decimal digits of n, with leading zeros
unfoldable pub last_digits : ℕ → ℕ → List ℕ
last_digits zero n = []
last_digits (suc count) n = last_digits count (n / 10) ++ (48 + n % 10) ∷ []

-- n parts of a unit that has 10 ^ count parts: the whole part, a point and `count` digits
abbrev pub point_text : ℕ → ℕ → List ℕ
point_text count n = decimal (n / 10 ^ count) ++ 46 ∷ last_digits count (n % 10 ^ count)

-- thousandths
abbrev pub milli_text : ℕ → List ℕ
milli_text n = point_text 3 n

-- billionths
abbrev pub nano_text : ℤ → List ℕ
nano_text (pos n) = point_text 9 n
nano_text (negsuc n) = 45 ∷ point_text 9 (n + 1)

-- words separated by one space, with a line feed after the last
unfoldable pub line_text : List (List ℕ) → List ℕ
line_text [] = 10 ∷ []
line_text (w ∷ []) = w ++ 10 ∷ []
line_text (w ∷ v ∷ ws) = w ++ 32 ∷ line_text (v ∷ ws)

-- one line after the other
abbrev pub lines_text : List (List (List ℕ)) → List ℕ
lines_text lines = flat_map line_text lines
