-- Messages, in the form that compilers use.
use Rattle.std.specs.Prelude.{◌≡◌, ℕ, ◌&&◌, if◌then◌else◌, List, [], ◌++◌, length, map, nat_lt, take, codes, decimal}
use Rattle.sbpl_lists.specs.Places.{column_of, filled_at, line_of}

-- a byte as a message shows it: one that is no printable character of ASCII is shown as `?`
abbrev pub shown_byte : ℕ → ℕ
shown_byte b = if nat_lt 31 b && nat_lt b 127 then b else 63

-- what follows the first 40 bytes of what stands in a file: dots, where there are more
abbrev pub dots : List ℕ → List ℕ
dots found = if nat_lt 40 (length found) then codes "..." else []

-- what stands in a file, as a message shows it: its first 40 bytes, with dots where there are more
unfoldable pub shown : List ℕ → List ℕ
shown found = map shown_byte (take 40 found) ++ dots found

-- where: `NAME:LINE:COLUMN: `
unfoldable pub position_text : List ℕ → ℕ → ℕ → List ℕ
position_text name line column = name ++ (codes ":" ++ (decimal line ++ (codes ":" ++ (decimal column ++ codes ": "))))

-- what was found, between quotation marks
unfoldable pub quoted_text : List ℕ → List ℕ
quoted_text found = codes ", found \"" ++ (shown found ++ codes "\"")

-- what was found; nothing is found where the file ends
abbrev pub found_text : List ℕ → List ℕ
found_text found = if nat_lt 0 (length found) then quoted_text found else codes ", but the file ends here"

-- a message: where, what must stand there, and what was found
unfoldable pub message_text : List ℕ → ℕ → ℕ → List ℕ → List ℕ → List ℕ
message_text name line column wanted found = position_text name line column ++ (wanted ++ (found_text found ++ codes "\n"))

-- a message for the line and the column of a place in a file, which says in some words what must stand there, and shows the token
-- that begins there
abbrev pub IsMessageAt : (name text : List ℕ) (place : ℕ) → List ℕ → Type 0
IsMessageAt name text place m = (wanted : List ℕ) × (m ≡ message_text name (line_of text place) (column_of text place) wanted (filled_at text place))

-- a message for a line of a file, which says in some words what must stand there
abbrev pub IsMessageOnLine : (name : List ℕ) (line : ℕ) → List ℕ → Type 0
IsMessageOnLine name line m = (column : ℕ) × (wanted : List ℕ) × (found : List ℕ) × (m ≡ message_text name line column wanted found)

-- a message on a whole file, or on the program
unfoldable pub plain_text : List ℕ → List ℕ → List ℕ
plain_text name what = name ++ (codes ": " ++ (what ++ codes "\n"))

-- a message on a whole file, or on the program, in some words
abbrev pub IsPlainMessage : (name : List ℕ) → List ℕ → Type 0
IsPlainMessage name m = (what : List ℕ) × (m ≡ plain_text name what)
