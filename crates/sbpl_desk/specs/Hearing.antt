-- The lines of an input, as a desk hears them.
use Rattle.std.specs.Prelude.{◌≡◌, ◌≢◌, ◌+◌, ◌<◌, ℕ, List, [], ◌∷◌, ◌++◌, length, take, All, if◌then◌else◌, Option, Some, IfSome}
-- `first_line text`: the bytes up to the first line feed, or all; without it, and without one carriage return right before it.
-- `drop_through 10 text`: what comes after the first line feed.
use Rattle.std.specs.Io.BufRead.{drop_through, ends_with_byte, first_line, strip_last}

-- how much of a line is heard: 4096 bytes, and one more, which tells that it was longer
abbrev pub heard_of : List ℕ → List ℕ
heard_of line = take 4097 line

-- the line that is heard next where these bytes are to come
abbrev pub next_line : List ℕ → List ℕ
next_line coming = heard_of (first_line coming)

-- what is to come after that line
abbrev pub after_line : List ℕ → List ℕ
after_line coming = drop_through 10 coming

-- a line without what ends it: one line feed, and one carriage return right before it
abbrev pub without_end : List ℕ → List ℕ
without_end line = if ends_with_byte 10 line then strip_last 13 (strip_last 10 line) else strip_last 10 line

-- no byte is a line feed
abbrev pub HasNoFeed : List ℕ → Type 0
HasNoFeed bytes = All (λ b. b ≢ 10) bytes

-- the first line feed stands at this index
pub record IsFeedAt (bytes : List ℕ) (at : ℕ) : Type 0 where
  pub within : at < length bytes
  pub before : HasNoFeed (take at bytes)
  pub feed : take (at + 1) bytes ≡ take at bytes ++ 10 ∷ []

-- Where it is known what is to come: something is, this line is heard, and what comes after it is to come then.
abbrev pub GivesLine : (before after : Option (List ℕ)) → (line : List ℕ) → Type 0
GivesLine before after line =
    IfSome before (λ coming. (0 < length coming) × (line ≡ next_line coming) × (after ≡ Some (after_line coming)))
