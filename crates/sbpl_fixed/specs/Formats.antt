-- Formats: which tokens stand in a text, one after another, and what they say.
use Rattle.std.specs.Prelude.{◌≡◌, ◌≢◌, ℕ, zero, suc, ℤ, pos, if◌then◌else◌, ◌&&◌, int_le, bytes_eq, ◌⊎◌, List, [], ◌∷◌, length, Result, Ok, Err}
use Rattle.sbpl_fixed.specs.Tokens.{Piece, tokens, tokens_from}
use Rattle.sbpl_fixed.specs.Numbers.{whole_of, nano_of}
use Rattle.sbpl_fixed.specs.declared.fault.NumFault.{NumFault}
use Rattle.sbpl_fixed.specs.declared.fault.NumFault.TheVariants.{Form, Size}
use Rattle.sbpl_fixed.specs.declared.placed.Placed.{Placed}
use Rattle.sbpl_fixed.specs.declared.fault.TextFault.{TextFault}
use Rattle.sbpl_fixed.specs.declared.fault.TextFault.TheVariants.{Word, Number, Range, Ended, Trailing}

-- ---- items

-- how a token fails to be what must stand there
pub data Miss : Type 0 where
  no_word : Miss
  no_number : Miss
  out_of_range : Miss

-- what a token must be: the value of its bytes, or how they fail
abbrev pub Item : Type 0
Item = List ℕ → Result ℤ Miss

-- this very word
abbrev pub fixed : List ℕ → Item
fixed word bytes = if bytes_eq bytes word then Ok (pos 0) else Err no_word

-- a number that was read, where it lies in a range
abbrev pub within : ℤ → ℤ → Result ℤ NumFault → Result ℤ Miss
within low high (Ok n) = if int_le low n && int_le n high then Ok n else Err out_of_range
within low high (Err Form) = Err no_number
within low high (Err Size) = Err out_of_range

-- a whole number in a range
abbrev pub whole : ℤ → ℤ → Item
whole low high bytes = within low high (whole_of bytes)

-- a decimal in a range, in billionths
abbrev pub nano : ℤ → ℤ → Item
nano low high bytes = within low high (nano_of bytes)

-- ---- formats

-- What must stand in a text: an item, and then what its place and value call for; the end of the text; a fault of the
-- reader's own, found from what was read; or nothing more, and this is what was said.
pub data Format (E A : Type 0) : Type 0 where
  item : Item → (ℕ → ℤ → Format E A) → Format E A
  ended : Format E A → Format E A
  wrong : E → Format E A
  done : A → Format E A

-- a format, and after it what its value calls for
unfoldable pub and_then : {E A B : Type 0} → Format E A → (A → Format E B) → Format E B
and_then (item i more) next = item i (λ place value. and_then (more place value) next)
and_then (ended f) next = ended (and_then f next)
and_then (wrong e) next = wrong e
and_then (done x) next = next x

-- a number of formats, one after another, each from what the ones before it said
unfoldable pub turns : {E S : Type 0} → ℕ → (S → Format E S) → S → Format E S
turns zero step s = done s
turns (suc n) step s = and_then (step s) (turns n step)

-- ---- reading

-- what is left of a text: the length of the whole text, and the tokens that were not read
pub record Left : Type 0 where
  pub end : ℕ
  pub tokens : List Piece

-- all of a text
abbrev pub start : List ℕ → Left
start text = record { end = length text; tokens = tokens text }

-- what is left of a text at an offset
abbrev pub start_at : List ℕ → ℕ → Left
start_at text at = record { end = length text; tokens = tokens_from text at }

-- an item that was met: where, with which value, and what is left
pub record Met : Type 0 where
  pub place : ℕ
  pub value : ℤ
  pub left : Left

abbrev pub missed : Miss → ℕ → TextFault
missed no_word place = Word place
missed no_number place = Number place
missed out_of_range place = Range place

abbrev pub met : ℕ → Left → Result ℤ Miss → Result Met TextFault
met place left (Ok value) = Ok (record { place = place; value = value; left = left })
met place left (Err miss) = Err (missed miss place)

abbrev pub next_of : Item → ℕ → List Piece → Result Met TextFault
next_of i end [] = Err (Ended end)
next_of i end (t ∷ ts) = met t.place (record { end = end; tokens = ts }) (i t.bytes)

-- the next token as an item
unfoldable pub next : Item → Left → Result Met TextFault
next i left = next_of i left.end left.tokens

abbrev pub over_of : ℕ → List Piece → Result Left TextFault
over_of end [] = Ok (record { end = end; tokens = [] })
over_of end (t ∷ ts) = Err (Trailing t.place)

-- the end of the text
unfoldable pub over : Left → Result Left TextFault
over left = over_of left.end left.tokens

abbrev pub then_read : {X Y E : Type 0} → (TextFault → E) → Result X TextFault → (X → Result Y E) → Result Y E
then_read tell (Ok x) more = more x
then_read tell (Err t) more = Err (tell t)

-- Reading from left to right, with the first fault that is met. `tell` gives the common faults the reader's own names.
unfoldable pub reads : {E A : Type 0} → (TextFault → E) → Format E A → Left → Result (A × Left) E
reads tell (item i more) left = then_read tell (next i left) (λ m. reads tell (more m.place m.value) m.left)
reads tell (ended f) left = then_read tell (over left) (λ rest. reads tell f rest)
reads tell (wrong e) left = Err e
reads tell (done x) left = Ok (x, left)

abbrev pub value_of : {A E : Type 0} → Result (A × Left) E → Result A E
value_of (Ok x) = Ok x.0
value_of (Err e) = Err e

-- what a whole text gives
unfoldable pub reads_text : {E A : Type 0} → (TextFault → E) → Format E A → List ℕ → Result A E
reads_text tell f text = value_of (reads tell f (start text))

-- ---- what a format means, without reading

-- a prefix of the tokens stands for x, and the rest is left
unfoldable pub Says : {E A : Type 0} → Format E A → List Piece → A → List Piece → Type 0
Says (item i more) [] x rest = ⊥
Says (item i more) (t ∷ ts) x rest = (v : ℤ) × (i t.bytes ≡ Ok v) × Says (more t.place v) ts x rest
Says (ended f) [] x rest = Says f [] x rest
Says (ended f) (t ∷ ts) x rest = ⊥
Says (wrong e) ts x rest = ⊥
Says (done y) ts x rest = (x ≡ y) × (rest ≡ ts)

-- all items before a place hold, and what stands there fails in the way that e names
unfoldable pub IsFaulty : {E A : Type 0} → (TextFault → E) → Format E A → ℕ → List Piece → E → Type 0
IsFaulty tell (item i more) end [] e = e ≡ tell (Ended end)
IsFaulty tell (item i more) end (t ∷ ts) e =
    ((m : Miss) × (i t.bytes ≡ Err m) × (e ≡ tell (missed m t.place)))
    ⊎ ((v : ℤ) × (i t.bytes ≡ Ok v) × IsFaulty tell (more t.place v) end ts e)
IsFaulty tell (ended f) end [] e = IsFaulty tell f end [] e
IsFaulty tell (ended f) end (t ∷ ts) e = e ≡ tell (Trailing t.place)
IsFaulty tell (wrong d) end ts e = e ≡ d
IsFaulty tell (done x) end ts e = ⊥

-- ---- what functions that read answer

-- An item was read: a value with its place, and what is left, or the fault.
abbrev pub Steps : {X : Type 0} → (X → ℕ) → (X → ℤ) → Result X TextFault → Left → Result Met TextFault → Type 0
Steps place value (Ok x) left step = step ≡ Ok (record { place = place x; value = value x; left = left })
Steps place value (Err t) left step = step ≡ Err t

-- What was read, seen by view, is what reading gives, and so is the fault, unless it is `spared`, such as running out of memory.
abbrev pub Gives : {X A E : Type 0} → E → (X → A) → Result X E → Left → Result (A × Left) E → Type 0
Gives spared view (Ok x) left read = read ≡ Ok (view x, left)
Gives spared view (Err e) left read = e ≢ spared → read ≡ Err e

-- The same for a whole text.
abbrev pub Answers : {X A E : Type 0} → E → (X → A) → Result X E → Result A E → Type 0
Answers spared view (Ok x) read = read ≡ Ok (view x)
Answers spared view (Err e) read = e ≢ spared → read ≡ Err e

-- The end was reached, or the fault.
abbrev pub Stops : Result (Unit {0}) TextFault → Left → Result Left TextFault → Type 0
Stops (Ok _) left step = step ≡ Ok left
Stops (Err t) left step = step ≡ Err t

-- a number with its place, or the fault there
abbrev pub IsRanged : ℕ → Result ℤ Miss → Result (Placed ℤ) TextFault → Type 0
IsRanged place read (Ok x) = (read ≡ Ok x.value) × (x.place ≡ place)
IsRanged place read (Err t) = (miss : Miss) × (read ≡ Err miss) × (t ≡ missed miss place)
