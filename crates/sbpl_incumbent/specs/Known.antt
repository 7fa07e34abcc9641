-- What the passes of the cell know.
use Rattle.std.specs.Prelude.{ℕ, Option, Some, None, List, []}
use Rattle.sbpl_incumbent.specs.declared.entry.Entry.{Entry}
use Rattle.sbpl_incumbent.specs.declared.known.Known.{Known}
use Rattle.sbpl_incumbent.specs.declared.known.Known.TheVariants.{Notes, Nothing, Publishes, Reads}

-- what was published, as the publisher's pass knows it; for another nothing was
abbrev pub published_of : Known → List Entry
published_of (Publishes published joined) = published
published_of (Reads got told) = []
published_of (Notes number) = []
published_of Nothing = []

-- the list of a reader that was joined; of none it is empty
abbrev pub list_of : Option (List Entry) → List Entry
list_of (Some got) = got
list_of None = []

abbrev pub joined_of : Known → List Entry
joined_of (Publishes published joined) = list_of joined
joined_of (Reads got told) = []
joined_of (Notes number) = []
joined_of Nothing = []

-- what a reader's pass got and the greatest number that it was told
abbrev pub got_of : Known → List Entry
got_of (Publishes published joined) = []
got_of (Reads got told) = got
got_of (Notes number) = []
got_of Nothing = []

abbrev pub told_of : Known → ℕ
told_of (Publishes published joined) = 0
told_of (Reads got told) = told
told_of (Notes number) = 0
told_of Nothing = 0

-- the number of a note's pass
abbrev pub number_of : Known → ℕ
number_of (Publishes published joined) = 0
number_of (Reads got told) = 0
number_of (Notes number) = number
number_of Nothing = 0

-- the publisher's pass knows this, where no reader is joined
abbrev pub publishes : List Entry → Known
publishes published = Publishes published None

-- a pass that is the publisher's with no reader joined, a reader's or a note's is equal to this
abbrev pub as_publisher : Known → Known
as_publisher v = publishes (published_of v)

abbrev pub as_reader : Known → Known
as_reader v = Reads (got_of v) (told_of v)

abbrev pub as_note : Known → Known
as_note v = Notes (number_of v)

-- the publisher's pass is equal to this, where a reader is joined
abbrev pub with_joined : Known → Known
with_joined v = Publishes (published_of v) (Some (joined_of v))
