-- What each step does to what the passes know.
use Rattle.std.specs.Prelude.{◌≡◌, Some, [], ◌∷◌, ◌++◌, length, max}
use Rattle.sbpl_incumbent.specs.Entries.{IsAsNew, IsHistory, no_entry}
use Rattle.sbpl_incumbent.specs.Known.{got_of, as_publisher, joined_of, number_of, published_of, publishes, told_of}
use Rattle.sbpl_incumbent.specs.Slips.{IsFit}
use Rattle.sbpl_incumbent.specs.declared.entry.Entry.{Entry}
use Rattle.sbpl_incumbent.specs.declared.known.Known.{Known}
use Rattle.sbpl_incumbent.specs.declared.known.Known.TheVariants.{Notes, Publishes, Reads}

-- at first nothing was published
abbrev pub none_published : Known
none_published = publishes []

-- an entry is published
abbrev pub published_with : Known → Entry → Known
published_with v entry = publishes (published_of v ++ entry ∷ [])

-- a reader is made
abbrev pub none_got : Known
none_got = Reads [] 0

-- a reader loads
abbrev pub got_with : Known → Entry → Known
got_with v entry = Reads (got_of v ++ entry ∷ []) (told_of v)

pub record IsLoaded (v : Known) (entry : Entry) (w : Known) : Type 0 where
  pub fit : IsFit entry
  pub none : entry.number ≡ 0 → entry ≡ no_entry
  pub as_new : IsAsNew (got_of v) (told_of v) entry
  pub got : w ≡ got_with v entry

-- a note is made
abbrev pub note_of : Known → Known
note_of v = Notes (length (published_of v))

-- a note is joined into a reader's pass
abbrev pub learnt : (reader note : Known) → Known
learnt v w = Reads (got_of v) (max (told_of v) (number_of w))

-- a reader's pass is joined into the publisher's
abbrev pub joined : (publisher reader : Known) → Known
joined v w = Publishes (published_of v) (Some (got_of w))

-- the joined reader is settled
pub record IsSettled (v w : Known) : Type 0 where
  pub history : IsHistory (published_of v) (joined_of v)
  pub settled : w ≡ as_publisher v
