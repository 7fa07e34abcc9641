-- The rule of the cell, which every step keeps.
use Rattle.std.specs.Prelude.{◌≡◌, ℕ, ◌≤◌, Option, List, length, ⊤}
use mathlib.Core.Option.{some}
use lib.ListN.{get_elem?}
use Rattle.sbpl_incumbent.specs.Entries.{IsHistory, IsPublished}
use Rattle.sbpl_incumbent.specs.Known.{list_of}
use Rattle.sbpl_incumbent.specs.Slips.{IsFit}
use Rattle.sbpl_incumbent.specs.declared.entry.Entry.{Entry}
use Rattle.sbpl_incumbent.specs.declared.known.Known.{Known}
use Rattle.sbpl_incumbent.specs.declared.known.Known.TheVariants.{Notes, Nothing, Publishes, Reads}

-- this pass is the publisher's, and knows this
abbrev pub IsPublisher : List Known → (pass : ℕ) → (published : List Entry) → (joined : Option (List Entry)) → Type 0
IsPublisher views pass published joined = get_elem? views pass ≡ some (Publishes published joined)

-- this pass is a reader's, and knows this
abbrev pub IsReader : List Known → (pass : ℕ) → (got : List Entry) → (told : ℕ) → Type 0
IsReader views pass got told = get_elem? views pass ≡ some (Reads got told)

-- what a pass knows was published; for the publisher's it is the list of the reader that was joined
abbrev pub IsSound : (published : List Entry) → Known → Type 0
IsSound published (Publishes own joined) = IsHistory published (list_of joined)
IsSound published (Reads got told) = IsHistory published got × (told ≤ length published)
IsSound published (Notes number) = number ≤ length published
IsSound published Nothing = ⊤

-- There is one publisher. The cell holds its last entry, or number 0, and its values are in their ranges. What each pass got, was
-- told or noted was published.
pub record AreKept (publisher : ℕ) (published : List Entry) (joined : Option (List Entry)) (cell : Entry) (views : List Known) : Type 0 where
  pub publishes : IsPublisher views publisher published joined
  pub alone : (pass : ℕ) (other : List Entry) (list : Option (List Entry)) → IsPublisher views pass other list → pass ≡ publisher
  pub last : cell.number ≡ length published
  pub held : IsPublished published cell
  pub fit : IsFit cell
  pub sound : (pass : ℕ) (v : Known) → get_elem? views pass ≡ some v → IsSound published v

abbrev pub IsKept : (cell : Entry) → List Known → Type 0
IsKept cell views = (publisher : ℕ) × (published : List Entry) × (joined : Option (List Entry)) × AreKept publisher published joined cell views
