-- How the values under the lock agree.
use Rattle.std.specs.Prelude.{◌≡◌, ℕ, map}
use Rattle.sbpl_postings.specs.sbpl_claims.Standing.{Standing}
use Rattle.sbpl_postings.specs.sbpl_frontier_core.Book.{Book}
use Rattle.sbpl_postings.specs.sbpl_frontier_core.Seats.{AreTakenBelow}
use Rattle.sbpl_postings.specs.sbpl_frontier_rules.Journal.{takes_in}
use Rattle.sbpl_postings.specs.Drained.{Drained}
use Rattle.sbpl_frontier.specs.Come.{came_in, event_of}

-- the keeper of the claims knows just the arcs that are out and the next ticket; the ledger has the takes of the journal; the
-- judgements that came back are those that came out of the line, in that order; and arcs were handed out to these seats alone, whose
-- numbers are those from 0 upwards
pub record AreTied (b : Book) (k : Standing) (taken : ℕ) (line : Drained) (seats : ℕ) : Type 0 where
  pub out : k.out ≡ b.frontier.out
  pub next : k.next ≡ b.frontier.next
  pub takes : takes_in b.journal ≡ taken
  pub posts : came_in b.journal ≡ map event_of line.came
  pub told : AreTakenBelow seats b.journal

-- what contracts see under the lock: a frontier with its journal, and what came out of the line
pub record Sight : Type 0 where
  pub book : Book
  pub line : Drained
