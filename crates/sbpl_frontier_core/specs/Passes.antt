-- What a pass does to labels and counts, whoever judged its arcs.
use Rattle.std.specs.Prelude.{Bool}
use Rattle.sbpl_frontier_rules.specs.sbpl_labels.Counts.{Counts}
use Rattle.sbpl_frontier_rules.specs.sbpl_labels.Marks.{Marks}
use Rattle.sbpl_frontier_rules.specs.sbpl_labels.declared.pass_end.PassEnd.{PassEnd}
use Rattle.sbpl_frontier_rules.specs.sbpl_labels.declared.pass_end.PassEnd.TheVariants.{Rest, Spent}
use Rattle.sbpl_frontier_rules.specs.sbpl_search.Query.{Query}
use Rattle.sbpl_frontier_rules.specs.Events.{IsOutOfBudget, IsRest}
use Rattle.sbpl_frontier_rules.specs.Frontier.{Frontier}
use Rattle.sbpl_frontier_core.specs.Book.{Book}
use Rattle.sbpl_frontier_core.specs.Finished.{IsFinished, IsGivenUp}
use Rattle.sbpl_frontier_core.specs.Log.{Log}

-- a pass that ends so is at rest, or the budget is spent and an open key is below the goal's
abbrev pub EndsSo : Query → PassEnd → Frontier → Type 0
EndsSo q Rest f = IsRest q f
EndsSo q Spent f = IsOutOfBudget q f

-- The journal is a list of events from these labels and counts to a frontier that ends the pass so, and leaves those.
pub record IsPassFinished (q : Query) (opening : Marks) (before : Counts) (keeps : Bool) (labels : Marks) (counts : Counts) (log : Log) (end : PassEnd) : Type 0 where
  pub frontier : Frontier
  pub finished : IsFinished q opening before keeps (record { frontier = frontier; journal = log.events }) labels counts log
  pub ends : EndsSo q end frontier

-- Some events lead from these labels and counts to a frontier that has those.
pub record IsPassGivenUp (q : Query) (opening : Marks) (before : Counts) (labels : Marks) (counts : Counts) : Type 0 where
  pub book : Book
  pub given_up : IsGivenUp q opening before book labels counts
