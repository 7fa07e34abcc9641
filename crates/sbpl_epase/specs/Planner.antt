-- What ePA*SE means as a planner.
use Rattle.std.specs.Prelude.{◌≡◌, ℕ, true, List, []}
use Rattle.sbpl_adstar.specs.sbpl_graph.Network.{Network}
use Rattle.sbpl_adstar.specs.sbpl_labels.Counts.{Counts}
use Rattle.sbpl_adstar.specs.sbpl_labels.Marks.{Marks}
use Rattle.sbpl_adstar.specs.sbpl_search.Meaning.{Meaning}
use Rattle.sbpl_adstar.specs.sbpl_search.Query.{Query}
use Rattle.sbpl_adstar.specs.sbpl_search.Ready.{AreReady}
use Rattle.sbpl_adstar.specs.sbpl_search.State.{State}
use Rattle.sbpl_adstar.specs.sbpl_serial.Meant.{AreRepairedFor}
use Rattle.sbpl_adstar.specs.Raised.{IsRaisedBy}
use Rattle.sbpl_frontier.specs.sbpl_frontier_rules.declared.event.Event.{Event}
use Rattle.sbpl_frontier.specs.sbpl_frontier_rules.Frontier.{Frontier}
use Rattle.sbpl_frontier.specs.sbpl_frontier_rules.Journal.{opened_times, openings}
use Rattle.sbpl_frontier.specs.sbpl_frontier_rules.Passes.{ArePass, LeavesOpen, LeavesRest, Replays}
use Rattle.sbpl_frontier.specs.sbpl_frontier_core.Seats.{AreTakenBelow}

-- memory ran out after some events, which led to the labels and the counts that there are; an arc may be ready or out; nothing is told
-- of that pass, nor of the one before, and the goal, the workers and the list of the states that were raised stay
pub record IsCutAfterEvents (q : Query) (old new : State Event) (before after : Counts) : Type 0 where
  pub events : List Event
  pub last : Frontier
  pub replay : Replays q before events old.labels new.labels last
  pub counts : after ≡ last.counts
  pub untold : new.actions ≡ []
  pub goal : new.goal ≡ old.goal
  pub workers : new.workers ≡ old.workers
  pub raised : new.raised ≡ old.raised

-- a plan begins with labels that are repaired and then raised: the touched states are recomputed, and states are raised in turn until
-- none is underconsistent
pub record BeginsRaised (n : Network) (touched : List ℕ) (old new : Marks) (raised : List ℕ) : Type 0 where
  pub mid : Marks
  pub repaired : AreRepairedFor n touched old mid
  pub by_raising : IsRaisedBy n mid raised new

-- a pass begins where no state is underconsistent, is a list of events of a frontier, and opens each state at most once; its arcs are
-- taken from the seats of its workers, and its events are kept where they are to be told; after a change of the graph the labels are
-- repaired, and states are raised
abbrev pub epase : Meaning Event
epase = record {
  ready = AreReady;
  leads = ArePass;
  rests = LeavesRest;
  goes_on = LeavesOpen;
  seated = AreTakenBelow;
  keeps = λ traced. traced;
  expansions = openings;
  times = opened_times;
  most = 1;
  repairs = true;
  begun = BeginsRaised;
  cut = IsCutAfterEvents;
}
