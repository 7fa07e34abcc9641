-- A frontier and its journal, and how the one comes from the other.
use Rattle.std.specs.Prelude.{ℕ, Bool, List}
use Rattle.sbpl_frontier_rules.specs.sbpl_graph.Network.{Network}
use Rattle.sbpl_frontier_rules.specs.sbpl_labels.Counts.{Counts}
use Rattle.sbpl_frontier_rules.specs.sbpl_labels.Marks.{Marks}
use Rattle.sbpl_frontier_rules.specs.sbpl_search.Query.{Query}
use Rattle.sbpl_frontier_rules.specs.declared.event.Event.{Event}
use Rattle.sbpl_frontier_rules.specs.declared.leg.Leg.{Leg}
use Rattle.sbpl_frontier_rules.specs.Events.{AreEvents, IsFirst}
use Rattle.sbpl_frontier_rules.specs.Frontier.{Frontier}
use Rattle.sbpl_frontier_core.specs.Cursor.{arcs_from}

pub record Book : Type 0 where
  pub frontier : Frontier
  pub journal : List Event

-- the frontier whose ready arcs are those of one state from one number on
abbrev pub frontier_of : Network → Marks → (opened : List Bool) → (state from : ℕ) → (out : List Leg) → (next : ℕ) → Counts → Frontier
frontier_of n labels opened state from out next counts = record {
  labels = labels;
  opened = opened;
  ready = arcs_from n state from;
  out = out;
  next = next;
  counts = counts;
}

-- the events lead from the beginning of a pass, with these labels and counts, to the frontier
pub record IsReplay (q : Query) (opening : Marks) (counts : Counts) (events : List Event) (f : Frontier) : Type 0 where
  pub first : Frontier
  pub begins : IsFirst opening counts first
  pub leads : AreEvents q events first f
