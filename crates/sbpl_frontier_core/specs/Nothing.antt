-- Some value of each kind, where it does not matter which.
use Rattle.std.specs.Prelude.{None, []}
use Rattle.sbpl_frontier_rules.specs.sbpl_graph.Network.{Network}
use Rattle.sbpl_frontier_rules.specs.sbpl_labels.Counts.{Counts}
use Rattle.sbpl_frontier_rules.specs.sbpl_labels.Marks.{Marks}
use Rattle.sbpl_frontier_rules.specs.sbpl_labels.declared.time.Time.TheVariants.{Unlimited}
use Rattle.sbpl_frontier_rules.specs.sbpl_search.Query.{Query}

abbrev pub no_network : Network
no_network = record {
  states = 0;
  fan = λ s. 0;
  head = λ s k. None;
  cost = λ s k. None;
  tail_fan = λ t. 0;
  tail = λ t j. None;
  gap = λ s t. 0;
}

abbrev pub no_query : Query
no_query = record { network = no_network; guide = λ s. 0; eps = 0; goal = 0 }

abbrev pub no_counts : Counts
no_counts = record { per_plan = 0; plan = 0; run = 0; time = Unlimited }

abbrev pub no_marks : Marks
no_marks = record { start = 0; rows = [] }
