use Rattle.std.proofs.Common.{true}
use Rattle.sbpl_heur.specs.sbpl_cost.Lattices.{network_of}
use Rattle.sbpl_heur.specs.Bests.{distance_in}
use Rattle.sbpl_plan.specs.sbpl_search.Query.{query}
use Rattle.tests_maps.proofs.rows.told_on.Given as goal

abbrev pub ghosts-told_from-M-Naming : goal.ghosts-told_from-M-Naming
ghosts-told_from-M-Naming g a = record { table = a.claims }

abbrev pub ghosts-told_from-M-Second : goal.ghosts-told_from-M-Second
ghosts-told_from-M-Second g a = record { takes = a.takes.name; parts = 1 }

abbrev pub ghosts-told_from-N-Pass : goal.ghosts-told_from-N-Pass
ghosts-told_from-N-Pass g a = record {
  query = query (network_of a.lattice.now) (distance_in a.best.now) 1000 a.goal;
  counts = a.budget;
  opening = a.labels;
  keeps = true;
}
