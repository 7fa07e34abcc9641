use Rattle.std.proofs.Common.{true}
use Rattle.sbpl_plan.specs.sbpl_search.Query.{query}
use Rattle.tests_maps.proofs.passes.cost_by.Given as goal

abbrev pub ghosts-pass_as : goal.ghosts-pass_as
ghosts-pass_as g a = record {
  query = query (g.G.Graph.network a.graph.now) (λ s. 0) 1000 a.goal;
  counts = a.budget;
  opening = a.labels;
  keeps = true;
}
