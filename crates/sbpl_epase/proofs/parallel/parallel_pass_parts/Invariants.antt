use Rattle.sbpl_adstar.specs.sbpl_search.Query.{query}
use Rattle.sbpl_epase.proofs.parallel.parallel_pass_parts.Given as goal

abbrev pub ghosts-parts_as : goal.ghosts-parts_as
ghosts-parts_as g a = record {
  query = query (g.G.Graph.network a.graph.now) (g.H.Guide.distance a.guide.now) a.eps a.goal;
  counts = a.parts.budget;
  opening = a.parts.labels;
  keeps = a.keeps;
}
