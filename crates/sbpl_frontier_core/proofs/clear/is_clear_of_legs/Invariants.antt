use Rattle.std.proofs.Common.{take}
use Rattle.std.specs.List.{All}
use Rattle.sbpl_frontier_core.specs.Clear.{IsClear}
use Rattle.sbpl_frontier_core.proofs.clear.is_clear_of_legs.Given as goal

abbrev pub invariant-loop-leg : goal.invariant-loop-leg
invariant-loop-leg g l =
    All (λ x. IsClear (g.G.Graph.network l.graph) l.eps l.labels l.s x.state) (take l.leg-index l.out)
    × IsClear (g.G.Graph.network l.graph) l.eps l.labels l.s l.last
