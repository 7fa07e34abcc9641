use Rattle.std.proofs.Common.{◌≡◌}
use Rattle.sbpl_frontier_core.specs.Cursor.{arcs_from}
use Rattle.sbpl_frontier_core.proofs.cursor.first_head.Given as goal

abbrev pub invariant-loop-k : goal.invariant-loop-k
invariant-loop-k g l =
    arcs_from (g.G.Graph.network l.graph) l.s l.from ≡ arcs_from (g.G.Graph.network l.graph) l.s l.k
