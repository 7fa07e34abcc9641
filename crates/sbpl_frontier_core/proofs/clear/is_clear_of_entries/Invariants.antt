use Rattle.std.proofs.Common.{take}
use Rattle.std.specs.List.{All}
use Rattle.sbpl_frontier_core.specs.Clear.{IsClear}
use Rattle.sbpl_frontier_core.proofs.clear.is_clear_of_entries.Given as goal

abbrev pub invariant-loop-entry : goal.invariant-loop-entry
invariant-loop-entry g l =
    All (λ x. IsClear (g.G.Graph.network l.graph) l.eps l.labels l.s x.state) (take l.entry-index l.others)
