use Rattle.std.proofs.Common.{◌≡◌, ◌-◌, length, vec_capacity}
use Rattle.sbpl_frontier_core.specs.Clear.{ArePopped}
use Rattle.sbpl_frontier_core.proofs.clear.pop_to_clear.Given as goal

abbrev pub invariant-loop-goal : goal.invariant-loop-goal
invariant-loop-goal g l =
    ArePopped (g.G.Graph.network l.graph) l.eps l.labels l.out (l.goal.0, l.goal.1) l.fn.queue l.aside.items l.queue
    × (vec_capacity l.aside ≡ vec_capacity l.fn.aside)

abbrev pub decreases-loop-goal : goal.decreases-loop-goal
decreases-loop-goal g l = 64 - length l.aside.items
