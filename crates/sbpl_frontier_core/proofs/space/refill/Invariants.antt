use Rattle.std.proofs.Common.{take}
use Rattle.sbpl_frontier_core.specs.Waiting.{AreFilled}
use Rattle.sbpl_frontier_core.proofs.space.refill.Given as goal

abbrev pub invariant-loop-s : goal.invariant-loop-s
invariant-loop-s g l = AreFilled l.eps (g.H.Guide.distance l.guide) l.labels (take l.s-index l.states) l.queue
