use Rattle.std.proofs.Common.{◌⊎◌, take}
use Rattle.std.specs.List.{Contains}
use Rattle.sbpl_frontier_rules.specs.sbpl_serial.Low.{IsInQueue, IsLowOf}
use Rattle.sbpl_frontier_core.proofs.low.low_among.Given as goal

abbrev pub invariant-loop-s : goal.invariant-loop-s
invariant-loop-s g l =
    IsLowOf l.labels l.goal (g.H.Guide.distance l.guide)
    (λ s. IsInQueue l.queue s ⊎ Contains (take l.s-index l.states) s) l.low
