use Rattle.std.proofs.Common.{◌⊎◌}
use Rattle.sbpl_serial.specs.Low.{IsLowOf, IsInQueue}
use Rattle.sbpl_serial.proofs.Lowering.{IsBefore, step_state}
use Rattle.sbpl_serial.proofs.low.low_among.Given as goal

abbrev pub invariant-loop-step : goal.invariant-loop-step
invariant-loop-step g l =
    IsLowOf l.labels l.goal (g.H.Guide.distance l.guide)
    (λ s. IsInQueue l.queue s ⊎ IsBefore (step_state l.steps) l.step-index s) l.low
