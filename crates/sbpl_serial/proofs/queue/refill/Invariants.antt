use Rattle.std.proofs.Common.{take}
use Rattle.sbpl_serial.specs.Queue.{AreRefilled}
use Rattle.sbpl_serial.proofs.queue.refill.Given as goal

abbrev pub invariant-loop-step : goal.invariant-loop-step
invariant-loop-step g l = AreRefilled l.eps (g.H.Guide.distance l.guide) (take l.step-index l.steps) l.labels l.queue
