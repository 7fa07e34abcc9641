use Rattle.std.proofs.Common.{take}
use Rattle.sbpl_serial.proofs.Noting.{AreTakenNoted}
use Rattle.sbpl_serial.proofs.note.note_taken.Given as goal

abbrev pub invariant-loop-step : goal.invariant-loop-step
invariant-loop-step l = AreTakenNoted l.labels (take l.step-index l.steps) l.fn.queue l.queue
