use Rattle.sbpl_serial.proofs.Gathering.{IsGathering}
use Rattle.sbpl_serial.proofs.queue.gather.Given as goal

abbrev pub invariant-loop-entry : goal.invariant-loop-entry
invariant-loop-entry l =
    IsGathering l.queue l.entries l.fn.steps l.steps l.entry-index
