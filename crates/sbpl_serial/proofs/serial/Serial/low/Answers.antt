use Rattle.sbpl_serial.proofs.Lowering.{in_either}
use Rattle.sbpl_serial.proofs.serial.Serial.low.Goals as goal

pub low_among-requires-clause-all : goal.low_among-requires-clause-all
low_among-requires-clause-all g c =
    rw c.as_slice.ensures.value (in_either _ _ c.self.invariant.waiting c.self.invariant.closed_by_steps)
