use Rattle.sbpl_serial.proofs.Noting.{AreNoted}
use Rattle.sbpl_serial.proofs.note.note_touched.Given as goal

abbrev pub invariant-loop-t : goal.invariant-loop-t
invariant-loop-t l = AreNoted l.labels l.touched l.fn.queue l.queue l.t-index
