use Rattle.sbpl_open.proofs.Sifting.{IsMoving}
use Rattle.sbpl_open.proofs.sift.sift_up.Given as goal

abbrev pub invariant-loop-hole : goal.invariant-loop-hole
invariant-loop-hole l = IsMoving l.fn.heap l.fn.slots l.fn.hole l.heap l.slots l.hole l.entry

abbrev pub decreases-loop-hole : goal.decreases-loop-hole
decreases-loop-hole l = l.hole
