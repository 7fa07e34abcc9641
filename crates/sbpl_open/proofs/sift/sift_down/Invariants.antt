use Rattle.std.proofs.Common.{◌-◌, length}
use Rattle.sbpl_open.specs.Heap.{IsNotBefore, filled, rank_at}
use Rattle.sbpl_open.proofs.Sifting.{IsMoving}
use Rattle.sbpl_open.proofs.sift.sift_down.Given as goal

abbrev pub invariant-loop-below : goal.invariant-loop-below
invariant-loop-below l =
    IsMoving l.fn.heap l.fn.slots l.fn.hole l.heap l.slots l.hole l.entry
    × IsNotBefore (rank_at (filled l.heap l.hole l.entry)) l.hole

abbrev pub decreases-loop-below : goal.decreases-loop-below
decreases-loop-below l = length l.heap - l.hole
