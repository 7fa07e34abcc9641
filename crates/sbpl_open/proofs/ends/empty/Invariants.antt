use Rattle.std.proofs.Common.{◌≡◌, vec_capacity, length}
use Rattle.sbpl_open.specs.Heap.{AreAgreed}
use Rattle.sbpl_open.proofs.ends.empty.Given as goal

abbrev pub invariant-loop-entry : goal.invariant-loop-entry
invariant-loop-entry l = AreAgreed l.heap.items l.slots × (vec_capacity l.heap ≡ vec_capacity l.fn.heap)
    × (length l.slots ≡ length l.fn.slots)

abbrev pub decreases-loop-entry : goal.decreases-loop-entry
decreases-loop-entry l = goal.left-loop-entry l
