use Rattle.sbpl_open.specs.Heap.{IsFirstChild, rank_at}
use Rattle.sbpl_open.proofs.sift.first_child.Given as goal

abbrev pub invariant-loop-child : goal.invariant-loop-child
invariant-loop-child l = IsFirstChild l.child (rank_at l.heap) l.slot l.best
