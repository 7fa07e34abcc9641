use Rattle.sbpl_sweep.proofs.PosesSwept.{AreSweptBefore}
use Rattle.sbpl_sweep.proofs.sweeping.swept_cells.Given as goal

abbrev pub invariant-loop-pose : goal.invariant-loop-pose
invariant-loop-pose l = AreSweptBefore l.cell l.radius l.poses l.pose-index l.bands.items
