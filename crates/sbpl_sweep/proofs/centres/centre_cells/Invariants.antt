use Rattle.std.proofs.Common.{◌≡◌, map, take}
use Rattle.sbpl_sweep.specs.Centres.{cell_of_pose}
use Rattle.sbpl_sweep.proofs.centres.centre_cells.Given as goal

abbrev pub invariant-loop-pose : goal.invariant-loop-pose
invariant-loop-pose l = l.cells.items ≡ map (cell_of_pose l.cell) (take l.pose-index l.poses)
