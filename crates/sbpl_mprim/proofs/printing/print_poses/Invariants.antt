use Rattle.std.proofs.Common.{◌≡◌, ◌++◌, map, take}
use Rattle.sbpl_fixed.specs.Printed.{lines_text}
use Rattle.sbpl_mprim.specs.Printed.{pose_line}
use Rattle.sbpl_mprim.proofs.printing.print_poses.Given as goal

abbrev pub invariant-loop-pose : goal.invariant-loop-pose
invariant-loop-pose l = l.out.items ≡ l.initial.out.items ++ lines_text (map pose_line (take l.pose-index l.poses))
