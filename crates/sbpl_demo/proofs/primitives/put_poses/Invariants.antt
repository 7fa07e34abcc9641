use Rattle.std.proofs.Common.{◌≡◌, ◌++◌}
use Rattle.sbpl_fixed.specs.Printed.{lines_text}
use Rattle.sbpl_demo.specs.Primitives.{pose_lines}
use Rattle.sbpl_demo.proofs.primitives.put_poses.Given as goal

-- the first poses are written
abbrev pub invariant-loop-j : goal.invariant-loop-j
invariant-loop-j l = l.out.items ≡ l.fn.out.items ++ lines_text (pose_lines l.motion l.j)
