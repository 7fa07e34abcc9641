use Rattle.std.proofs.Common.{◌≡◌, ◌++◌}
use Rattle.std.specs.List.{flat_map}
use Rattle.sbpl_fixed.specs.Printed.{lines_text}
use Rattle.sbpl_demo.specs.Primitives.{head_lines, motion_lines, motions}
use Rattle.sbpl_demo.proofs.primitives.primitives.Given as goal

-- the primitives of the first headings are written
abbrev pub invariant-loop-heading : goal.invariant-loop-heading
invariant-loop-heading l =
    l.text.items ≡ lines_text head_lines ++ lines_text (flat_map motion_lines (motions l.heading))
