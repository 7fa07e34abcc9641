use Rattle.std.proofs.Common.{◌≡◌, ◌++◌, drop, map}
use Rattle.sbpl_fixed.specs.Printed.{lines_text}
use Rattle.sbpl_lists.specs.Pieces.{piece_text}
use Rattle.sbpl_lists.proofs.line.push_lines.Given as goal

-- what is written, and the lines that are left, are what stood before and all lines
abbrev pub invariant-loop-line : goal.invariant-loop-line
invariant-loop-line l =
    l.out.items ++ lines_text (map (λ line. map piece_text line.now) (drop l.line-index l.lines))
    ≡ l.fn.out.items ++ lines_text (map (λ line. map piece_text line.now) l.lines)
