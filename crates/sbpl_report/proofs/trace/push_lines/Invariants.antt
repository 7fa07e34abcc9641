use Rattle.std.proofs.Common.{◌≡◌, ◌++◌, flat_map, drop}
use Rattle.sbpl_report.specs.Traces.{line_text}
use Rattle.sbpl_report.proofs.trace.push_lines.Given as goal

-- what is written, and the lines that are left, are what stood before and all lines
abbrev pub invariant-loop-line : goal.invariant-loop-line
invariant-loop-line l =
    l.out.items ++ flat_map line_text (drop l.line-index l.lines) ≡ l.fn.out.items ++ flat_map line_text l.lines
