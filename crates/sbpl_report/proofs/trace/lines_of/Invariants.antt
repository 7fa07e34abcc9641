use Rattle.std.proofs.Common.{◌≡◌, ◌++◌, map, drop}
use Rattle.sbpl_report.proofs.trace.lines_of.Given as goal

-- what was told, and what is left to tell, are all
abbrev pub invariant-loop-action : goal.invariant-loop-action
invariant-loop-action g l = l.lines.items ++ map g.N.Traced.line (drop l.action-index l.actions) ≡ map g.N.Traced.line l.actions
