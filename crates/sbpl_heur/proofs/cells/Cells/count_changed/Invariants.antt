use Rattle.std.proofs.Common.{◌≤◌}
use Rattle.sbpl_heur.proofs.cells.Cells.count_changed.Given as goal

abbrev pub invariant-loop-i : goal.invariant-loop-i
invariant-loop-i l = l.changed ≤ l.i
