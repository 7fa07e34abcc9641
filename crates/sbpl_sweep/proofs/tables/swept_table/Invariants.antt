use Rattle.sbpl_sweep.proofs.TablesSwept.{IsTabled}
use Rattle.sbpl_sweep.proofs.tables.swept_table.Given as goal

abbrev pub invariant-loop-i : goal.invariant-loop-i
invariant-loop-i l = IsTabled l.prims l.radius l.i l.table l.total
