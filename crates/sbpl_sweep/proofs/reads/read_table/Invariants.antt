use Rattle.sbpl_sweep.specs.ReadTables.{AreReadsOf}
use Rattle.sbpl_sweep.proofs.reads.read_table.Given as goal

abbrev pub invariant-loop-i : goal.invariant-loop-i
invariant-loop-i l = AreReadsOf l.swept l.i l.reads.items
