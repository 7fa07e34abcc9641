use Rattle.sbpl_cost.proofs.ArcNumbers.{AreCounted}
use Rattle.sbpl_cost.proofs.tables.number_table.Given as goal

abbrev pub invariant-loop-i : goal.invariant-loop-i
invariant-loop-i l = AreCounted l.end l.prims.items l.prims.headings l.counts.items l.numbers.items l.i
