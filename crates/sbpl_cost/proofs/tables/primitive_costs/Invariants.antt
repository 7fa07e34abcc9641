use Rattle.sbpl_cost.proofs.CostTables.{AreCosts}
use Rattle.sbpl_cost.proofs.tables.primitive_costs.Given as goal

abbrev pub invariant-loop-i : goal.invariant-loop-i
invariant-loop-i l = AreCosts l.env l.prims.items l.costs.items l.i
