use Rattle.std.proofs.Common.{arith}
use Rattle.sbpl_heur.proofs.Boarding.{few_cells}
use Rattle.sbpl_heur.proofs.cells.Cells.count.Goals as goal

pub returns-clause-few : goal.returns-clause-few
returns-clause-few c = omega (arith, few_cells _ c.self.invariant, c.len.ensures)
