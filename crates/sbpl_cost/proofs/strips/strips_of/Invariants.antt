use Rattle.std.proofs.Common.{◌≡◌, ◌++◌, take}
use Rattle.sbpl_cost.specs.Strips.{cells_in, strip_cells}
use Rattle.sbpl_cost.proofs.strips.strips_of.Given as goal

abbrev pub invariant-loop-cell : goal.invariant-loop-cell
invariant-loop-cell l = cells_in l.strips.items ++ strip_cells l.strip ≡ take l.cell-index l.cells
