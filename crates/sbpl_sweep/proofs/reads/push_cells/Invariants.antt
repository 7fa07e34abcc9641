use Rattle.std.proofs.Common.{◌≡◌, ◌++◌, map, take}
use Rattle.sbpl_sweep.specs.ReadTables.{read_by}
use Rattle.sbpl_sweep.proofs.reads.push_cells.Given as goal

abbrev pub invariant-loop-cell : goal.invariant-loop-cell
invariant-loop-cell l = l.reads.items ≡ l.fn.reads.items ++ map (read_by l.prim) (take l.cell-index l.cells)
