use Rattle.std.proofs.Common.{◌≡◌, ◌++◌, take, flat_map}
use Rattle.sbpl_report.specs.Listing.{cell_text}
use Rattle.sbpl_report.proofs.sweep_lines.push_cells.Given as goal

abbrev pub invariant-loop-cell : goal.invariant-loop-cell
invariant-loop-cell l = l.out.items ≡ l.initial.out.items ++ flat_map (cell_text l.word) (take l.cell-index l.cells)
