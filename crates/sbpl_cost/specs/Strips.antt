-- Strips of cells.
use Rattle.std.specs.Prelude.{ℕ, zero, suc, ℤ, pos, ◌+ℤ◌, List, [], ◌∷◌, ◌++◌}
use Rattle.sbpl_sweep.specs.declared.cell.Cell.{Cell}
use Rattle.sbpl_cost.specs.declared.strip.Strip.{Strip}

-- this many cells of a row, from a column upwards
abbrev pub cells_of_row : (y from : ℤ) → ℕ → List Cell
cells_of_row y from zero = []
cells_of_row y from (suc count) = cells_of_row y from count ++ (record { y = y; x = from +ℤ pos count }) ∷ []

-- the cells of a strip
abbrev pub strip_cells : Strip → List Cell
strip_cells strip = cells_of_row strip.y strip.from strip.len

-- the cells of strips
abbrev pub cells_in : List Strip → List Cell
cells_in [] = []
cells_in (strip ∷ rest) = strip_cells strip ++ cells_in rest
