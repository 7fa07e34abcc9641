use Rattle.std.proofs.Common.{◌≤◌, ◌+ℤ◌, ◌-ℤ◌, pos, length}
use Rattle.std.specs.Int.RustNames.{unsigned_abs}
use Rattle.sbpl_sweep.specs.Widths.{most_cells}
use Rattle.sbpl_sweep.specs.Gathered.{AddsBand, IsNext}
use Rattle.sbpl_sweep.proofs.gathering.push_band.Given as goal

abbrev pub invariant-loop-x : goal.invariant-loop-x
invariant-loop-x l = record {
  added : AddsBand l.initial.cells.items l.band l.cells.items;
  next : IsNext l.cells.items l.band l.x;
  few : length l.cells.items ≤ most_cells;
}

abbrev pub decreases-loop-x : goal.decreases-loop-x
decreases-loop-x l = unsigned_abs ((l.band.last +ℤ pos 1) -ℤ l.x)
