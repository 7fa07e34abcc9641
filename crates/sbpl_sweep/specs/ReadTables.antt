-- Reads by the cells that motions sweep.
use Rattle.std.specs.Prelude.{◌≡◌, ℕ, pos, ◌+◌, ◌<◌, ◌≤◌, ◌⊎◌, List, [], ◌∷◌, ◌++◌, length, take, map, slice_get, sum_by, Some}
use Rattle.sbpl_sweep.specs.declared.cell.Cell.{Cell}
use Rattle.sbpl_sweep.specs.declared.reads.Read.{Read}
use Rattle.sbpl_sweep.specs.Widths.{cell_count}

-- a cell is in a list
abbrev pub IsAmong : List Cell → Cell → Type 0
IsAmong cells c = (i : ℕ) × (slice_get cells i ≡ Some c)

-- the cell in which a motion begins
abbrev pub source_cell : Cell
source_cell = record { y = pos 0; x = pos 0 }

abbrev pub read_by : ℕ → Cell → Read
read_by prim c = record { prim = prim; cell = c }

-- a cell is the source cell or a swept cell
abbrev pub IsReadOf : List Cell → Cell → Type 0
IsReadOf swept c = (c ≡ source_cell) ⊎ IsAmong swept c

-- the read of a source cell was added to a list, unless that cell is swept
abbrev pub AddsSource : ℕ → List Cell → List Read → List Read → Type 0
AddsSource prim swept old new = ((new ≡ old) × IsAmong swept source_cell) ⊎ ((new ≡ old ++ read_by prim source_cell ∷ []) × (IsAmong swept source_cell → ⊥))

-- the source cell and the swept cells, each once
pub record AreReadCells (swept cells : List Cell) : Type 0 where
  pub each : (i : ℕ) (c : Cell) → slice_get cells i ≡ Some c → IsReadOf swept c
  pub all : (c : Cell) → IsReadOf swept c → IsAmong cells c
  pub once : (i j : ℕ) (c : Cell) → slice_get cells i ≡ Some c → slice_get cells j ≡ Some c → i ≡ j
  pub few : length cells ≤ length swept + 1

-- the reads of a motion that sweeps these cells were added to a list
pub record AddsReads (prim : ℕ) (swept : List Cell) (old new : List Read) : Type 0 where
  pub cells : List Cell
  pub are : AreReadCells swept cells
  pub added : new ≡ old ++ map (read_by prim) cells

-- the reads of the first motions, where each sweeps the cells of its entry of a table
pub record AreReadsOf (table : List (List Cell)) (n : ℕ) (reads : List Read) : Type 0 where
  pub each : (j : ℕ) (r : Read) → slice_get reads j ≡ Some r → (r.prim < n) × ((swept : List Cell) → slice_get table r.prim ≡ Some swept → IsReadOf swept r.cell)
  pub all : (i : ℕ) (swept : List Cell) (c : Cell) → i < n → slice_get table i ≡ Some swept → IsReadOf swept c → (j : ℕ) × (slice_get reads j ≡ Some (read_by i c))
  pub once : (j k : ℕ) (r : Read) → slice_get reads j ≡ Some r → slice_get reads k ≡ Some r → j ≡ k
  pub few : length reads ≤ sum_by cell_count (take n table) + n
