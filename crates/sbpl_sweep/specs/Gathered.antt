-- The cells of bands in one list.
use Rattle.std.specs.Prelude.{◌≡◌, ℕ, ℤ, pos, ◌+◌, ◌<◌, ◌≤◌, ◌+ℤ◌, ◌≤ℤ◌, ◌<ℤ◌, ◌⊎◌, List, length, slice_get, Some}
use Rattle.sbpl_sweep.specs.declared.band.Band.{Band}
use Rattle.sbpl_sweep.specs.declared.cell.Cell.{Cell}
use Rattle.sbpl_sweep.specs.declared.stop.SweepStop.{SweepStop}
use Rattle.sbpl_sweep.specs.declared.stop.SweepStop.TheVariants.{TooMany, NoMemory}
use Rattle.sbpl_sweep.specs.Bands.{IsIn, IsCovered}
use Rattle.sbpl_sweep.specs.Centres.{IsBefore}
use Rattle.sbpl_sweep.specs.Widths.{most_cells}

-- a cell is in a list
pub record IsListed (cells : List Cell) (x y : ℤ) : Type 0 where
  pub number : ℕ
  pub stands : slice_get cells number ≡ Some (record { y = y; x = x })

-- cells stand in order, each once
abbrev pub AreInOrder : List Cell → Type 0
AreInOrder cells = (i : ℕ) (a b : Cell) → slice_get cells i ≡ Some a → slice_get cells (i + 1) ≡ Some b → IsBefore a b

-- some of the cells that bands cover, each once and in order
pub record AreSomeCovered (bands : List Band) (cells : List Cell) : Type 0 where
  pub each : (x y : ℤ) → IsListed cells x y → IsCovered bands x y
  pub ordered : AreInOrder cells

-- the cells that bands cover and no others, each once and in order
pub record AreCovered (bands : List Band) (cells : List Cell) : Type 0 where
  pub some : AreSomeCovered bands cells
  pub all : (x y : ℤ) → IsCovered bands x y → IsListed cells x y
  pub few : length cells ≤ most_cells

-- bands cover more cells than a motion may sweep
abbrev pub CoverTooMany : List Band → Type 0
CoverTooMany bands = (cells : List Cell) × AreSomeCovered bands cells × (most_cells < length cells)

-- why the cells of bands are not listed
abbrev pub IsStopOf : List Band → SweepStop → Type 0
IsStopOf bands TooMany = CoverTooMany bands
IsStopOf bands NoMemory = Unit {0}

-- a band goes on where cells that are in order end: no cell comes after it, and where a cell of its row does, the
-- band's cells before that one are among them
pub record GoesOn (cells : List Cell) (b : Band) : Type 0 where
  pub rows : (x y : ℤ) → IsListed cells x y → y ≤ℤ b.y
  pub filled : (x z : ℤ) → IsListed cells z b.y → b.first ≤ℤ x → x ≤ℤ z → IsListed cells x b.y
  pub bounded : (x y : ℤ) → IsListed cells x y → x ≤ℤ pos 1000000000000000

-- a column of a band from which on its cells are still to be listed
pub record IsNext (cells : List Cell) (b : Band) (next : ℤ) : Type 0 where
  pub from : b.first ≤ℤ next
  pub listed : (x : ℤ) → b.first ≤ℤ x → (x +ℤ pos 1) ≤ℤ next → IsListed cells x b.y
  pub after : (x y : ℤ) → IsListed cells x y → IsBefore (record { y = y; x = x }) (record { y = b.y; x = next })

-- cells of a band from a column on are added, as long as they are not too many
pub record AddsBand (old : List Cell) (b : Band) (new : List Cell) : Type 0 where
  pub kept : (x y : ℤ) → IsListed old x y → IsListed new x y
  pub each : (x y : ℤ) → IsListed new x y → IsListed old x y ⊎ IsIn b x y
  pub ordered : AreInOrder new

-- bands stand in order: by their rows, then by their first columns
abbrev pub AreSortedBands : List Band → Type 0
AreSortedBands bands = (i j : ℕ) (a b : Band) → i < j → slice_get bands i ≡ Some a → slice_get bands j ≡ Some b → (a.y <ℤ b.y) ⊎ ((a.y ≡ b.y) × (a.first ≤ℤ b.first))

-- two lists of bands cover the same cells
pub record CoverTheSame (old new : List Band) : Type 0 where
  pub kept : (x y : ℤ) → IsCovered old x y → IsCovered new x y
  pub each : (x y : ℤ) → IsCovered new x y → IsCovered old x y

-- no band's cells are further right than any primitive can reach
abbrev pub AreBounded : List Band → Type 0
AreBounded bands = (x y : ℤ) → IsCovered bands x y → x ≤ℤ pos 1000000000000000
