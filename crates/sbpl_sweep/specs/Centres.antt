-- Lists of centre cells and of swept cells.
use Rattle.std.specs.Prelude.{◌≡◌, ℕ, ℤ, ◌+◌, ◌⊎◌, ◌<ℤ◌, List, slice_get, Some}
use Rattle.sbpl_mprim.specs.sbpl_cfg.declared.pose.Pose.{Pose}
use Rattle.sbpl_mprim.specs.Primitives.{offset_cell}
use Rattle.sbpl_sweep.specs.declared.cell.Cell.{Cell}
use Rattle.sbpl_sweep.specs.Sweep.{IsCentre, IsSwept}

-- the cell in which a pose lies
abbrev pub cell_of_pose : ℤ → Pose → Cell
cell_of_pose cell q = record { y = offset_cell cell q.y; x = offset_cell cell q.x }

-- a cell comes before another: by its row, then by its column
abbrev pub IsBefore : Cell → Cell → Type 0
IsBefore a b = (a.y <ℤ b.y) ⊎ ((a.y ≡ b.y) × (a.x <ℤ b.x))

-- a list of cells has the same cells as another, each once and in order
pub record AreOrdered (cells result : List Cell) : Type 0 where
  pub each : (i : ℕ) (c : Cell) → slice_get result i ≡ Some c → (j : ℕ) × (slice_get cells j ≡ Some c)
  pub all : (i : ℕ) (c : Cell) → slice_get cells i ≡ Some c → (j : ℕ) × (slice_get result j ≡ Some c)
  pub ordered : (i : ℕ) (a b : Cell) → slice_get result i ≡ Some a → slice_get result (i + 1) ≡ Some b → IsBefore a b

-- the list holds the centre cells of these poses and no other cells, each once and in order
pub record AreCentres (cell : ℤ) (poses : List Pose) (cells : List Cell) : Type 0 where
  pub each : (i : ℕ) (c : Cell) → slice_get cells i ≡ Some c → IsCentre cell poses c.x c.y
  pub all : (x y : ℤ) → IsCentre cell poses x y → (i : ℕ) × (slice_get cells i ≡ Some (record { y = y; x = x }))
  pub ordered : (i : ℕ) (a b : Cell) → slice_get cells i ≡ Some a → slice_get cells (i + 1) ≡ Some b → IsBefore a b

-- the list holds the cells that a motion sweeps and no other cells, each once and in order
pub record AreSwept (cell : ℤ) (radius : ℕ) (poses : List Pose) (cells : List Cell) : Type 0 where
  pub each : (i : ℕ) (c : Cell) → slice_get cells i ≡ Some c → IsSwept cell radius poses c.x c.y
  pub all : (x y : ℤ) → IsSwept cell radius poses x y → (i : ℕ) × (slice_get cells i ≡ Some (record { y = y; x = x }))
  pub ordered : (i : ℕ) (a b : Cell) → slice_get cells i ≡ Some a → slice_get cells (i + 1) ≡ Some b → IsBefore a b
