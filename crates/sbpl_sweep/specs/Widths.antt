-- How many cells motions may sweep.
use Rattle.std.specs.Prelude.{◌≡◌, ℕ, ℤ, ◌+◌, ◌<◌, ◌≤◌, ◌^◌, ◌⊎◌, List, length, take, slice_get, Some, sum_by}
use Rattle.sbpl_mprim.specs.sbpl_cfg.declared.pose.Pose.{Pose}
use Rattle.sbpl_mprim.specs.declared.prim.Primitive.{Primitive}
use Rattle.sbpl_mprim.specs.Primitives.{Primitives, pose_count}
use Rattle.sbpl_sweep.specs.declared.cell.Cell.{Cell}
use Rattle.sbpl_sweep.specs.declared.fault.SweepFault.{SweepFault}
use Rattle.sbpl_sweep.specs.declared.fault.SweepFault.TheVariants.{TooWide, NoMemory}
use Rattle.sbpl_sweep.specs.Sweep.{IsSwept}
use Rattle.sbpl_sweep.specs.Centres.{IsBefore}

-- some of the cells that a motion sweeps, each once and in order
pub record AreSomeSwept (cell : ℤ) (radius : ℕ) (poses : List Pose) (cells : List Cell) : Type 0 where
  pub each : (i : ℕ) (c : Cell) → slice_get cells i ≡ Some c → IsSwept cell radius poses c.x c.y
  pub ordered : (i : ℕ) (a b : Cell) → slice_get cells i ≡ Some a → slice_get cells (i + 1) ≡ Some b → IsBefore a b

-- a motion sweeps more cells than a limit
abbrev pub SweepsMoreThan : ℤ → ℕ → List Pose → ℕ → Type 0
SweepsMoreThan cell radius poses n = (cells : List Cell) × AreSomeSwept cell radius poses cells × (n < length cells)

-- for each of some motions, some of the cells that it sweeps
pub record AreSomeSweptByEach (cell : ℤ) (radius : ℕ) (motions : List Primitive) (lists : List (List Cell)) : Type 0 where
  pub count : length lists ≡ length motions
  pub each : (i : ℕ) (p : Primitive) (cells : List Cell) → slice_get motions i ≡ Some p → slice_get lists i ≡ Some cells → AreSomeSwept cell radius p.poses cells

abbrev pub cell_count : List Cell → ℕ
cell_count cells = length cells

-- some motions together sweep more cells than a limit, where a cell counts for each motion that sweeps it
abbrev pub SweepTogetherMoreThan : ℤ → ℕ → List Primitive → ℕ → Type 0
SweepTogetherMoreThan cell radius motions n = (lists : List (List Cell)) × AreSomeSweptByEach cell radius motions lists × (n < sum_by cell_count lists)

-- the greatest number of cells that a motion may sweep, and that all motions of a file may sweep together
abbrev pub most_cells : ℕ
most_cells = 65536

abbrev pub most_cells_together : ℕ
most_cells_together = 2 ^ 22

-- the primitive at index i sweeps too many cells by itself
abbrev pub IsTooWideItself : Primitives → ℕ → ℕ → Type 0
IsTooWideItself prims radius i = (p : Primitive) × (slice_get prims.items i ≡ Some p) × SweepsMoreThan prims.cell radius p.poses most_cells

-- the primitive at index i sweeps too many cells by itself or together with those before it
abbrev pub IsTooWide : Primitives → ℕ → ℕ → Type 0
IsTooWide prims radius i = IsTooWideItself prims radius i ⊎ ((i < length prims.items) × SweepTogetherMoreThan prims.cell radius (take (i + 1) prims.items) most_cells_together)

pub record IsFirstTooWide (prims : Primitives) (radius i : ℕ) : Type 0 where
  pub here : IsTooWide prims radius i
  pub before : (j : ℕ) → j < i → IsTooWide prims radius j → ⊥

abbrev pub NoneTooWide : Primitives → ℕ → Type 0
NoneTooWide prims radius = (i : ℕ) → IsTooWide prims radius i → ⊥

-- why sweeps are not made: the first primitive that is too wide, or out of memory
abbrev pub IsCause : Primitives → ℕ → SweepFault → Type 0
IsCause prims radius (TooWide i) = IsFirstTooWide prims radius i
IsCause prims radius NoMemory = Unit {0}

-- a point sweeps at most as many cells as its motion has poses
abbrev pub PointsSweepFewCells : Type 0
PointsSweepFewCells = (cell : ℤ) (poses : List Pose) (cells : List Cell) → AreSomeSwept cell 0 poses cells → length cells ≤ length poses

-- primitives with few poses are not too wide for a point
abbrev pub FewPosesAreNarrow : Type 0
FewPosesAreNarrow = (prims : Primitives) → ((i : ℕ) (p : Primitive) → slice_get prims.items i ≡ Some p → pose_count p ≤ most_cells)
    → sum_by pose_count prims.items ≤ most_cells_together → NoneTooWide prims 0
