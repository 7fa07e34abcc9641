-- Cells in bands: parts of rows.
use Rattle.std.specs.Prelude.{◌≡◌, ℕ, ℤ, pos, ◌+◌, ◌*◌, ◌<◌, ◌≤◌, ◌+ℤ◌, ◌-ℤ◌, ◌*ℤ◌, ◌≤ℤ◌, ◌⊎◌, Bool, List, slice_get, Some, if◌then◌else◌}
use Rattle.sbpl_mprim.specs.sbpl_cfg.declared.pose.Pose.{Pose}
use Rattle.sbpl_mprim.specs.Primitives.{offset_cell}
use Rattle.sbpl_sweep.specs.declared.band.Band.{Band}
use Rattle.sbpl_sweep.specs.declared.disc.Disc.{Disc}
use Rattle.sbpl_sweep.specs.declared.reach.Axis.{Axis}
use Rattle.sbpl_sweep.specs.Reach.{IsAxis}
use Rattle.sbpl_sweep.specs.Sweep.{distance_to_cell}
use Rattle.sbpl_sweep.specs.Widths.{most_cells}

-- a cell is in a band
pub record IsIn (b : Band) (x y : ℤ) : Type 0 where
  pub row : b.y ≡ y
  pub from : b.first ≤ℤ x
  pub to : x ≤ℤ b.last

-- a cell is in one of some bands
pub record IsCovered (bands : List Band) (x y : ℤ) : Type 0 where
  pub number : ℕ
  pub band : Band
  pub stands : slice_get bands number ≡ Some band
  pub inside : IsIn band x y

-- a pose is nearer to the closed square of cell (x, y) than a radius, in nanometres
abbrev pub IsNear : ℤ → ℕ → Pose → ℤ → ℤ → Type 0
IsNear cell radius p x y =
    distance_to_cell cell p.x x * distance_to_cell cell p.x x + distance_to_cell cell p.y y * distance_to_cell cell p.y y < 2 * radius * (2 * radius)

-- a pose lies in cell (x, y)
abbrev pub IsOwn : ℤ → Pose → ℤ → ℤ → Type 0
IsOwn cell p x y = (offset_cell cell p.x ≡ x) × (offset_cell cell p.y ≡ y)

-- a disc around a pose, where it lies among cells, in half nanometres
pub record IsDisc (cell : ℤ) (radius : ℕ) (p : Pose) (d : Disc) : Type 0 where
  pub side_is : pos d.side ≡ pos 2 *ℤ cell
  pub twice : d.radius ≡ 2 * radius
  pub column : IsAxis d.side (cell +ℤ (pos 2 *ℤ p.x)) d.column
  pub row : IsAxis d.side (cell +ℤ (pos 2 *ℤ p.y)) d.row

-- the row with number n beyond the next one, to one side
abbrev pub row_beside : Bool → ℤ → ℕ → ℤ
row_beside upward own n = if upward then own +ℤ pos (n + 1) else own -ℤ pos (n + 1)

-- how far the next row to one side is
abbrev pub gap_beside : Bool → Axis → ℕ
gap_beside upward a = if upward then a.after else a.before

-- the disc around a pose touches these cells, and they were added to bands
pub record AddsRows (cell : ℤ) (radius : ℕ) (p : Pose) (upward : Bool) (own : ℤ) (rows : ℕ) (old new : List Band) : Type 0 where
  pub kept : (x y : ℤ) → IsCovered old x y → IsCovered new x y
  pub each : (x y : ℤ) → IsCovered new x y → IsCovered old x y ⊎ IsNear cell radius p x y
  pub all : (x : ℤ) (n : ℕ) → n < rows → IsNear cell radius p x (row_beside upward own n) → IsCovered new x (row_beside upward own n)

-- the cells that a disc around a pose sweeps were added to bands
pub record AddsDisc (cell : ℤ) (radius : ℕ) (p : Pose) (old new : List Band) : Type 0 where
  pub kept : (x y : ℤ) → IsCovered old x y → IsCovered new x y
  pub each : (x y : ℤ) → IsCovered new x y → IsCovered old x y ⊎ (IsOwn cell p x y ⊎ IsNear cell radius p x y)
  pub own : (x y : ℤ) → IsOwn cell p x y → IsCovered new x y
  pub near : (x y : ℤ) → IsNear cell radius p x y → IsCovered new x y

-- a pose's own row alone has more cells than a motion may sweep
pub record HasWideRow (cell : ℤ) (radius : ℕ) (p : Pose) : Type 0 where
  pub row : ℤ
  pub first : ℤ
  pub all : (n : ℕ) → n ≤ most_cells → IsOwn cell p (first +ℤ pos n) row ⊎ IsNear cell radius p (first +ℤ pos n) row
