-- The cells that a motion touches, as offsets from its source cell, exact in half nanometres.
use Rattle.std.specs.Prelude.{◌≡◌, ℕ, ℤ, pos, ◌+◌, ◌*◌, ◌<◌, ◌+ℤ◌, ◌-ℤ◌, ◌*ℤ◌, ◌⊎◌, List, slice_get, Some, int_lt, if◌then◌else◌}
use Rattle.std.specs.Int.RustNames.{unsigned_abs}
use Rattle.sbpl_mprim.specs.sbpl_cfg.declared.pose.Pose.{Pose}
use Rattle.sbpl_mprim.specs.declared.prim.Primitive.{Primitive}
use Rattle.sbpl_mprim.specs.Primitives.{offset_cell, IsPrimitive}

-- some pose lies in cell (x, y)
pub record IsCentre (cell : ℤ) (poses : List Pose) (x y : ℤ) : Type 0 where
  pub number : ℕ
  pub pose : Pose
  pub stands : slice_get poses number ≡ Some pose
  pub column : offset_cell cell pose.x ≡ x
  pub row : offset_cell cell pose.y ≡ y

-- how far a coordinate lies from an interval, 0 inside it
abbrev pub distance_to : ℤ → ℤ → ℤ → ℕ
distance_to low high p = if int_lt p low then unsigned_abs (low -ℤ p) else (if int_lt high p then unsigned_abs (p -ℤ high) else 0)

-- how far the offset of a pose lies from the closed side of the cells with number x, in half nanometres
abbrev pub distance_to_cell : ℤ → ℤ → ℤ → ℕ
distance_to_cell cell offset x = distance_to (pos 2 *ℤ cell *ℤ x) (pos 2 *ℤ cell *ℤ (x +ℤ pos 1)) (cell +ℤ pos 2 *ℤ offset)

-- cell (x, y) is a cell of the disc around some pose: the pose is nearer to its closed square than a radius in nanometres
pub record IsUnderDisc (cell : ℤ) (radius : ℕ) (poses : List Pose) (x y : ℤ) : Type 0 where
  pub number : ℕ
  pub pose : Pose
  pub stands : slice_get poses number ≡ Some pose
  pub near : distance_to_cell cell pose.x x * distance_to_cell cell pose.x x + distance_to_cell cell pose.y y * distance_to_cell cell pose.y y < 2 * radius * (2 * radius)

-- a motion sweeps its centre cells, and the cells of the discs of this radius around its poses
abbrev pub IsSwept : ℤ → ℕ → List Pose → ℤ → ℤ → Type 0
IsSwept cell radius poses x y = IsCentre cell poses x y ⊎ IsUnderDisc cell radius poses x y

-- a primitive's end cell is one of its centre cells
abbrev pub EndsAreCentres : Type 0
EndsAreCentres = (cell : ℤ) (headings : ℕ) (p : Primitive) → IsPrimitive cell headings p → IsCentre cell p.poses p.dx p.dy

-- a point sweeps its centre cells alone
abbrev pub PointSweepsCentres : Type 0
PointSweepsCentres = (cell : ℤ) (poses : List Pose) (x y : ℤ) → IsSwept cell 0 poses x y → IsCentre cell poses x y
