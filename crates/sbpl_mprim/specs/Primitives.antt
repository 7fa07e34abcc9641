-- Primitives, and which of them a primitive file may give.
use Rattle.std.specs.Prelude.{◌≡◌, ◌≢◌, ℕ, ℤ, pos, negsuc, ◌+◌, ◌<◌, ◌≤◌, ◌+ℤ◌, ◌*ℤ◌, List, length, slice_get, Some, sum_by}
use Rattle.sbpl_cfg.specs.declared.pose.Pose.{Pose}
use Rattle.sbpl_cfg.specs.Environment.{IsWithin}
use Rattle.sbpl_cfg.specs.Place.{cell_of, heading_of}
use Rattle.sbpl_mprim.specs.declared.prim.Primitive.{Primitive}

-- the primitives of a file in file order, with the cell size and the number of headings that they are for
pub record Primitives : Type 0 where
  pub cell : ℤ
  pub headings : ℕ
  pub items : List Primitive

-- the cell of a pose's offset from the centre of the source cell, exact in half nanometres
abbrev pub offset_cell : ℤ → ℤ → ℤ
offset_cell cell x = cell_of (pos 2 *ℤ cell) (cell +ℤ (pos 2 *ℤ x))

-- a pose of a primitive file lies in its ranges
pub record IsOffsetInRange (p : Pose) : Type 0 where
  pub x : IsWithin (negsuc 999999999999) (pos 1000000000000) p.x
  pub y : IsWithin (negsuc 999999999999) (pos 1000000000000) p.y
  pub theta : IsWithin (negsuc 999999999999999999) (pos 1000000000000000000) p.theta

-- the motion ends at this pose: in the end cell, and in the end heading's bin
pub record EndsAt (cell : ℤ) (headings : ℕ) (prim : Primitive) (last : Pose) : Type 0 where
  pub x : offset_cell cell last.x ≡ prim.dx
  pub y : offset_cell cell last.y ≡ prim.dy
  pub heading : heading_of headings last.theta ≡ prim.to

-- all poses are at one point
abbrev pub AreAtOnePoint : List Pose → Type 0
AreAtOnePoint poses = (p q : Pose) (i j : ℕ) → slice_get poses i ≡ Some p → slice_get poses j ≡ Some q → (p.x ≡ q.x) × (p.y ≡ q.y)

-- what a primitive file asks of one primitive
pub record IsPrimitive (cell : ℤ) (headings : ℕ) (prim : Primitive) : Type 0 where
  pub id : prim.id ≤ 65535
  pub from : prim.from < headings
  pub dx : IsWithin (negsuc 32766) (pos 32767) prim.dx
  pub dy : IsWithin (negsuc 32766) (pos 32767) prim.dy
  pub to : prim.to < headings
  pub mult : (1 ≤ prim.mult) × (prim.mult ≤ 16777215)
  pub some_pose : 1 ≤ length prim.poses
  pub poses : (i : ℕ) (p : Pose) → slice_get prim.poses i ≡ Some p → IsOffsetInRange p
  pub end : (p : Pose) (i : ℕ) → i + 1 ≡ length prim.poses → slice_get prim.poses i ≡ Some p → EndsAt cell headings prim p
  pub moves : AreAtOnePoint prim.poses → prim.from ≢ prim.to

-- how many poses a primitive has
abbrev pub pose_count : Primitive → ℕ
pose_count prim = length prim.poses

-- no two primitives with the same start heading have the same id
abbrev pub HaveOwnIds : List Primitive → Type 0
HaveOwnIds prims = (i j : ℕ) (p q : Primitive) → i < j → slice_get prims i ≡ Some p → slice_get prims j ≡ Some q → p.from ≡ q.from → p.id ≢ q.id

-- what a primitive file asks of its primitives
pub record ArePrimitives (ps : Primitives) : Type 0 where
  pub cell : IsWithin (pos 1) (pos 1000000000000) ps.cell
  pub headings : (1 ≤ ps.headings) × (ps.headings ≤ 64)
  pub count : length ps.items ≤ 4096
  pub each : (i : ℕ) (p : Primitive) → slice_get ps.items i ≡ Some p → IsPrimitive ps.cell ps.headings p
  pub poses : sum_by pose_count ps.items ≤ 200000
  pub ids : HaveOwnIds ps.items
