-- How far cells lie from the source cell of a motion.
use Rattle.std.specs.Prelude.{◌≡◌, ℕ, ℤ, pos, ◌+◌, ◌<◌, ◌≤◌, ◌+ℤ◌, ◌≤ℤ◌, List, slice_get, Some}
use Rattle.sbpl_sweep.specs.sbpl_mprim.declared.prim.Primitive.{Primitive}
use Rattle.sbpl_sweep.specs.sbpl_mprim.Primitives.{Primitives}
use Rattle.sbpl_terrain.specs.sbpl_map.CellMap.{CellMap, IsOnMap}
use Rattle.sbpl_sweep.specs.declared.cell.Cell.{Cell}
use Rattle.sbpl_cost.specs.declared.reach.Reach.{Reach}
use Rattle.sbpl_cost.specs.declared.strip.Strip.{Strip}
use Rattle.sbpl_cost.specs.Strips.{cells_in}

-- an offset is at most this far from 0, to either side
abbrev pub IsUpTo : ℕ → ℤ → Type 0
IsUpTo far z = (pos 0 ≤ℤ (z +ℤ pos far)) × (z ≤ℤ pos far)

-- cells lie within a reach
abbrev pub LieWithin : Reach → List Cell → Type 0
LieWithin r cells = (i : ℕ) (c : Cell) → slice_get cells i ≡ Some c → IsUpTo r.columns c.x × IsUpTo r.rows c.y

-- the second reach is as far as the first
abbrev pub IsAsFar : (before after : Reach) → Type 0
IsAsFar before after = (before.columns ≤ after.columns) × (before.rows ≤ after.rows)

-- a reach is no further than a motion's
abbrev pub IsReach : Reach → Type 0
IsReach r = (r.columns ≤ 10000000000001) × (r.rows ≤ 10000000000001)

-- with the source cell at (x, y) all cells within a reach are on the map
pub record IsInside (r : Reach) (m : CellMap) (x y : ℕ) : Type 0 where
  pub left : r.columns ≤ x
  pub right : x + r.columns < m.width
  pub low : r.rows ≤ y
  pub high : y + r.rows < m.height

-- with the source cell at (x, y) all these cells are on the map
abbrev pub AreOnMap : CellMap → List Cell → (x y : ℕ) → Type 0
AreOnMap m cells x y = (i : ℕ) (c : Cell) → slice_get cells i ≡ Some c → IsOnMap m (pos x +ℤ c.x) (pos y +ℤ c.y)

-- each primitive has a reach within which the cells of its strips lie
abbrev pub HaveReaches : Primitives → List (List Strip) → List Reach → Type 0
HaveReaches prims around reaches = (i : ℕ) (p : Primitive) (strips : List Strip) → slice_get prims.items i ≡ Some p → slice_get around i ≡ Some strips
    → (r : Reach) × (slice_get reaches i ≡ Some r) × IsReach r × LieWithin r (cells_in strips)
