-- Costs of cells below a limit.
use Rattle.std.specs.Prelude.{◌≡◌, ℕ, ℤ, pos, negsuc, ◌<◌, ◌≤◌, ◌+ℤ◌, ◌⊎◌, List, slice_get, Some, IsSomeAnd, min}
use Rattle.sbpl_sweep.specs.sbpl_cfg.declared.pose.Place.{Place}
use Rattle.sbpl_sweep.specs.sbpl_cfg.Environment.{Environment, IsWithin}
use Rattle.sbpl_terrain.specs.sbpl_map.CellMap.{CellMap, cost_at}
use Rattle.sbpl_sweep.specs.declared.cell.Cell.{Cell}

-- an offset is that of a cell that a motion can touch
abbrev pub IsNear : Cell → Type 0
IsNear c = IsWithin (negsuc 10000000000000) (pos 10000000000000) c.x × IsWithin (negsuc 10000000000000) (pos 10000000000000) c.y

-- cell (x, y) is on the map and costs less than a limit
abbrev pub IsCellBelow : CellMap → ℤ → ℤ → ℕ → Type 0
IsCellBelow m x y limit = IsSomeAnd (cost_at m x y) (λ c. c < limit)

-- some cell that lies this far from (x, y) is off the map or costs the limit or more
pub record IsSomeBlocked (m : CellMap) (cells : List Cell) (x y : ℤ) (limit : ℕ) : Type 0 where
  pub number : ℕ
  pub cell : Cell
  pub at : slice_get cells number ≡ Some cell
  pub blocked : IsCellBelow m (x +ℤ cell.x) (y +ℤ cell.y) limit → ⊥

-- all cells that lie this far from (x, y) cost less than the limit, and the greatest of their costs and a number is this
pub record IsGreatestBelow (m : CellMap) (cells : List Cell) (x y : ℤ) (limit least greatest : ℕ) : Type 0 where
  pub below : (i : ℕ) (c : Cell) → slice_get cells i ≡ Some c → IsCellBelow m (x +ℤ c.x) (y +ℤ c.y) limit
  pub at_least : least ≤ greatest
  pub none_above : (i cost : ℕ) (c : Cell) → slice_get cells i ≡ Some c → cost_at m (x +ℤ c.x) (y +ℤ c.y) ≡ Some cost → cost ≤ greatest
  pub reached : (greatest ≡ least) ⊎ ((i : ℕ) × (c : Cell) × (slice_get cells i ≡ Some c) × (cost_at m (x +ℤ c.x) (y +ℤ c.y) ≡ Some greatest))

-- all cells that lie this far from (x, y) are on the map and cost less than a limit
abbrev pub AreBelow : CellMap → List Cell → ℤ → ℤ → ℕ → Type 0
AreBelow m cells x y limit = (i : ℕ) (c : Cell) → slice_get cells i ≡ Some c → IsCellBelow m (x +ℤ c.x) (y +ℤ c.y) limit

-- the source cell is low enough for the robot, the cells along a motion for its centre and those around them for the
-- robot, and this is the greatest cost of the source cell and the cells along it
pub record IsGreatestPassed (e : Environment) (m : CellMap) (source : Place) (along around : List Cell) (greatest : ℕ) : Type 0 where
  pub start : ℕ
  pub start_is : cost_at m (pos source.x +ℤ pos 0) (pos source.y +ℤ pos 0) ≡ Some start
  pub start_below : start < e.obsthresh
  pub rest : IsGreatestBelow m along (pos source.x) (pos source.y) (min e.obsthresh e.inscribed) start greatest
  pub beside : AreBelow m around (pos source.x) (pos source.y) e.obsthresh

-- the source cell, a cell along a motion or one around them is not low enough
pub data IsObstructed (e : Environment) (m : CellMap) (source : Place) (along around : List Cell) : Type 0 where
  at_source : (IsCellBelow m (pos source.x +ℤ pos 0) (pos source.y +ℤ pos 0) e.obsthresh → ⊥) → IsObstructed e m source along around
  at_centre : IsSomeBlocked m along (pos source.x) (pos source.y) (min e.obsthresh e.inscribed) → IsObstructed e m source along around
  beside_it : IsSomeBlocked m around (pos source.x) (pos source.y) e.obsthresh → IsObstructed e m source along around
