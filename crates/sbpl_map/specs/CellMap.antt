-- Maps of cell costs.
use Rattle.std.specs.Prelude.{◌≡◌, ◌≢◌, ℕ, ℤ, pos, negsuc, ◌+◌, ◌*◌, ◌≤◌, ◌≤ℤ◌, ◌<ℤ◌, ◌⊎◌, ◌&&◌, List, length, slice_get, slice_index, slice_set, Option, Some, None, option_and_then, nat_lt, if◌then◌else◌}

-- the costs of the cells, row by row from y = 0, with x along a row
pub record CellMap : Type 0 where
  pub width : ℕ
  pub height : ℕ
  pub costs : List ℕ

-- a map may have this many cells along x and along y: at least one of each, and at most 2 ^ 28 cells in all
pub record IsMapSize (columns rows : ℕ) : Type 0 where
  pub width : (1 ≤ columns) × (columns ≤ 268435456)
  pub height : (1 ≤ rows) × (rows ≤ 268435456)
  pub few_cells : columns * rows ≤ 268435456

-- a map has one cost for each cell, in 0..255, and at most 2 ^ 28 cells
pub record IsCellMap (m : CellMap) : Type 0 where
  pub width : (1 ≤ m.width) × (m.width ≤ 268435456)
  pub height : (1 ≤ m.height) × (m.height ≤ 268435456)
  pub cells : length m.costs ≡ m.width * m.height
  pub few_cells : m.width * m.height ≤ 268435456
  pub costs : (i : ℕ) → slice_index m.costs i ≤ 255

-- cell (x, y) lies on the map
pub record IsOnMap (m : CellMap) (x y : ℤ) : Type 0 where
  pub left : pos 0 ≤ℤ x
  pub right : x <ℤ pos m.width
  pub low : pos 0 ≤ℤ y
  pub high : y <ℤ pos m.height

-- the index of cell (x, y) in the list of costs, none off the map
abbrev pub index_in : CellMap → ℤ → ℤ → Option ℕ
index_in m (pos x) (pos y) = if nat_lt x m.width && nat_lt y m.height then Some (y * m.width + x) else None
index_in m (pos x) (negsuc y) = None
index_in m (negsuc x) y = None

-- the cost of cell (x, y), none off the map
abbrev pub cost_at : CellMap → ℤ → ℤ → Option ℕ
cost_at m x y = option_and_then (slice_get m.costs) (index_in m x y)

-- the costs with this one at an index, or unchanged where there is none
abbrev pub costs_with : CellMap → Option ℕ → (cost : ℕ) → List ℕ
costs_with m (Some i) cost = slice_set m.costs i cost
costs_with m None cost = m.costs

-- cell (x, y) gets this cost, and nothing else changes
pub record ChangesCell (old new : CellMap) (x y : ℤ) (cost : ℕ) : Type 0 where
  pub width : new.width ≡ old.width
  pub height : new.height ≡ old.height
  pub at : cost_at new x y ≡ Some cost
  pub others : (u v : ℤ) → (u ≢ x) ⊎ (v ≢ y) → cost_at new u v ≡ cost_at old u v
