-- The arcs of a grid.
use Rattle.std.specs.Prelude.{◌≡◌, ℕ, ℤ, pos, ◌+◌, ◌*◌, ◌<◌, ◌≤◌, ◌+ℤ◌, ◌↔◌, true, Option, Some, None, IsSomeAnd}
use Rattle.sbpl_terrain.specs.sbpl_graph.Network.{Network}
use Rattle.sbpl_terrain.specs.sbpl_map.CellMap.{IsOnMap, cost_at}
use Rattle.sbpl_nav2d.specs.declared.cell.Cell.{Cell}
use Rattle.sbpl_nav2d.specs.Environment.{column_of, row_of}
use Rattle.sbpl_nav2d.specs.Directions.{direction, is_diagonal, step_cost, by, moved, moved_back}
use Rattle.sbpl_nav2d.specs.Gap.{gap_of}
use Rattle.sbpl_nav2d.specs.World.{GridWorld}

-- the cell of state s
abbrev pub cell_of : GridWorld → ℕ → Cell
cell_of w s = by (pos (column_of w.map.width s)) (pos (row_of w.map.width s))

-- a cell of the plane is one of the map
abbrev pub IsMapCell : GridWorld → Cell → Type 0
IsMapCell w c = IsOnMap w.map c.x c.y

-- state t is this cell of the map
pub record IsStateAt (w : GridWorld) (cell : Cell) (t : ℕ) : Type 0 where
  pub column : ℕ
  pub row : ℕ
  pub x : cell.x ≡ pos column
  pub y : cell.y ≡ pos row
  pub right : column < w.map.width
  pub high : row < w.map.height
  pub number : t ≡ row * w.map.width + column

-- how far the cells lie from its source that a step in direction k reads: the source, the end, and on a diagonal the
-- two cells beside both
pub data IsReadAt (k : ℕ) (dx dy : ℤ) : Type 0 where
  at_source : dx ≡ pos 0 → dy ≡ pos 0 → IsReadAt k dx dy
  at_end : dx ≡ (direction k).x → dy ≡ (direction k).y → IsReadAt k dx dy
  beside_along_x : is_diagonal k ≡ true → dx ≡ (direction k).x → dy ≡ pos 0 → IsReadAt k dx dy
  beside_along_y : is_diagonal k ≡ true → dx ≡ pos 0 → dy ≡ (direction k).y → IsReadAt k dx dy

-- the cost of the cell that lies this far from the cell of s, none off the map
abbrev pub cost_from : GridWorld → ℕ → ℤ → ℤ → Option ℕ
cost_from w s dx dy = cost_at w.map ((cell_of w s).x +ℤ dx) ((cell_of w s).y +ℤ dy)

-- all cells that arc k of state s reads are on the map and below the threshold
abbrev pub IsFree : GridWorld → ℕ → ℕ → Type 0
IsFree w s k = (dx dy : ℤ) → IsReadAt k dx dy → IsSomeAnd (cost_from w s dx dy) (λ c. c < w.env.obsthresh)

-- the greatest cost of a cell that arc k of state s reads
pub record IsGreatestRead (w : GridWorld) (s k greatest : ℕ) : Type 0 where
  pub dx : ℤ
  pub dy : ℤ
  pub read : IsReadAt k dx dy
  pub cost : cost_from w s dx dy ≡ Some greatest
  pub none_above : (x y : ℤ) (c : ℕ) → IsReadAt k x y → cost_from w s x y ≡ Some c → c ≤ greatest

-- arc k of state s is free and has this cost
pub record IsFreeAt (w : GridWorld) (s k cost : ℕ) : Type 0 where
  pub free : IsFree w s k
  pub greatest : ℕ
  pub read : IsGreatestRead w s k greatest
  pub product : cost ≡ step_cost k * (greatest + 1)

-- a graph's arc k of state s leads one step in direction k, or nowhere exactly where that is off the map, and it has
-- the step's cost, or none exactly where the step is not free
pub record IsGridArc (n : Network) (w : GridWorld) (s k : ℕ) : Type 0 where
  pub head : (t : ℕ) → (n.head s k ≡ Some t) ↔ IsStateAt w (moved (cell_of w s) (direction k)) t
  pub no_head : (n.head s k ≡ None) ↔ (IsMapCell w (moved (cell_of w s) (direction k)) → ⊥)
  pub cost : (c : ℕ) → (n.cost s k ≡ Some c) ↔ IsFreeAt w s k c
  pub no_cost : (n.cost s k ≡ None) ↔ (IsFree w s k → ⊥)

-- a graph's tail j of state t is arc j of the cell that lies one step against direction j, or none exactly where that
-- is off the map
pub record IsGridTail (n : Network) (w : GridWorld) (t j : ℕ) : Type 0 where
  pub tail : (s k : ℕ) → (n.tail t j ≡ Some (s, k)) ↔ (IsStateAt w (moved_back (cell_of w t) (direction j)) s × (k ≡ j))
  pub no_tail : (n.tail t j ≡ None) ↔ (IsMapCell w (moved_back (cell_of w t) (direction j)) → ⊥)

-- a graph is the grid with eight neighbours
pub record IsGridNetwork (n : Network) (w : GridWorld) : Type 0 where
  pub states : n.states ≡ w.env.width * w.env.height
  pub fan : (s : ℕ) → n.fan s ≡ 8
  pub arcs : (s k : ℕ) → s < n.states → k < 8 → IsGridArc n w s k
  pub tail_fan : (t : ℕ) → n.tail_fan t ≡ 8
  pub tails : (t j : ℕ) → t < n.states → j < 8 → IsGridTail n w t j
  pub gap : (a b : ℕ) → n.gap a b ≡ gap_of w.env.width a b
