-- Walks from cell to cell, and the cell bound.
use Rattle.std.specs.Prelude.{◌≡◌, ℕ, ℤ, pos, ◌+◌, ◌*◌, ◌/◌, ◌%◌, ◌<◌, ◌≤◌, ◌+ℤ◌, ◌⊎◌, min, max, List, [], ◌∷◌, slice_get, Some}
use Rattle.sbpl_cost.specs.sbpl_cfg.Environment.{Environment}
use Rattle.sbpl_cost.specs.sbpl_mprim.declared.prim.Primitive.{Primitive}
use Rattle.sbpl_cost.specs.sbpl_map.CellMap.{CellMap}
use Rattle.sbpl_cost.specs.PrimitiveCost.{primitive_cost}
use Rattle.sbpl_heur.specs.declared.cap.TheConstants.{MOST}

-- the least cost of the primitives that move by this pair
pub record IsLeastCost (e : Environment) (prims : List Primitive) (dx dy : ℤ) (cost : ℕ) : Type 0 where
  pub place : ℕ
  pub owner : Primitive
  pub stands : slice_get prims place ≡ Some owner
  pub column : owner.dx ≡ dx
  pub row : owner.dy ≡ dy
  pub own : cost ≡ primitive_cost e owner
  pub least : (i : ℕ) (p : Primitive) → slice_get prims i ≡ Some p → p.dx ≡ dx → p.dy ≡ dy → cost ≤ primitive_cost e p

-- a pair moves to another cell
abbrev pub Moves : ℤ → ℤ → Type 0
Moves dx dy = (dx ≡ pos 0) × (dy ≡ pos 0) → ⊥

-- cells are numbered row by row; cell b lies this far from cell a
abbrev pub LiesFrom : CellMap → ℕ → ℕ → ℤ → ℤ → Type 0
LiesFrom m a b dx dy = (pos (b % m.width) ≡ pos (a % m.width) +ℤ dx) × (pos (b / m.width) ≡ pos (a / m.width) +ℤ dy)

-- a pair leads from cell a of the map to cell b of the map, both are below obsthresh, and b is below the inscribed threshold; the step weighs the pair's cost times one more than the greater of the two cells' costs
pub record IsCellStep (e : Environment) (m : CellMap) (dx dy : ℤ) (cost a b weight : ℕ) : Type 0 where
  pub leads : LiesFrom m a b dx dy
  pub start : ℕ
  pub end : ℕ
  pub start_is : slice_get m.costs a ≡ Some start
  pub end_is : slice_get m.costs b ≡ Some end
  pub start_below : start < e.obsthresh
  pub end_below : end < e.obsthresh
  pub end_inscribed : end < e.inscribed
  pub product : weight ≡ cost * (max start end + 1)

-- the cell graph has an arc from cell a to cell b of this weight
pub record IsCellArc (e : Environment) (prims : List Primitive) (m : CellMap) (a b weight : ℕ) : Type 0 where
  pub dx : ℤ
  pub dy : ℤ
  pub moves : Moves dx dy
  pub cost : ℕ
  pub least : IsLeastCost e prims dx dy cost
  pub step : IsCellStep e m dx dy cost a b weight

-- a walk from cell a over these cells ends at the goal, and weighs this
abbrev pub IsWalk : Environment → List Primitive → CellMap → ℕ → List ℕ → ℕ → ℕ → Type 0
IsWalk e prims m a [] goal weight = (a ≡ goal) × (weight ≡ 0)
IsWalk e prims m a (b ∷ cells) goal weight = (first : ℕ) × (rest : ℕ) × IsCellArc e prims m a b first × IsWalk e prims m b cells goal rest × (weight ≡ first + rest)

-- the least weight of a walk from cell a to the goal
pub record IsLeastWalk (e : Environment) (prims : List Primitive) (m : CellMap) (goal a weight : ℕ) : Type 0 where
  pub cells : List ℕ
  pub walk : IsWalk e prims m a cells goal weight
  pub least : (others : List ℕ) (other : ℕ) → IsWalk e prims m a others goal other → weight ≤ other

-- the greatest of the least weights, over all cells with a walk to the goal
pub record IsFarthest (e : Environment) (prims : List Primitive) (m : CellMap) (goal weight : ℕ) : Type 0 where
  pub cell : ℕ
  pub inside : cell < m.width * m.height
  pub attained : IsLeastWalk e prims m goal cell weight
  pub greatest : (a other : ℕ) → a < m.width * m.height → IsLeastWalk e prims m goal a other → other ≤ weight

-- no walk leads from cell a to the goal
abbrev pub HasNoWalk : Environment → List Primitive → CellMap → ℕ → ℕ → Type 0
HasNoWalk e prims m goal a = (cells : List ℕ) (weight : ℕ) → IsWalk e prims m a cells goal weight → ⊥

-- the weight of cell a: the least weight of a walk to the goal, or where there is none, the greatest that a cell with a walk has
abbrev pub IsCellWeight : Environment → List Primitive → CellMap → ℕ → ℕ → ℕ → Type 0
IsCellWeight e prims m goal a weight = IsLeastWalk e prims m goal a weight ⊎ (HasNoWalk e prims m goal a × IsFarthest e prims m goal weight)

-- the cell bound of cell a: the lesser of its weight and MOST
pub record IsCellBound (e : Environment) (prims : List Primitive) (m : CellMap) (goal a bound : ℕ) : Type 0 where
  pub weight : ℕ
  pub weighs : IsCellWeight e prims m goal a weight
  pub lesser : bound ≡ min weight MOST
