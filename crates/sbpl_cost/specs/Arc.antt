-- The arcs of a lattice.
use Rattle.std.specs.Prelude.{◌≡◌, ℕ, ℤ, pos, ◌+◌, ◌*◌, ◌<◌, ◌≤◌, ◌+ℤ◌, ◌⊎◌, ◌==◌, ◌↔◌, List, take, count_by, slice_get, Option, Some, None, IsSomeAnd}
use Rattle.sbpl_terrain.specs.sbpl_graph.Network.{Network}
use Rattle.sbpl_sweep.specs.sbpl_cfg.declared.pose.Place.{Place}
use Rattle.sbpl_sweep.specs.sbpl_mprim.declared.prim.Primitive.{Primitive}
use Rattle.sbpl_sweep.specs.Sweep.{IsCentre, IsSwept}
use Rattle.sbpl_terrain.specs.sbpl_map.CellMap.{IsOnMap, cost_at}
use Rattle.sbpl_cost.specs.PrimitiveCost.{primitive_cost}
use Rattle.sbpl_cost.specs.States.{IsPlace, place_of, state_number, state_count}
use Rattle.sbpl_cost.specs.World.{World}

-- the primitive at this index of the file is the k-th, from 0, that starts at heading t
pub record IsLeaving (prims : List Primitive) (t k index : ℕ) (p : Primitive) : Type 0 where
  pub stands : slice_get prims index ≡ Some p
  pub heading : p.from ≡ t
  pub number : count_by (λ q. q.from == t) (take index prims) ≡ k

-- arc k of state s is the motion by p, which stands at this index of the file
abbrev pub IsArcBy : World → ℕ → ℕ → ℕ → Primitive → Type 0
IsArcBy w s k index p = IsLeaving w.prims.items (place_of w.env s).t k index p

-- the column that lies this far from the source cell of s
abbrev pub column_from : World → ℕ → ℤ → ℤ
column_from w s dx = pos (place_of w.env s).x +ℤ dx

-- the row that lies this far from the source cell of s
abbrev pub row_from : World → ℕ → ℤ → ℤ
row_from w s dy = pos (place_of w.env s).y +ℤ dy

-- the cost of the cell that lies this far from the source cell of s, none off the map
abbrev pub cost_from : World → ℕ → ℤ → ℤ → Option ℕ
cost_from w s dx dy = cost_at w.map (column_from w s dx) (row_from w s dy)

-- the motion by p from state s ends at this state
pub record EndsIn (w : World) (s : ℕ) (p : Primitive) (head : ℕ) : Type 0 where
  pub place : Place
  pub on_map : IsPlace w.env place
  pub column : pos place.x ≡ column_from w s p.dx
  pub row : pos place.y ≡ row_from w s p.dy
  pub heading : place.t ≡ p.to
  pub number : head ≡ state_number w.env place

-- the cell that lies this far from the source cell of s is on the map and costs less than a threshold
abbrev pub IsBelow : World → ℕ → ℤ → ℤ → ℕ → Type 0
IsBelow w s dx dy threshold = IsSomeAnd (cost_from w s dx dy) (λ c. c < threshold)

-- the motion by p from state s is free
pub record IsFree (w : World) (s : ℕ) (p : Primitive) : Type 0 where
  pub source : IsBelow w s (pos 0) (pos 0) w.env.obsthresh
  pub target : IsBelow w s p.dx p.dy w.env.obsthresh
  pub target_inscribed : IsBelow w s p.dx p.dy w.env.inscribed
  pub centres : (x y : ℤ) → IsCentre w.env.cell p.poses x y → IsBelow w s x y w.env.inscribed
  pub swept : (x y : ℤ) → IsSwept w.env.cell w.sweeps.radius p.poses x y → IsBelow w s x y w.env.obsthresh

-- a motion pays for its source cell, its end cell and its centre cells
abbrev pub IsPaid : World → Primitive → ℤ → ℤ → Type 0
IsPaid w p x y = ((x ≡ pos 0) × (y ≡ pos 0)) ⊎ (((x ≡ p.dx) × (y ≡ p.dy)) ⊎ IsCentre w.env.cell p.poses x y)

-- the greatest cost of a cell that the motion by p from state s pays for
pub record IsGreatestPaid (w : World) (s : ℕ) (p : Primitive) (greatest : ℕ) : Type 0 where
  pub dx : ℤ
  pub dy : ℤ
  pub paid : IsPaid w p dx dy
  pub cost : cost_from w s dx dy ≡ Some greatest
  pub none_above : (x y : ℤ) (c : ℕ) → IsPaid w p x y → cost_from w s x y ≡ Some c → c ≤ greatest

-- the motion by p from state s is free and has this cost
pub record IsFreeAt (w : World) (s : ℕ) (p : Primitive) (cost : ℕ) : Type 0 where
  pub free : IsFree w s p
  pub greatest : ℕ
  pub paid : IsGreatestPaid w s p greatest
  pub product : cost ≡ primitive_cost w.env p * (greatest + 1)

-- a graph's arc k of state s leads to the state where the motion by p ends, or nowhere exactly where that is off the map, and it has the motion's cost, or none exactly where the motion is not free
pub record IsArcOf (n : Network) (w : World) (s k : ℕ) (p : Primitive) : Type 0 where
  pub head : (t : ℕ) → (n.head s k ≡ Some t) ↔ EndsIn w s p t
  pub no_head : (n.head s k ≡ None) ↔ (IsOnMap w.map (column_from w s p.dx) (row_from w s p.dy) → ⊥)
  pub cost : (c : ℕ) → (n.cost s k ≡ Some c) ↔ IsFreeAt w s p c
  pub no_cost : (n.cost s k ≡ None) ↔ (IsFree w s p → ⊥)

-- a graph has the states of a lattice, and as the arcs of each state the motions that start at its heading, in the order of the file
pub record HasLatticeArcs (n : Network) (w : World) : Type 0 where
  pub states : n.states ≡ state_count w.env
  pub fan : (s : ℕ) → s < n.states → n.fan s ≡ count_by (λ p. p.from == (place_of w.env s).t) w.prims.items
  pub arcs : (s k : ℕ) → s < n.states → k < n.fan s → (index : ℕ) × (p : Primitive) × IsArcBy w s k index p × IsArcOf n w s k p
