-- The order in which a state's tails stand.
use Rattle.std.specs.Prelude.{◌≡◌, ℕ, ℤ, pos, ◌<◌, ◌-ℤ◌, ◌==◌, ◌↔◌, List, take, count_by, slice_get, Some, None}
use Rattle.sbpl_terrain.specs.sbpl_graph.Network.{Network}
use Rattle.sbpl_sweep.specs.sbpl_mprim.declared.prim.Primitive.{Primitive}
use Rattle.sbpl_terrain.specs.sbpl_map.CellMap.{IsOnMap}
use Rattle.sbpl_cost.specs.States.{place_of, state_count}
use Rattle.sbpl_cost.specs.World.{World, IsWorld}
use Rattle.sbpl_cost.specs.Arc.{IsArcBy, EndsIn}
use Rattle.sbpl_cost.specs.Lattices.{network_of}

-- the primitive at this index of the file is the j-th, from 0, that ends at heading t
pub record IsEntering (prims : List Primitive) (t j index : ℕ) (p : Primitive) : Type 0 where
  pub stands : slice_get prims index ≡ Some p
  pub heading : p.to ≡ t
  pub number : count_by (λ q. q.to == t) (take index prims) ≡ j

-- the column and the row from which a motion this far leads to the cell of state t
abbrev pub column_to : World → ℕ → ℤ → ℤ
column_to w t dx = pos (place_of w.env t).x -ℤ dx

abbrev pub row_to : World → ℕ → ℤ → ℤ
row_to w t dy = pos (place_of w.env t).y -ℤ dy

-- arc k of state s is the motion by p, which stands at this index of the file, and it ends in state t
pub record IsArcInto (w : World) (s k index : ℕ) (p : Primitive) (t : ℕ) : Type 0 where
  pub source : s < state_count w.env
  pub by : IsArcBy w s k index p
  pub ends : EndsIn w s p t

-- a graph's tail j of state t is the arc by p that ends there, and none exactly where it would come from off the map
pub record IsTailOf (n : Network) (w : World) (t j index : ℕ) (p : Primitive) : Type 0 where
  pub tail : (s k : ℕ) → (n.tail t j ≡ Some (s, k)) ↔ IsArcInto w s k index p t
  pub no_tail : (n.tail t j ≡ None) ↔ (IsOnMap w.map (column_to w t p.dx) (row_to w t p.dy) → ⊥)

-- a graph has the states of a lattice, and as the tails of each state the arcs by the primitives that end at its heading, in the order of the file
pub record HasLatticeTails (n : Network) (w : World) : Type 0 where
  pub states : n.states ≡ state_count w.env
  pub fan : (t : ℕ) → t < n.states → n.tail_fan t ≡ count_by (λ p. p.to == (place_of w.env t).t) w.prims.items
  pub tails : (t j : ℕ) → t < n.states → j < n.tail_fan t → (index : ℕ) × (p : Primitive) × IsEntering w.prims.items (place_of w.env t).t j index p × IsTailOf n w t j index p

-- the tails of the lattice stand in that order
abbrev pub LatticeTailsAreInOrder : Type 0
LatticeTailsAreInOrder = (w : World) → IsWorld w → HasLatticeTails (network_of w) w
