-- The lattice of a world, as a graph.
use Rattle.std.specs.Prelude.{◌≡◌, refl, ℕ, pos, ◌+◌, ◌*◌, ◌<◌, ◌≤◌, ◌-ℤ◌, ◌&&◌, ◌==◌, Bool, false, List, [], ◌∷◌, length, take, map, count_by, slice_get, slice_index_or, Option, Some, None, option_and_then, option_map, unwrap_or, nat_lt, max, if◌then◌else◌}
use Rattle.std.specs.List.{list_all}
use Rattle.sbpl_terrain.specs.sbpl_graph.Network.{Network, IsFreeArc}
use Rattle.sbpl_terrain.specs.sbpl_graph.Laws.{HasExactTails, HasGaps}
use Rattle.sbpl_sweep.specs.sbpl_mprim.declared.prim.Primitive.{Primitive}
use Rattle.sbpl_sweep.specs.sbpl_mprim.Primitives.{offset_cell}
use Rattle.sbpl_sweep.specs.declared.cell.Cell.{Cell}
use Rattle.sbpl_cost.specs.PrimitiveCost.{primitive_cost}
use Rattle.sbpl_cost.specs.States.{place_of, state_in, state_count}
use Rattle.sbpl_cost.specs.Gaps.{gap_of}
use Rattle.sbpl_cost.specs.World.{World, IsWorld}
use Rattle.sbpl_cost.specs.Arc.{column_from, row_from, cost_from, HasLatticeArcs}

-- the numbers of the elements that pass a test, where the first element has number i
abbrev pub indices_from : {X : Type 0} → (X → Bool) → ℕ → List X → List ℕ
indices_from test i [] = []
indices_from test i (x ∷ xs) = if test x then i ∷ indices_from test (i + 1) xs else indices_from test (i + 1) xs

-- the indices in the file of the primitives that start at heading t
abbrev pub leaving : List Primitive → ℕ → List ℕ
leaving prims t = indices_from (λ p. p.from == t) 0 prims

-- the indices in the file of the primitives that end at heading t
abbrev pub entering : List Primitive → ℕ → List ℕ
entering prims t = indices_from (λ p. p.to == t) 0 prims

-- the index in the file of the primitive of arc k of state s
abbrev pub arc_index : World → ℕ → ℕ → Option ℕ
arc_index w s k = slice_get (leaving w.prims.items (place_of w.env s).t) k

-- the primitive of arc k of state s
abbrev pub arc_primitive : World → ℕ → ℕ → Option Primitive
arc_primitive w s k = option_and_then (slice_get w.prims.items) (arc_index w s k)

-- the state where the motion by p from state s ends
unfoldable pub head_by : World → ℕ → Primitive → Option ℕ
head_by w s p = state_in w.env (column_from w s p.dx) (row_from w s p.dy) p.to

-- a cell is on the map, and its cost is below a threshold
abbrev pub is_below : ℕ → Option ℕ → Bool
is_below threshold None = false
is_below threshold (Some c) = nat_lt c threshold

-- the greatest of some costs
abbrev pub greatest_of : List (Option ℕ) → ℕ
greatest_of [] = 0
greatest_of (o ∷ os) = max (unwrap_or o 0) (greatest_of os)

-- the costs of the cells in which the poses of a motion lie
abbrev pub centre_costs : World → ℕ → Primitive → List (Option ℕ)
centre_costs w s p = map (λ q. cost_from w s (offset_cell w.env.cell q.x) (offset_cell w.env.cell q.y)) p.poses

-- the costs of all cells that a motion pays for
abbrev pub paid_costs : World → ℕ → Primitive → List (Option ℕ)
paid_costs w s p = cost_from w s (pos 0) (pos 0) ∷ cost_from w s p.dx p.dy ∷ centre_costs w s p

-- the costs of the cells that lie as far from the source cell of s as these
abbrev pub swept_costs : World → ℕ → List Cell → List (Option ℕ)
swept_costs w s cells = map (λ c. cost_from w s c.x c.y) cells

-- the source cell and the end cell of the motion by p from state s are low enough
abbrev pub ends_are_free : World → ℕ → Primitive → Bool
ends_are_free w s p = is_below w.env.obsthresh (cost_from w s (pos 0) (pos 0)) && (is_below w.env.obsthresh (cost_from w s p.dx p.dy) && is_below w.env.inscribed (cost_from w s p.dx p.dy))

-- the motion by p from state s, which sweeps these cells, is free
abbrev pub is_free : World → ℕ → List Cell → Primitive → Bool
is_free w s cells p = ends_are_free w s p && (list_all (is_below w.env.inscribed) (centre_costs w s p) && list_all (is_below w.env.obsthresh) (swept_costs w s cells))

-- the cost of the motion by p from state s, which sweeps these cells, none where it is not free
unfoldable pub cost_by : World → ℕ → List Cell → Primitive → Option ℕ
cost_by w s cells p = if is_free w s cells p then Some (primitive_cost w.env p * (greatest_of (paid_costs w s p) + 1)) else None

-- the cells that the primitive at an index of the file sweeps
abbrev pub swept_at : World → ℕ → List Cell
swept_at w index = slice_index_or w.sweeps.swept index []

-- the state from which the primitive at an index of the file leads to state t, and the number of that arc
unfoldable pub tail_by : World → ℕ → ℕ → Primitive → Option (ℕ × ℕ)
tail_by w t index p =
    option_map (λ s. (s, count_by (λ q. q.from == p.from) (take index w.prims.items)))
    (state_in w.env (pos (place_of w.env t).x -ℤ p.dx) (pos (place_of w.env t).y -ℤ p.dy) p.from)

-- the lattice: arcs in the order of the file, tails too, and gaps by the primitives alone
unfoldable pub network_of : World → Network
network_of w = record {
  states = state_count w.env;
  fan = λ s. length (leaving w.prims.items (place_of w.env s).t);
  head = λ s k. option_and_then (head_by w s) (arc_primitive w s k);
  cost = λ s k. option_and_then (λ index. option_and_then (cost_by w s (swept_at w index)) (slice_get w.prims.items index)) (arc_index w s k);
  tail_fan = λ t. length (entering w.prims.items (place_of w.env t).t);
  tail = λ t j. option_and_then (λ i. option_and_then (tail_by w t i) (slice_get w.prims.items i)) (slice_get (entering w.prims.items (place_of w.env t).t) j);
  gap = λ a b. gap_of w.env w.prims.items (place_of w.env a) (place_of w.env b);
}

-- a state is a cell with a heading
pub states_are : (w : World) → (network_of w).states ≡ state_count w.env
unfolding network_of
states_are w = refl

-- the arcs of the lattice are those that it is to have
abbrev pub LatticeHasItsArcs : Type 0
LatticeHasItsArcs = (w : World) → IsWorld w → HasLatticeArcs (network_of w) w

-- the tails of each state are exactly its incoming arcs, each once
abbrev pub LatticeHasExactTails : Type 0
LatticeHasExactTails = (w : World) → IsWorld w → HasExactTails (network_of w)

-- the gaps are lower bounds
abbrev pub LatticeHasGaps : Type 0
LatticeHasGaps = (w : World) → IsWorld w → HasGaps (network_of w)

-- the gap from a state to the head of a free arc is at most that to its source and the arc's cost
abbrev pub LatticeGapsRise : Type 0
LatticeGapsRise = (w : World) → IsWorld w → (s k t c b : ℕ) → IsFreeArc (network_of w) s k t c → b < (network_of w).states
    → (network_of w).gap b t ≤ (network_of w).gap b s + c
