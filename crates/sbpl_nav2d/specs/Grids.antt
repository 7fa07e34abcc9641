-- The grid of a world, as a graph.
use Rattle.std.specs.Prelude.{ℕ, ◌+◌, ◌*◌, ◌+ℤ◌, Option, Some, None, option_map, nat_lt, max, if◌then◌else◌}
use Rattle.sbpl_terrain.specs.sbpl_graph.Network.{Network}
use Rattle.sbpl_terrain.specs.sbpl_graph.Laws.{HasExactTails, HasGaps}
use Rattle.sbpl_terrain.specs.sbpl_map.CellMap.{CellMap, cost_at, index_in}
use Rattle.sbpl_nav2d.specs.declared.cell.Cell.{Cell}
use Rattle.sbpl_nav2d.specs.Directions.{direction, is_diagonal, step_cost, by, moved, moved_back}
use Rattle.sbpl_nav2d.specs.Gap.{gap_of}
use Rattle.sbpl_nav2d.specs.World.{GridWorld, IsGridWorld}
use Rattle.sbpl_nav2d.specs.Arc.{cell_of, IsGridNetwork}

-- the state of a cell of the plane, none off the map
abbrev pub state_at : CellMap → Cell → Option ℕ
state_at m c = index_in m c.x c.y

-- a cost below a limit, and none otherwise
abbrev pub below : ℕ → Option ℕ → Option ℕ
below limit None = None
below limit (Some c) = if nat_lt c limit then Some c else None

-- the cost of a cell that is on the map and below a limit
abbrev pub low_cost : ℕ → CellMap → Cell → Option ℕ
low_cost limit m c = below limit (cost_at m c.x c.y)

-- the greater of two costs, where there are both
abbrev pub greater : Option ℕ → Option ℕ → Option ℕ
greater None o = None
greater (Some a) None = None
greater (Some a) (Some b) = Some (max a b)

-- the greater cost of the two ends of a step, and of the two cells beside a diagonal one
abbrev pub of_ends : ℕ → CellMap → Cell → Cell → Option ℕ
of_ends limit m from step = greater (low_cost limit m from) (low_cost limit m (moved from step))

abbrev pub of_sides : ℕ → CellMap → Cell → Cell → Option ℕ
of_sides limit m from step =
    greater (low_cost limit m (by (from.x +ℤ step.x) from.y)) (low_cost limit m (by from.x (from.y +ℤ step.y)))

-- the greatest cost of the cells that a step in direction k reads, where they are all on the map and below a limit
unfoldable pub greatest_read : ℕ → CellMap → Cell → ℕ → Option ℕ
greatest_read limit m from k =
    if is_diagonal k then greater (of_ends limit m from (direction k)) (of_sides limit m from (direction k))
    else of_ends limit m from (direction k)

-- the grid: eight arcs of each state and eight tails, one for each direction, and octile distances as gaps
unfoldable pub network_of : GridWorld → Network
network_of w = record {
  states = w.map.width * w.map.height;
  fan = λ s. 8;
  head = λ s k. state_at w.map (moved (cell_of w s) (direction k));
  cost = λ s k.
      option_map (λ greatest. step_cost k * (greatest + 1)) (greatest_read w.env.obsthresh w.map (cell_of w s) k);
  tail_fan = λ t. 8;
  tail = λ t j. option_map (λ s. (s, j)) (state_at w.map (moved_back (cell_of w t) (direction j)));
  gap = λ a b. gap_of w.map.width a b;
}

-- the graph is the grid with eight neighbours
abbrev pub WorldsAreGrids : Type 0
WorldsAreGrids = (w : GridWorld) → IsGridWorld w → IsGridNetwork (network_of w) w

-- the tails of each state are exactly its incoming arcs, each once
abbrev pub GridsHaveExactTails : Type 0
GridsHaveExactTails = (w : GridWorld) → IsGridWorld w → HasExactTails (network_of w)

-- the gaps are lower bounds
abbrev pub GridsHaveGaps : Type 0
GridsHaveGaps = (w : GridWorld) → IsGridWorld w → HasGaps (network_of w)
