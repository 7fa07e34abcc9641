-- The cells of a map as a graph, for a search backwards.
use Rattle.std.specs.Prelude.{◌≡◌, ℕ, ℤ, pos, negsuc, ◌+◌, ◌*◌, ◌/◌, ◌%◌, ◌≤◌, ◌+ℤ◌, ◌-ℤ◌, ◌&&◌, max, List, length, slice_get, slice_index, Option, Some, None, option_and_then, nat_lt, if◌then◌else◌}
use Rattle.sbpl_cost.specs.sbpl_cfg.Environment.{Environment, IsEnvironment}
use Rattle.sbpl_cost.specs.sbpl_map.CellMap.{CellMap}
use Rattle.sbpl_cost.specs.PrimitiveCost.{most_cost}
use Rattle.sbpl_heur.specs.declared.hop.Hop.{Hop}

-- an environment, the costs of its cells, and hops, with how many there is room for
pub record Board : Type 0 where
  pub env : Environment
  pub costs : List ℕ
  pub hops : List Hop
  pub room : ℕ

-- the map of these costs
abbrev pub map_of : Board → CellMap
map_of b = record { width = b.env.width; height = b.env.height; costs = b.costs }

-- how many cells there are
abbrev pub cell_count : Board → ℕ
cell_count b = length b.costs

-- each hop costs at least 1 and no more than a primitive may
abbrev pub AreLight : List Hop → Type 0
AreLight hops = (j : ℕ) (h : Hop) → slice_get hops j ≡ Some h → (1 ≤ h.cost) × (h.cost ≤ most_cost)

-- there is a cost for each cell, and there are few hops, of which none is dear
pub record IsBoard (b : Board) : Type 0 where
  pub env : IsEnvironment b.env
  pub cells : length b.costs ≡ b.env.width * b.env.height
  pub bytes : (i : ℕ) → slice_index b.costs i ≤ 255
  pub few_hops : length b.hops ≤ 4096
  pub light : AreLight b.hops

-- the number of the cell in a column and a row of the plane, none off the map
abbrev pub cell_in : Environment → ℤ → ℤ → Option ℕ
cell_in e (pos x) (pos y) = if nat_lt x e.width && nat_lt y e.height then Some (y * e.width + x) else None
cell_in e (pos x) (negsuc y) = None
cell_in e (negsuc x) y = None

-- the cell from which a hop leads to cell q, and the cell to which it leads from cell p; none off the map
abbrev pub cell_before : Environment → ℕ → Hop → Option ℕ
cell_before e q h = cell_in e (pos (q % e.width) -ℤ h.dx) (pos (q / e.width) -ℤ h.dy)

abbrev pub cell_after : Environment → ℕ → Hop → Option ℕ
cell_after e p h = cell_in e (pos (p % e.width) +ℤ h.dx) (pos (p / e.width) +ℤ h.dy)

-- what a step by a hop costs between cells of these costs, none where it is not free
abbrev pub step_cost : Environment → Hop → ℕ → ℕ → Option ℕ
step_cost e h start end = if nat_lt start e.obsthresh && (nat_lt end e.obsthresh && nat_lt end e.inscribed) then Some (h.cost * (max start end + 1)) else None

-- the cell from which hop k leads to a cell, and the cell to which it leads from one; none off the map
abbrev pub start_of : Board → ℕ → ℕ → Option ℕ
start_of b cell k = option_and_then (cell_before b.env cell) (slice_get b.hops k)

abbrev pub end_of : Board → ℕ → ℕ → Option ℕ
end_of b cell k = option_and_then (cell_after b.env cell) (slice_get b.hops k)

-- what hop k costs between two cells, none where it is not free
abbrev pub cost_of : Board → ℕ → ℕ → ℕ → Option ℕ
cost_of b start end k = option_and_then (λ h. step_cost b.env h (slice_index b.costs start) (slice_index b.costs end)) (slice_get b.hops k)
