-- A grid reads the cells of its map.
use Rattle.std.proofs.Common.{◌≡◌, ℕ, ℤ, ◌+ℤ◌, refl, sym, ap, ◌∙◌}
use Rattle.sbpl_terrain.specs.sbpl_map.CellMap.{CellMap}
use Rattle.sbpl_terrain.specs.Cells.{IsTerrain}
use Rattle.sbpl_nav2d.specs.declared.cell.Cell.{Cell}
use Rattle.sbpl_nav2d.specs.Arc.{cell_of}
use Rattle.sbpl_nav2d.specs.Cells.{grid_cells}
use Rattle.sbpl_nav2d.specs.Grids.{network_of}
use Rattle.sbpl_nav2d.specs.Reads.{ReadsCell}
use Rattle.sbpl_nav2d.specs.World.{GridWorld, IsGridWorld, over_map}
use Rattle.sbpl_nav2d.proofs.Unread.{HasSize, maps_change_costs_alone, same_cell_of, unread_arcs_cost_the_same}

-- both maps have the environment's size
same_size : (w : GridWorld) (m : CellMap) → IsGridWorld w → IsGridWorld (over_map w m) → HasSize w m
same_size w m here there = record { width = there.width ∙ sym here.width; height = there.height ∙ sym here.height }

-- a cell that is read on the one map is read on the other
read_by : (w v : GridWorld) (s k : ℕ) (x y : ℤ) → cell_of v s ≡ cell_of w s → ReadsCell w s k x y → ReadsCell v s k x y
read_by w v s k x y same r = record {
  dx = r.dx;
  dy = r.dy;
  read = r.read;
  column = ap (λ (c : Cell). c.x +ℤ r.dx) same ∙ r.column;
  row = ap (λ (c : Cell). c.y +ℤ r.dy) same ∙ r.row;
}

pub grid_is_terrain : IsTerrain network_of grid_cells
grid_is_terrain = record {
  map = λ w m. refl;
  present = λ w. refl;
  again = λ w l m. refl;
  rest = λ w m here there. maps_change_costs_alone w m (same_size w m here there);
  reads = λ w m s k x y here there.
      let same = same_cell_of w m s (same_size w m here there) in
      (read_by (over_map w m) w s k x y (sym same), read_by w (over_map w m) s k x y same);
  costs = λ w m s k here there same. unread_arcs_cost_the_same w m s k (same_size w m here there) same;
}
