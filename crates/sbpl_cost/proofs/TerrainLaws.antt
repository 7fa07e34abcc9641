-- A lattice reads the cells of its map.
use Rattle.std.proofs.Common.{refl}
use Rattle.sbpl_terrain.specs.Cells.{IsTerrain}
use Rattle.sbpl_cost.specs.Cells.{lattice_cells}
use Rattle.sbpl_cost.specs.Lattices.{network_of}
use Rattle.sbpl_cost.proofs.UnreadCosts.{maps_change_costs_alone, maps_change_no_reads, unread_arcs_cost_the_same}

pub lattice_is_terrain : IsTerrain network_of lattice_cells
lattice_is_terrain = record {
  map = λ w m. refl;
  present = λ w. refl;
  again = λ w l m. refl;
  rest = λ w m is_made is_other. maps_change_costs_alone w m;
  reads = λ w m s k x y is_made is_other. maps_change_no_reads w m s k x y;
  costs = unread_arcs_cost_the_same;
}
