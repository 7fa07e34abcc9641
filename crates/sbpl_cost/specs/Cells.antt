-- The cells that a lattice reads.
use Rattle.sbpl_terrain.specs.Cells.{Cells}
use Rattle.sbpl_cost.specs.World.{IsWorld, World, over_map}
use Rattle.sbpl_cost.specs.Reads.{ReadsCell}

-- those of its map: the source cell, the end cell, the centre cells and the swept cells of each arc
abbrev pub lattice_cells : Cells World
lattice_cells = record { map = λ w. w.map; over = over_map; reads = ReadsCell; is_made = IsWorld }
