-- The cells that a grid reads.
use Rattle.sbpl_terrain.specs.Cells.{Cells}
use Rattle.sbpl_nav2d.specs.Reads.{ReadsCell}
use Rattle.sbpl_nav2d.specs.World.{GridWorld, IsGridWorld, over_map}

-- those of its map: the source, the end, and on a diagonal the two cells beside both
abbrev pub grid_cells : Cells GridWorld
grid_cells = record { map = λ w. w.map; over = over_map; reads = ReadsCell; is_made = IsGridWorld }
