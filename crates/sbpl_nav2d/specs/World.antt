-- What a grid is made of.
use Rattle.std.specs.Prelude.{◌≡◌}
use Rattle.sbpl_terrain.specs.sbpl_map.CellMap.{CellMap, IsCellMap}
use Rattle.sbpl_nav2d.specs.Environment.{NavEnvironment, IsNavEnvironment}

-- the numbers of an environment, and the present costs of the cells
pub record GridWorld : Type 0 where
  pub env : NavEnvironment
  pub map : CellMap

-- the same grid over another map
abbrev pub over_map : GridWorld → CellMap → GridWorld
over_map w m = record w { map = m }

-- the map has the environment's size
pub record IsGridWorld (w : GridWorld) : Type 0 where
  pub env : IsNavEnvironment w.env
  pub map : IsCellMap w.map
  pub width : w.map.width ≡ w.env.width
  pub height : w.map.height ≡ w.env.height
