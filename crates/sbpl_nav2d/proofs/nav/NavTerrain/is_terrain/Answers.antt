use Rattle.sbpl_nav2d.proofs.Terrain.{grid_is_terrain}
use Rattle.sbpl_nav2d.proofs.nav.NavTerrain.is_terrain.Goals as goal

pub returns : goal.returns
returns c = record { law = grid_is_terrain }
