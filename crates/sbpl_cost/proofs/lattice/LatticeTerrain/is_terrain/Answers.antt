use Rattle.sbpl_cost.proofs.TerrainLaws.{lattice_is_terrain}
use Rattle.sbpl_cost.proofs.lattice.LatticeTerrain.is_terrain.Goals as goal

pub returns : goal.returns
returns c = record { law = lattice_is_terrain }
