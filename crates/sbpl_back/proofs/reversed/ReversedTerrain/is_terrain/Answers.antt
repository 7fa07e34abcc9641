use Rattle.sbpl_back.proofs.TurnedTerrain.{reversed_is_terrain}
use Rattle.sbpl_back.proofs.reversed.ReversedTerrain.is_terrain.Goals as goal

pub returns : goal.returns
returns c = record { law = reversed_is_terrain _ _ c.is_terrain.ensures.law }
