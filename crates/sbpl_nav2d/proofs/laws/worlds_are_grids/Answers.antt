use Rattle.sbpl_nav2d.proofs.Plain.{worlds_are_grids}
use Rattle.sbpl_nav2d.proofs.laws.worlds_are_grids.Goals as goal

pub returns : goal.returns
returns c = record { law = worlds_are_grids }
