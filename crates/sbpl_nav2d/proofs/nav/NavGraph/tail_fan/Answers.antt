use Rattle.std.proofs.Common.{refl}
use Rattle.sbpl_nav2d.specs.Grids.{network_of}
use Rattle.sbpl_nav2d.proofs.nav.NavGraph.tail_fan.Goals as goal

pub returns-clause-value : goal.returns-clause-value
unfolding network_of
returns-clause-value c = refl
