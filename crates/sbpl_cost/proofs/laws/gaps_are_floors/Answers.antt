use Rattle.sbpl_cost.proofs.GapLaws.{bounds_are_floors, bounds_may_be_zero}
use Rattle.sbpl_cost.proofs.laws.gaps_are_floors.Goals as goal

pub returns : goal.returns
returns c = record { floors = bounds_are_floors; zero = bounds_may_be_zero }
