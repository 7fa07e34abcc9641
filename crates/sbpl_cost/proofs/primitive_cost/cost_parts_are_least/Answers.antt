use Rattle.sbpl_cost.specs.PrimitiveCost.{squared_distance}
use Rattle.sbpl_cost.proofs.RoundedUp.{root_above-least, ceiling-least}
use Rattle.sbpl_cost.proofs.HeadingGaps.{heading_gap-least}
use Rattle.sbpl_cost.proofs.primitive_cost.cost_parts_are_least.Goals as goal

pub returns-clause-distances : goal.returns-clause-distances
returns-clause-distances c = λ p q. root_above-least (squared_distance p q)

pub returns-clause-ceilings : goal.returns-clause-ceilings
returns-clause-ceilings c = ceiling-least

pub returns-clause-gaps : goal.returns-clause-gaps
returns-clause-gaps c = heading_gap-least
