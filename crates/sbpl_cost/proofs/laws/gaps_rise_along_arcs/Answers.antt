use Rattle.sbpl_cost.proofs.LatticeLaws.{gaps_rise}
use Rattle.sbpl_cost.proofs.laws.gaps_rise_along_arcs.Goals as goal

pub returns : goal.returns
returns c = record { law = λ w is_world. gaps_rise w is_world }
