use Rattle.sbpl_cost.proofs.AlikeWorlds.{alike_worlds_are_one_graph}
use Rattle.sbpl_cost.proofs.laws.alike_worlds_are_one_graph.Goals as goal

pub returns : goal.returns
returns c = record { law = alike_worlds_are_one_graph }
