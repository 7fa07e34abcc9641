use Rattle.tests_maps.proofs.PairTails.{pair_tails}
use Rattle.tests_maps.proofs.held.HeldGraph.states.Goals as goal

pub returns-clause-tails : goal.returns-clause-tails
returns-clause-tails c = pair_tails
