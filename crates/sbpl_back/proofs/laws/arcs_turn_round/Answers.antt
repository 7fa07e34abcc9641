use Rattle.sbpl_back.proofs.Turning.{free_of_reversed, reversed_of_free}
use Rattle.sbpl_back.proofs.laws.arcs_turn_round.Goals as goal

pub returns : goal.returns
returns c = record {
  forwards = λ n t j s cost tails. free_of_reversed n tails t j s cost;
  backwards = λ n t j s k cost tails. reversed_of_free n tails t j s k cost;
}
