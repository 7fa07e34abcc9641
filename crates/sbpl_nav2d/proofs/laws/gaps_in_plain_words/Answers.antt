use Rattle.sbpl_nav2d.proofs.Plain.{gaps_are_plain}
use Rattle.sbpl_nav2d.proofs.laws.gaps_in_plain_words.Goals as goal

pub returns : goal.returns
returns c = record { law = gaps_are_plain }
