use Rattle.sbpl_incumbent.proofs.Histories.{answer_newest, newest_last}
use Rattle.sbpl_incumbent.proofs.laws.told_readers_get_the_newest.Goals as goal

pub returns : goal.returns
returns c = record { newest = answer_newest; last = newest_last }
