use Rattle.sbpl_mprim.proofs.JudgingLaws.{cell_test, cost_test, id_test}
use Rattle.sbpl_mprim.proofs.judging.primitives_are_judged_in_plain_words.Goals as goal

pub returns : goal.returns
returns c = record { cell = cell_test; cost = cost_test; id = id_test }
