use Rattle.sbpl_back.proofs.Turning.{paths_turn_back, paths_turn_round, reversed_keeps_laws}
use Rattle.sbpl_back.proofs.Walking.{one_turned}
use Rattle.sbpl_back.proofs.laws.paths_turn_round.Goals as goal

pub returns : goal.returns
returns c =
    record { forwards = paths_turn_round; backwards = paths_turn_back; once = one_turned; laws = reversed_keeps_laws }
