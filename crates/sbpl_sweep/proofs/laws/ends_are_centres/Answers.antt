use Rattle.sbpl_sweep.proofs.ReadsListed.{end_is_centre}
use Rattle.sbpl_sweep.proofs.laws.ends_are_centres.Goals as goal

pub returns : goal.returns
returns c = record { law = end_is_centre }
