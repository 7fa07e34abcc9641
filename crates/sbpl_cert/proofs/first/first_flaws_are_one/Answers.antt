use Rattle.sbpl_cert.proofs.Guided.{none_by, one_first_by}
use Rattle.sbpl_cert.proofs.first.first_flaws_are_one.Goals as goal

pub returns : goal.returns
returns c = record { one = one_first_by; none = none_by }
