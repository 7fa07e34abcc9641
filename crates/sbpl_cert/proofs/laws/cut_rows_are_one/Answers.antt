use Rattle.sbpl_cert.proofs.CutOne.{cut_rows_one}
use Rattle.sbpl_cert.proofs.laws.cut_rows_are_one.Goals as goal

pub returns : goal.returns
returns c = record { one = cut_rows_one }
