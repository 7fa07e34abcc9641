use Rattle.sbpl_serial.proofs.Exactness.{exact_where_same_lem}
use Rattle.sbpl_serial.proofs.laws.exact_where_same.Goals as goal

pub returns : goal.returns
returns c = record { every_state = exact_where_same_lem }
