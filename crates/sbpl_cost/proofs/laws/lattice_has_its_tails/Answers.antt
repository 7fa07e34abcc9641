use Rattle.sbpl_cost.proofs.LatticeLaws.{gaps}
use Rattle.sbpl_cost.proofs.Tails.{exact_tails}
use Rattle.sbpl_cost.proofs.laws.lattice_has_its_tails.Goals as goal

pub returns : goal.returns
returns c = record { tails = exact_tails; gaps = gaps }
