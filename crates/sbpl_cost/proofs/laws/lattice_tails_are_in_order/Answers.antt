use Rattle.sbpl_cost.proofs.OrderedTails.{lattice_tails}
use Rattle.sbpl_cost.proofs.laws.lattice_tails_are_in_order.Goals as goal

pub returns : goal.returns
returns c = record { law = lattice_tails }
