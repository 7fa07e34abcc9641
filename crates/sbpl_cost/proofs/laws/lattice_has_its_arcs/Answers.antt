use Rattle.sbpl_cost.proofs.Arcs.{has_lattice_arcs}
use Rattle.sbpl_cost.proofs.laws.lattice_has_its_arcs.Goals as goal

pub returns : goal.returns
returns c = record { law = has_lattice_arcs }
