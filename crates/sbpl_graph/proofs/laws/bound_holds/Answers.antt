use Rattle.sbpl_graph.proofs.Paths.{bound_holds_lem}
use Rattle.sbpl_graph.proofs.laws.bound_holds.Goals as goal

pub returns : goal.returns
returns c = record { every_path = bound_holds_lem }
