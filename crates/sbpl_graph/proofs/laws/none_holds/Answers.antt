use Rattle.sbpl_graph.proofs.Paths.{none_holds_lem}
use Rattle.sbpl_graph.proofs.laws.none_holds.Goals as goal

pub returns : goal.returns
returns c = record { no_path = none_holds_lem }
