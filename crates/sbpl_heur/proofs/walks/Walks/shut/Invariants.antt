use Rattle.std.proofs.Common.{◌≡◌}
use Rattle.sbpl_heur.specs.Followed.{DiffersInWalls}
use Rattle.sbpl_heur.proofs.walks.Walks.shut.Given as goal

abbrev pub invariant-loop-cell : goal.invariant-loop-cell
invariant-loop-cell l = record {
  rest : l.self ≡ record l.fn.self { distances = l.self.distances };
  differs : DiffersInWalls l.fn.self l.self.distances;
}
