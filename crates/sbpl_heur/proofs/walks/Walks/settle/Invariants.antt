use Rattle.std.proofs.Common.{◌≡◌}
use Rattle.sbpl_heur.specs.Followed.{IsShut, left}
use Rattle.sbpl_heur.proofs.walks.Walks.settle.Given as goal

abbrev pub invariant-loop-cell : goal.invariant-loop-cell
invariant-loop-cell l = record {
  shut : IsShut l.self;
  board : l.self.board ≡ l.fn.self.board;
  goal : l.self.goal ≡ l.fn.self.goal;
}

abbrev pub decreases-loop-cell : goal.decreases-loop-cell
decreases-loop-cell l = left l.self
