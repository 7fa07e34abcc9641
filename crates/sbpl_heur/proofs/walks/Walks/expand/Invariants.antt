use Rattle.std.proofs.Common.{◌≡◌, ◌≤◌, ◌-◌}
use Rattle.sbpl_heur.specs.Followed.{IsExpanded, left}
use Rattle.sbpl_heur.proofs.walks.Walks.expand.Given as goal

abbrev pub invariant-loop-k : goal.invariant-loop-k
invariant-loop-k l = record {
  expanded : IsExpanded l.self l.cell l.k;
  board : l.self.board ≡ l.fn.self.board;
  goal : l.self.goal ≡ l.fn.self.goal;
  left : left l.self ≤ left l.fn.self;
}

abbrev pub decreases-loop-k : goal.decreases-loop-k
decreases-loop-k l = l.fan - l.k
