use Rattle.std.proofs.Common.{◌≡◌}
use Rattle.sbpl_heur.specs.Followed.{IsDoubtful}
use Rattle.sbpl_heur.proofs.walks.Walks.check_all.Given as goal

abbrev pub invariant-loop-look : goal.invariant-loop-look
invariant-loop-look l = record {
  board : l.self.board ≡ l.fn.self.board;
  goal : l.self.goal ≡ l.fn.self.goal;
  doubtful : IsDoubtful l.self;
}
