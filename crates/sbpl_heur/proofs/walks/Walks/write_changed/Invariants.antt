use Rattle.std.proofs.Common.{◌≡◌}
use Rattle.sbpl_heur.specs.Followed.{IsDoubtful}
use Rattle.sbpl_heur.proofs.Following.{AreWrittenBelow}
use Rattle.sbpl_heur.proofs.walks.Walks.write_changed.Given as goal

abbrev pub invariant-loop-i : goal.invariant-loop-i
invariant-loop-i l = record {
  written : AreWrittenBelow l.fn.self.board l.self.board l.costs l.i;
  goal : l.self.goal ≡ l.fn.self.goal;
  doubtful : IsDoubtful l.self;
}
