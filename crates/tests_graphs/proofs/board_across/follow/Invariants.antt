use Rattle.std.proofs.Common.{◌≡◌}
use Rattle.tests_graphs.proofs.board_across.follow.Given as goal

abbrev pub invariant-loop : goal.invariant-loop
invariant-loop g l = l.reader.board ≡ l.board
