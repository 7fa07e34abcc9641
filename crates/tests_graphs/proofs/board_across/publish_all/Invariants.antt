use Rattle.std.proofs.Common.{◌≡◌, ◌+◌, length}
use Rattle.tests_graphs.proofs.board_across.publish_all.Given as goal

abbrev pub invariant-loop-pass : goal.invariant-loop-pass
invariant-loop-pass g l = record {
  board : l.publisher.board ≡ l.board;
  published : length l.publisher.published ≡ length l.initial.publisher.published + l.pass;
}
