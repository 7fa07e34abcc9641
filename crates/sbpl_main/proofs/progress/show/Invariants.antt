use Rattle.std.proofs.Common.{◌≡◌}
use Rattle.sbpl_main.proofs.progress.show.Given as goal

-- the reader stays the board's
abbrev pub invariant-loop : goal.invariant-loop
invariant-loop g l = l.reader.board ≡ l.fn.progress.board.now
