use Rattle.std.proofs.Common.{◌≡◌, length}
use Rattle.sbpl_epase.proofs.worker.take_turns.Given as goal

abbrev pub invariant-turns : goal.invariant-turns
invariant-turns g l = length l.seat.posts ≡ l.seat.takes
