use Rattle.std.proofs.Common.{arith}
use Rattle.std.proofs.lemmas.List.Elements.{All-nil}
use Rattle.sbpl_frontier.specs.sbpl_frontier_core.Seats.{IsTakenBelow}
use Rattle.sbpl_epase.proofs.parallel.pass_of.Goals as goal

pub returns-then-workers-eq1-clause-seats : goal.returns-then-workers-eq1-clause-seats
returns-then-workers-eq1-clause-seats g c =
    c.go_on.ensures.seats c.args.workers (omega (arith, c.requires.some))
    (rw c.requires.empty (All-nil (IsTakenBelow c.args.workers)))

pub returns-clause-seats : goal.returns-clause-seats
returns-clause-seats g c =
    c.go_on-2.ensures.seats c.args.workers (omega (arith, c.requires.some)) c.in_ok-core.ensures.seats
