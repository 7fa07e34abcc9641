use Rattle.std.proofs.Common.{◌≡◌, ◌+◌, []}
use Rattle.sbpl_frontier.specs.Tally.{fresh_seats}
use Rattle.sbpl_frontier.proofs.seat.deal.Given as goal

abbrev pub invariant-loop-number : goal.invariant-loop-number
invariant-loop-number g l = (l.places.items ≡ fresh_seats l.number)
    × (l.takes.parts + l.number ≡ l.fn.seats) × (l.takes.amount ≡ 0)
    × (l.drain.made ≡ l.number) × (l.drain.came ≡ [])
