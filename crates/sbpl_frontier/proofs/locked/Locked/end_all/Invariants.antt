use Rattle.std.proofs.Common.{◌≡◌, ◌+◌, ◌<◌, ◌++◌, map, sum_by, vec_len}
use Rattle.sbpl_frontier.specs.Tally.{sent_in}
use Rattle.sbpl_frontier.specs.Tied.{AreTied}
use Rattle.sbpl_frontier.proofs.locked.Locked.end_all.Given as goal

abbrev pub invariant-seats : goal.invariant-seats
invariant-seats g l = (l.takes.parts + vec_len l.rest ≡ vec_len l.fn.seats)
    × (l.takes.amount + sum_by (λ s. s.takes) l.rest.items ≡ sum_by (λ s. s.takes) l.fn.seats.items)
    × (map sent_in l.rest.items ++ l.self-inside.drain.ended ≡ map sent_in l.fn.seats.items ++ l.fn.self.line.ended)
    × (0 < g.M.Second.parts)
    × AreTied l.self-inside.core l.self-inside.keeper l.self-inside.takes.total l.self-inside.drain
    g.M.Second.parts

abbrev pub decreases-seats : goal.decreases-seats
decreases-seats g l = goal.left-seats g l
