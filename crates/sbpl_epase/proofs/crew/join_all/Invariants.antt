use Rattle.std.proofs.Common.{◌≡◌, ◌+◌, ◌≤◌, false, All, length, vec_capacity, vec_len}
use Rattle.sbpl_epase.specs.Workers.{HasEnded}
use Rattle.sbpl_epase.proofs.crew.join_all.Given as goal

abbrev pub invariant-joins : goal.invariant-joins
invariant-joins g l =
    (vec_len l.seats + vec_len l.rest ≡ vec_len l.fn.started) × (vec_len l.fn.started ≤ vec_capacity l.seats)
    × All (λ s. length s.posts ≡ s.takes) l.seats.items
    × (l.refused ≡ false → All (HasEnded g.N.Pass.query g.N.Pass.opening g.N.Pass.counts) l.seats.items)

abbrev pub decreases-joins : goal.decreases-joins
decreases-joins g l = goal.left-joins g l
