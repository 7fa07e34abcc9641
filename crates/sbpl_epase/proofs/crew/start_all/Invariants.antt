use Rattle.std.proofs.Common.{◌≡◌, ◌+◌, ◌≤◌, All, length, vec_capacity, vec_len}
use Rattle.sbpl_epase.proofs.crew.start_all.Given as goal

abbrev pub invariant-starts : goal.invariant-starts
invariant-starts g l =
    All (λ s. length s.posts ≡ s.takes) l.seats.items × (vec_len l.started + vec_len l.seats ≡ vec_len l.fn.seats)
    × (vec_len l.fn.seats ≤ vec_capacity l.started) × (vec_len l.fn.seats ≤ vec_capacity l.seats)

abbrev pub decreases-starts : goal.decreases-starts
decreases-starts g l = goal.left-starts g l
