use Rattle.std.proofs.Common.{◌≡◌, ◌<◌}
use Rattle.sbpl_frontier.proofs.shared.Shared.post_again.Given as goal

abbrev pub invariant-fulls : goal.invariant-fulls
invariant-fulls g l =
    (l.posting ≡ l.fn.posting) × (l.seat-inside.number ≡ l.fn.seat.number)
    × (l.seat-inside.takes.amount ≡ l.fn.seat.takes)
    × (l.seat-inside.sender.posts ≡ l.fn.seat.posts) × (l.seat-inside.takes.parts ≡ 1)
    × (l.seat-inside.sender.seat ≡ l.seat-inside.number) × (l.seat-inside.number < g.M.Second.parts)
