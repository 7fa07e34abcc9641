use Rattle.std.proofs.Common.{◌≡◌, length}
use Rattle.sbpl_frontier.proofs.locked.Locked.receive_all.Given as goal

abbrev pub invariant-postings : goal.invariant-postings
invariant-postings g l = (l.self.line.ended ≡ l.fn.self.line.ended) × (l.sender ≡ l.fn.sender)

-- how many arcs are out
abbrev pub decreases-postings : goal.decreases-postings
decreases-postings g l = length l.self.book.frontier.out
