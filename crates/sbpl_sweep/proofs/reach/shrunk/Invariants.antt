use Rattle.std.proofs.Common.{ℕ, ◌≤◌}
use Rattle.sbpl_sweep.specs.Reach.{squared_step}
use Rattle.sbpl_sweep.proofs.reach.shrunk.Given as goal

abbrev pub invariant-loop-count : goal.invariant-loop-count
invariant-loop-count l = (l.count ≤ l.reach) × ((n : ℕ) → l.count ≤ n → l.most ≤ squared_step l.gap l.side n)

abbrev pub decreases-loop-count : goal.decreases-loop-count
decreases-loop-count l = l.count
