use Rattle.std.proofs.Common.{◌≡◌, ℕ, ◌<◌, ◌≤◌, false, nat_le, length, slice_index_or}
use Rattle.sbpl_sweep.specs.sbpl_lists.Flags.{is_set}
use Rattle.sbpl_cost.proofs.walls.walls_of.Given as goal

abbrev pub invariant-loop-i : goal.invariant-loop-i
invariant-loop-i l =
    (l.walls.len ≡ length l.costs)
    × ((j : ℕ) → j < l.i → is_set l.walls j ≡ nat_le l.limit (slice_index_or l.costs j 0))
    × ((j : ℕ) → l.i ≤ j → j < length l.costs → is_set l.walls j ≡ false)
