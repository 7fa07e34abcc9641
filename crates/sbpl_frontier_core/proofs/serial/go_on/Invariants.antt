use Rattle.std.proofs.Common.{◌≡◌, ℕ, ◌^◌, ◌-◌, ◌<◌, []}
use Rattle.sbpl_frontier_core.specs.Longer.{IsLonger}
use Rattle.sbpl_frontier_core.specs.Seats.{AreTakenBelow}
use Rattle.sbpl_frontier_core.proofs.serial.go_on.Given as goal

abbrev pub invariant-arcs : goal.invariant-arcs
invariant-arcs g l =
    (l.core.frontier.out ≡ [])
    × ((seats : ℕ) → 0 < seats → AreTakenBelow seats l.fn.core.journal → AreTakenBelow seats l.core.journal)
    × IsLonger l.fn.core.journal l.core.journal

abbrev pub decreases-arcs : goal.decreases-arcs
decreases-arcs g l = 2 ^ 42 - l.core.frontier.next
