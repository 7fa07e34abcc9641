use Rattle.std.proofs.Common.{ℕ, ◌+◌, ◌<◌, ◌≤◌, length, vec_capacity}
use Rattle.std.specs.List.{All, Contains}
use Rattle.sbpl_frontier_rules.specs.sbpl_open.Entries.{state_at}
use Rattle.sbpl_frontier_rules.specs.sbpl_open.OpenList as open_list
use Rattle.sbpl_frontier_core.proofs.space.gather.Given as goal

abbrev pub invariant-loop-entry : goal.invariant-loop-entry
invariant-loop-entry l =
    All (λ s. s < open_list.states_of l.queue) l.states.items
    × ((j : ℕ) → j < l.entry-index → Contains l.states.items (state_at l.entries j))
    × ((s : ℕ) → Contains l.fn.states.items s → Contains l.states.items s)
    × (length l.states.items + length l.entries ≤ vec_capacity l.states + l.entry-index)
