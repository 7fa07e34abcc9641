use Rattle.std.proofs.Common.{◌≡◌, ℕ, ◌<◌, slice_index}
use Rattle.sbpl_frontier_rules.specs.sbpl_open.OpenList as open_list
use Rattle.sbpl_frontier_rules.specs.sbpl_serial.Run.{IsOver}
use Rattle.sbpl_frontier_core.specs.Waiting.{Waits}
use Rattle.sbpl_frontier_core.proofs.space.Space.note_over.Given as goal

abbrev pub invariant-loop-s : goal.invariant-loop-s
invariant-loop-s l = record {
  states : open_list.states_of l.self.queue ≡ open_list.states_of l.fn.self.queue;
  kept : (u : ℕ) → Waits l.fn.self u → Waits l.self u;
  noted : (j : ℕ) → j < l.s-index → IsOver l.labels (slice_index l.states j) → Waits l.self (slice_index l.states j);
}
