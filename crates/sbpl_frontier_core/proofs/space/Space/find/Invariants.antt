use Rattle.std.proofs.Common.{◌≡◌, ℕ, ◌<◌}
use Rattle.sbpl_frontier_rules.specs.sbpl_labels.Marks.{states_of}
use Rattle.sbpl_frontier_rules.specs.sbpl_open.OpenList as open_list
use Rattle.sbpl_frontier_rules.specs.sbpl_serial.Run.{IsOver}
use Rattle.sbpl_frontier_core.specs.Waiting.{Waits}
use Rattle.sbpl_frontier_core.proofs.space.Space.find.Given as goal

abbrev pub invariant-loop-s : goal.invariant-loop-s
invariant-loop-s l =
    (open_list.states_of l.space.queue ≡ states_of l.labels) × ((u : ℕ) → u < l.s → IsOver l.labels u → Waits l.space u)
