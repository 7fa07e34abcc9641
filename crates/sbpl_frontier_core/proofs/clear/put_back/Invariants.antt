use Rattle.std.proofs.Common.{◌≡◌, ◌<◌, length, vec_capacity}
use Rattle.std.specs.List.{All}
use Rattle.sbpl_frontier_rules.specs.sbpl_open.OpenList.{OpenList, states_of}
use Rattle.sbpl_frontier_core.specs.Clear.{AreAside}
use Rattle.sbpl_frontier_core.proofs.clear.put_back.Given as goal

abbrev pub invariant-loop-entry : goal.invariant-loop-entry
invariant-loop-entry l =
    ((f : OpenList) → AreAside f l.fn.aside.items l.fn.queue → AreAside f l.aside.items l.queue)
    × All (λ entry. entry.state < states_of l.queue) l.aside.items
    × (vec_capacity l.aside ≡ vec_capacity l.fn.aside)

abbrev pub decreases-loop-entry : goal.decreases-loop-entry
decreases-loop-entry l = length l.aside.items
