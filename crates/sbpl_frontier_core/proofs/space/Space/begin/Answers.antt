use Rattle.std.proofs.Common.{IsSome, ⊎_elim}
use Rattle.std.specs.List.{Contains}
use Rattle.sbpl_frontier_rules.specs.sbpl_open.OpenList as open_list
use Rattle.sbpl_frontier_core.proofs.Filling.{filled_all}
use Rattle.sbpl_frontier_core.proofs.space.Space.begin.Goals as goal

pub returns-clause-queued : goal.returns-clause-queued
returns-clause-queued g c =
    let inside = c.self.inside in
    let waits = rw (← c.self.view_is) at c.requires.over.over in
    let filled = rw c.deref.ensures.value at c.refill.ensures.filled in
    filled_all c.gather.new.states.items filled c.requires.none_under
    (λ s at over.
    ⊎_elim
    (λ (queued : IsSome (open_list.key_at inside.queue s)). c.in_ok-gather.ensures.gathered s queued)
    (λ (listed : Contains inside.expanded.items s). c.in_ok-gather.ensures.kept s listed)
    (waits s at over))
