use Rattle.std.proofs.Common.{ap, ◌∙◌}
use Rattle.sbpl_frontier_rules.specs.sbpl_open.OpenList as open_list
use Rattle.sbpl_frontier_core.specs.Waiting.{Waiting}
use Rattle.sbpl_frontier_core.proofs.Filling.{initial_held}
use Rattle.sbpl_frontier_core.proofs.space.Space.restart.Goals as goal

pub returns-clause-over : goal.returns-clause-over
returns-clause-over c = λ m initial.
    initial_held c.note.new.self m (open_list.states_of c.args.self.now.queue) c.args.start
    (c.note.ensures.states ∙ c.clear.ensures.states
    ∙ ap (λ (w : Waiting). open_list.states_of w.queue) c.self.view_is) c.note.ensures.noted initial
