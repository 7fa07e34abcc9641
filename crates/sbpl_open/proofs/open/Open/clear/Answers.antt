use Rattle.std.proofs.Common.{◌∙◌, arith}
use Rattle.sbpl_open.proofs.Viewing.{states_are, states_view, empty_fresh}
use Rattle.sbpl_open.proofs.open.Open.clear.Goals as goal

pub returns-clause-states : goal.returns-clause-states
returns-clause-states c =
    states_are _ _
    ∙ omega (arith, c.empty.ensures.states, states_view c.self.inside.heap.items c.self.inside.slots c.self.view_is)

pub returns-clause-empty : goal.returns-clause-empty
returns-clause-empty c = empty_fresh _ _ (λ u inside. c.empty.ensures.slots u)
