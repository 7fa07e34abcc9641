use Rattle.std.proofs.Common.{◌∙◌, length, ap, sym}
use Rattle.std.proofs.lemmas.List.{length-map}
use Rattle.sbpl_serial.proofs.Marking.{none_marked}
use Rattle.sbpl_serial.proofs.closed.Closed.clear.Goals as goal

pub returns-clause-states : goal.returns-clause-states
returns-clause-states c =
    length-map _ _ ∙ c.next_pass-self-inside.ensures.states ∙ sym (length-map _ _) ∙ ap length c.self.view_is

pub returns-clause-none : goal.returns-clause-none
returns-clause-none c = none_marked _ _ (λ s inside. c.next_pass-self-inside.ensures.above s inside)
