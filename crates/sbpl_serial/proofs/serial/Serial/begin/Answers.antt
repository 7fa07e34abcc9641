use Rattle.std.proofs.Common.{◌∙◌}
use Rattle.sbpl_serial.proofs.Queueing.{refilled_all, queued_waiting}
use Rattle.sbpl_serial.proofs.Together.{all_noted, together_none}
use Rattle.sbpl_serial.proofs.serial.Serial.begin.Goals as goal

pub returns-clause-queued : goal.returns-clause-queued
returns-clause-queued g c =
    let parts = c.self.invariant in
    let inside = c.self.inside in
    let noted = rw c.as_slice.ensures.value at c.note_taken.ensures.noted in
    let refilled = rw c.as_slice-2.ensures.value at c.refill.ensures.refilled in
    refilled_all _ _ c.gather.new.steps.items
    (λ s it.
    c.gather.ensures.gathered s
    (all_noted inside.queue c.note_taken.new.queue inside.steps.items parts.waiting parts.closed_by_steps
    c.note_taken.ensures.kept noted s it))
    refilled

pub invariant_of-self : goal.invariant_of-self
invariant_of-self g c =
    let parts = c.self.invariant in
    let queued = returns-clause-queued g c in
    together_none parts.goal_inside (c.clear-3.ensures.states ∙ parts.closed_states)
    c.clear-3.ensures.none c.clear-4.ensures.empty
    (c.clear-4.ensures.room ∙ c.gather.ensures.room ∙ c.clear.ensures.room ∙ parts.enough_room) queued.states
    (queued_waiting _ _ queued)
