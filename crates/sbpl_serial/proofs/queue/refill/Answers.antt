use Rattle.std.proofs.Common.{false, take, slice_index_or}
use Rattle.std.proofs.lemmas.List.{take_more}
use Rattle.sbpl_serial.specs.declared.step.Step.{Step}
use Rattle.sbpl_serial.proofs.Queueing.{refilled_step}
use Rattle.sbpl_serial.proofs.queue.refill.Goals as goal

pub loop-step-preserved : goal.loop-step-preserved
loop-step-preserved g c =
    let steps = c.args.steps.now in
    let i = c.loop-step.step-index in
    let none : Step = record { state = 0; raised = false } in
    let step = slice_index_or steps i none in
    rw (take_more steps i none c.loop-step-test.true)
    (refilled_step _ _ (λ key. (key.0, key.1)) (take i steps) step c.key_of-key.result c.loop-step.invariant
    c.key_of-key.ensures.key c.change.ensures.changed)
