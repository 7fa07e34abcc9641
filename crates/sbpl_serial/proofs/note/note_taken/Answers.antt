use Rattle.std.proofs.Common.{false, take, slice_index_or}
use Rattle.std.proofs.lemmas.List.{take_more}
use Rattle.sbpl_serial.specs.declared.step.Step.{Step}
use Rattle.sbpl_serial.proofs.Noting.{taken_more}
use Rattle.sbpl_serial.proofs.note.note_taken.Goals as goal

pub loop-step-preserved : goal.loop-step-preserved
loop-step-preserved c =
    let steps = c.args.steps.now in
    let i = c.loop-step.step-index in
    let none : Step = record { state = 0; raised = false } in
    rw (take_more steps i none c.loop-step-test.true)
    (taken_more (take i steps) (slice_index_or steps i none) c.loop-step.invariant c.note.ensures.states
    c.note.ensures.kept c.note.ensures.noted)
