use Rattle.std.proofs.Common.{◌≡◌, ◌+◌, ◌<◌, ⊎_elim, inl, inr, true, false, arith}
use Rattle.std.proofs.lemmas.List.Elements.{All-get_or}
use Rattle.sbpl_search.specs.sbpl_labels.Marks.{states_of}
use Rattle.sbpl_serial.specs.declared.step.Step.{Step}
use Rattle.sbpl_serial.specs.Low.{IsInQueue}
use Rattle.sbpl_serial.specs.Queue.{is_among}
use Rattle.sbpl_serial.proofs.Lowering.{IsBefore, step_state, low_more, low_same, low_of_all, before_next, among_before}
use Rattle.sbpl_serial.proofs.low.low_among.Goals as goal

pub loop-step-preserved : goal.loop-step-preserved
loop-step-preserved g c =
    let at = step_state c.args.steps.now in
    let k = c.loop-step.step-index in
    let inside =
    All-get_or (λ (step : Step). step.state < states_of c.args.labels.now) c.args.steps.now k
    (record { state = 0; raised = false }) c.loop-step-test.true c.requires.inside in
    low_same
    (low_more c.loop-step.invariant inside c.low_with-low.ensures.falls c.low_with-low.ensures.own
    c.low_with-low.ensures.greatest)
    (λ s told.
    ⊎_elim
    (λ (queued : IsInQueue c.args.queue.now s). inl (inl queued))
    (λ (stands : IsBefore at (k + 1) s).
    ⊎_elim (λ (before : IsBefore at k s). inl (inr before)) (λ (here : s ≡ at k). inr here) (before_next at k s stands))
    told)

pub returns : goal.returns
returns g c = record {
  least =
      low_of_all c.loop-step.invariant
      (λ s inside differ.
      ⊎_elim
      (λ (queued : IsInQueue c.args.queue.now s). inl queued)
      (λ (among : is_among c.args.steps.now s ≡ true). inr (let (i, below, is) = among_before c.args.steps.now s
      among in (i, omega (arith, c.loop-step-test.false, c.loop-step.auto.step-index-end), is)))
      (c.requires.all s inside differ));
}
