use Rattle.std.proofs.Common.{ℕ, ap, arith, inl, refl, ◌∙◌}
use Rattle.sbpl_search.specs.sbpl_labels.Marks.{v_of}
use Rattle.sbpl_serial.specs.Run.{none_closed}
use Rattle.sbpl_serial.proofs.Gathering.{opened_waiting}
use Rattle.sbpl_serial.proofs.Together.{together_none}
use Rattle.sbpl_serial.proofs.serial.Serial.open.Goals as goal

pub invariant_of-result : goal.invariant_of-result
invariant_of-result g c =
    let opened = c.in_ok-labels.ensures.opened in
    let same = opened.states in
    together_none (omega (arith, c.requires.goal)) (omega (arith, c.in_ok-closed.ensures.states))
    c.in_ok-closed.ensures.none c.in_ok-steps.ensures.empty (omega (arith, c.in_ok-steps.ensures.room))
    (omega (arith, c.put.ensures.changed.states, c.in_ok-queue.ensures.states))
    (opened_waiting none_closed _ _ c.args.start _ opened refl c.put.ensures.changed)

pub returns-clause-fresh : goal.returns-clause-fresh
returns-clause-fresh g c =
    let initial = c.in_ok-labels.ensures.opened in
    inl (ap (λ (s : ℕ). v_of c.in_ok-labels.labels s) initial.start ∙ initial.far_v c.args.start c.requires.start)
