use Rattle.std.proofs.Common.{◌≡◌, ◌≢◌, slice_index, arith, ⊎_elim, sym, ◌∙◌, subst}
use Rattle.std.proofs.lemmas.Bool.{cases_eq}
use Rattle.std.proofs.lemmas.List.{get_or_default}
use Rattle.sbpl_frontier_rules.specs.sbpl_serial.Run.{IsOver}
use Rattle.sbpl_frontier_core.specs.Waiting.{Waits}
use Rattle.sbpl_frontier_core.proofs.space.Space.note_over.Goals as goal
use Rattle.sbpl_frontier_core.proofs.space.Space.note_over.Goals.{else-g-v, then-g-v}

pub loop-s-preserved : goal.loop-s-preserved
loop-s-preserved c =
    let i = c.loop-s.s-index in
    let here = c.loop-s.invariant in
    let states = c.args.states.now in
    elim c.if-g-v.branch [
      | then-g-v w ↦ rw w.self-is (record {
        states = w.note.ensures.states ∙ here.states;
        kept = λ u waits. w.note.ensures.kept u (here.kept u waits);
        noted = λ j below over.
            ⊎_elim
            (λ (at : j ≡ i). rw at w.note.ensures.noted)
            (λ (apart : j ≢ i). w.note.ensures.kept (slice_index states j) (here.noted j (omega arith) over))
            (cases_eq j i);
      })
      | else-g-v w ↦ rw w.self-is (record {
        states = here.states;
        kept = here.kept;
        noted = λ j below over.
            ⊎_elim
            (λ (at : j ≡ i).
            let same : IsOver c.args.labels.now (slice_index states i) = rw (sym at) over in
            absurd (omega (arith, w.if-g-v.false, same, c.g.ensures.value, c.v.ensures.value)))
            (λ (apart : j ≢ i). here.noted j (omega arith) over)
            (cases_eq j i);
      })
    ]

pub returns-clause-noted : goal.returns-clause-noted
returns-clause-noted c = λ s among over.
    let same : slice_index c.args.states.now among.0 ≡ s =
    get_or_default c.args.states.now among.0 0 s among.1 ∙ among.2 in
    subst (Waits c.loop-s.self) same
    (c.loop-s.invariant.noted among.0 (omega (arith, among.1, c.loop-s-test.false))
    (subst (IsOver c.args.labels.now) (sym same) over))
