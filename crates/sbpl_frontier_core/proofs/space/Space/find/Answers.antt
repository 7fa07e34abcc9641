use Rattle.std.proofs.Common.{◌≡◌, ◌≢◌, arith, ⊎_elim, sym, ◌∙◌}
use Rattle.std.proofs.lemmas.Bool.{cases_eq}
use Rattle.sbpl_frontier_rules.specs.sbpl_serial.Run.{IsOver}
use Rattle.sbpl_frontier_core.proofs.space.Space.find.Goals as goal
use Rattle.sbpl_frontier_core.proofs.space.Space.find.Goals.{else-g-v, then-g-v}

pub loop-s-preserved : goal.loop-s-preserved
loop-s-preserved c =
    let i = c.loop-s.s in
    elim c.if-g-v.branch [
      | then-g-v w ↦ rw w.space-is (
        w.note.ensures.states ∙ c.loop-s.invariant.0,
        λ u below over.
            ⊎_elim
            (λ (at : u ≡ i). rw at w.note.ensures.noted)
            (λ (apart : u ≢ i). w.note.ensures.kept u (c.loop-s.invariant.1 u (omega arith) over))
            (cases_eq u i),
      )
      | else-g-v w ↦ rw w.space-is (
        c.loop-s.invariant.0,
        λ u below over.
            ⊎_elim
            (λ (at : u ≡ i). let same : IsOver c.args.labels.now i = rw (sym at) over in
            absurd (omega (arith, w.if-g-v.false, c.g.ensures.value, c.v.ensures.value)))
            (λ (apart : u ≢ i). c.loop-s.invariant.1 u (omega arith) over)
            (cases_eq u i),
      )
    ]
