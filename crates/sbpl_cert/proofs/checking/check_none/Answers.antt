use Rattle.std.proofs.Common.{◌≡◌, ◌<◌, inl, inr, refl, sym, ap, ◌∙◌, arith}
use Rattle.sbpl_cert.specs.Checking.{IsSettled}
use Rattle.sbpl_cert.proofs.Listed.{earlier_states}
use Rattle.sbpl_cert.proofs.checking.check_none.Goals as goal

pub returns-then-row : goal.returns-then-row
returns-then-row g c =
    let l = g.T.LabelTable.labelling c.args.labels.now in
    let is = c.count-i-end.ensures.labels in
    let row = c.row-row.result in
    let at : c.loop-i.i < l.count = omega (arith, c.loop-i-test.true, c.count-i-end.ensures.value) in
    let g_is : l.g row.state ≡ row.g = ap l.g c.row-row.ensures.state ∙ sym c.row-row.ensures.g in
    let v_is : l.v row.state ≡ row.v = ap l.v c.row-row.ensures.state ∙ sym c.row-row.ensures.v in
    record {
      settled = (
        row.state,
        refl,
        omega (arith, is.inside c.loop-i.i at, c.row-row.ensures.state),
        omega (arith, g_is, c.if-row-lt-FAR.true),
        elim c.if-row.either [ inl goal_there ↦ inl goal_there | inr far ↦ inr (v_is ∙ far.1) ],
        λ u below.
            earlier_states l is (λ s. IsSettled c.args.goal l.g l.v s)
            (λ s inside g_far v_far near. absurd (omega (arith, g_far, near))) c.loop-i.i at
            c.loop-i.invariant u (omega (arith, below, c.row-row.ensures.state)),
      );
    }
