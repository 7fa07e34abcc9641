use Rattle.std.proofs.Common.{◌≡◌, ℕ, ◌+◌, ◌<◌, sym, ap, ◌∙◌, arith}
use Rattle.sbpl_cert.specs.declared.flaw.Flaw.TheVariants as flaw
use Rattle.sbpl_cert.specs.Checking.{IsLowKept}
use Rattle.sbpl_cert.proofs.Listed.{earlier_states}
use Rattle.sbpl_cert.proofs.checking.check_lows.Goals as goal

pub returns-then-low-most : goal.returns-then-low-most
returns-then-low-most g c =
    let l = g.T.LabelTable.labelling c.args.labels.now in
    let h = g.H.Guide.distance c.args.guide.now in
    let is = c.count-i-end.ensures.labels in
    let row = c.row-row.result in
    let at : c.loop-i.i < l.count = omega (arith, c.loop-i-test.true, c.count-i-end.ensures.value) in
    let g_is : l.g row.state ≡ row.g = ap l.g c.row-row.ensures.state ∙ sym c.row-row.ensures.g in
    let v_is : l.v row.state ≡ row.v = ap l.v c.row-row.ensures.state ∙ sym c.row-row.ensures.v in
    let most : row.g + c.to_goal.result ≡ l.g row.state + h row.state = omega (arith, g_is, c.to_goal.ensures.value) in
    record {
      low = (
        row.state,
        ap (λ (m : ℕ). flaw.Low row.state c.args.low m) most,
        omega (arith, is.inside c.loop-i.i at, c.row-row.ensures.state),
        λ same. c.if-row.true (sym g_is ∙ sym same ∙ v_is),
        omega (arith, most, c.if-low-most.true),
        λ u below.
            earlier_states l is (λ s. IsLowKept l.g l.v h c.args.low s)
            (λ s inside g_far v_far differ. absurd (differ (v_far ∙ sym g_far))) c.loop-i.i at
            c.loop-i.invariant u (omega (arith, below, c.row-row.ensures.state)),
      );
    }
