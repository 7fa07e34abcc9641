use Rattle.std.proofs.Common.{ℕ, ◌<◌, arith}
use Rattle.std.proofs.lemmas.Result.{err_from_is_err_and}
use Rattle.sbpl_cert.specs.Checking.{IsArcKept}
use Rattle.sbpl_cert.proofs.Listed.{earlier_states}
use Rattle.sbpl_cert.proofs.checking.check_arcs.Goals as goal

pub returns-in_err-check_arcs_of : goal.returns-in_err-check_arcs_of
returns-in_err-check_arcs_of g c =
    let n = g.G.Graph.network c.args.graph.now in
    let l = g.T.LabelTable.labelling c.args.labels.now in
    let is = c.count-i-end.ensures.labels in
    let p = err_from_is_err_and c.from_residual.result c.from_residual.ensures.1 in
    let at : c.loop-i.i < l.count = omega (arith, c.loop-i-test.true, c.count-i-end.ensures.value) in
    rw
    (p.1, p.2)
    (record {
      arcs = (
        c.row.result.state,
        c.in_err-check_arcs_of.ensures.arcs,
        λ u below.
            earlier_states l is (λ s. (k : ℕ) → IsArcKept n l.g l.v s k)
            (λ s inside g_far v_far k t d arc near. absurd (omega (arith, v_far, near))) c.loop-i.i at
            c.loop-i.invariant u (omega (arith, below, c.row.ensures.state)),
      );
    })
