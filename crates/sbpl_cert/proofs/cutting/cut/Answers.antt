use Rattle.std.proofs.Common.{◌≡◌, ◌+◌, ◌<◌, List, [], ◌∷◌, ◌++◌, refl, sym, subst, arith}
use Rattle.std.specs.Prelude.{IsTrue, false}
use Rattle.sbpl_cert.specs.declared.sparse_row.SparseRow.{SparseRow}
use Rattle.sbpl_cert.proofs.CutRows.{AreRowsTo, row_added, row_skipped}
use Rattle.sbpl_cert.proofs.cutting.cut.Goals.{then-is_finite+in_ok-push, else-is_finite}
use Rattle.sbpl_cert.proofs.cutting.cut.Goals as goal

false_is_false : IsTrue false → ⊥
false_is_false is = cc

pub loop-s-preserved : goal.loop-s-preserved
loop-s-preserved g c =
    let o = c.args.outcome.now in
    let n = g.G.Graph.network c.args.graph.now in
    let m = c.args.labels.now in
    let h = g.H.Guide.distance c.args.guide.now in
    let low = c.args.low in
    let row = c.needed_row-row.result in
    let inside : c.loop-s.s < n.states = omega (arith, c.loop-s-test.true, c.states-s-end.ensures.value) in
    elim c.if-is_finite.branch [
      | then-is_finite+in_ok-push w ↦
          let items : c.if-is_finite.rows.items ≡ c.loop-s.rows.items ++ row ∷ [] =
          rw w.rows-is w.in_ok-push.ensures.items in
          subst (λ (rows : List SparseRow). AreRowsTo o n m h low rows (c.loop-s.s + 1)) (sym items)
          (row_added o n m h low c.loop-s.rows.items c.loop-s.s row c.loop-s.invariant inside
          c.needed_row-row.ensures.state c.needed_row-row.ensures.needed c.needed_row-row.ensures.labels
          (w.if-is_finite.ensures.finite refl))
      | else-is_finite w ↦
          let items : c.if-is_finite.rows.items ≡ c.loop-s.rows.items = rw w.rows-is refl in
          subst (λ (rows : List SparseRow). AreRowsTo o n m h low rows (c.loop-s.s + 1)) (sym items)
          (row_skipped o n m h low c.loop-s.rows.items c.loop-s.s row c.loop-s.invariant c.needed_row-row.ensures.state
          c.needed_row-row.ensures.needed c.needed_row-row.ensures.labels
          (λ finite. false_is_false (w.if-is_finite.ensures.infinite finite)))
    ]
