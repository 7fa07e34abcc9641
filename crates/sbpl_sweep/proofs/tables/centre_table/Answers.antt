use Rattle.std.proofs.Common.{◌≡◌, ◌+◌, inl, inr, ap, sym, ◌∙◌, length, slice_get, arith, refl, w64, FitsSigned, rules}
use Rattle.std.proofs.lemmas.Bool.{cases_lt}
use Rattle.std.proofs.lemmas.Int.{to_z-of_z}
use Rattle.std.proofs.lemmas.List.{length_push}
use Rattle.std.proofs.lemmas.Option.{slice_get_read, slice_get_within, same_Some}
use Rattle.sbpl_sweep.proofs.CellOrders.{same_centres}
use Rattle.sbpl_sweep.proofs.Lists.{before_push, at_push}
use Rattle.sbpl_sweep.proofs.tables.centre_table.Goals as goal

pub centre_cells-requires-clause-poses : goal.centre_cells-requires-clause-poses
centre_cells-requires-clause-poses c =
    let list = c.as_slice-prim-items.result.now in
    let there =
    ap (λ l. slice_get l c.loop-prim.prim-index) (sym c.as_slice-prim-items.ensures.prims)
    ∙ slice_get_read list (length list) c.loop-prim.prim-index c.prim-item.result refl
    c.loop-prim-test.true c.prim-item.is in
    let good = c.cell-cell.ensures.kept.each c.loop-prim.prim-index c.prim-item.result there in
    λ i q h. good.poses i q (ap (λ l. slice_get l i) (sym c.as_slice.ensures.items) ∙ h)

pub loop-prim-preserved : goal.loop-prim-preserved
loop-prim-preserved c =
    let list = c.as_slice-prim-items.result.now in
    let there =
    ap (λ l. slice_get l c.loop-prim.prim-index) (sym c.as_slice-prim-items.ensures.prims)
    ∙ slice_get_read list (length list) c.loop-prim.prim-index c.prim-item.result refl
    c.loop-prim-test.true c.prim-item.is in
    let fits : FitsSigned w64 c.cell-cell.result = search rules in
    let new = c.in_ok-push.ensures.added in (
      ap length new ∙ length_push c.loop-prim.table c.as_slice-in-loop-prim.result.now
          ∙ ap (λ n. n + 1) c.loop-prim.invariant.0,
      λ k p below h. elim (cases_lt k c.loop-prim.prim-index) [
        | inl before ↦
            let old = c.loop-prim.invariant.1 k p before h in (
              old.0,
              ap (λ l. slice_get l k) new
                  ∙ before_push c.loop-prim.table c.as_slice-in-loop-prim.result.now k
                  (omega (arith, c.loop-prim.invariant.0)) ∙ old.1,
              old.2,
            )
        | inr after ↦
            let last : k ≡ c.loop-prim.prim-index = omega arith in
            let same =
            same_Some c.prim-item.result p (sym there ∙ ap (slice_get c.args.prims.now.items) (sym last) ∙ h) in (
              c.as_slice-in-loop-prim.result.now,
              ap (λ l. slice_get l k) new
                  ∙ at_push c.loop-prim.table c.as_slice-in-loop-prim.result.now k (last ∙ sym c.loop-prim.invariant.0),
              same_centres _ c.args.prims.now.cell p.poses _ _ _
                  (to_z-of_z w64 c.cell-cell.result fits ∙ c.cell-cell.ensures.cell)
                  (c.as_slice.ensures.items ∙ ap (λ q. q.poses) same) c.as_slice-in-loop-prim.ensures.value
                  c.in_ok-cells.ensures.centres,
            )
      ],
    )

pub returns-clause-table : goal.returns-clause-table
returns-clause-table c = record {
  count = c.loop-prim.invariant.0 ∙ search rules;
  each = λ i p h.
      let within = slice_get_within c.args.prims.now.items i p h in
      c.loop-prim.invariant.1 i p (omega (arith, within, ap length c.as_slice-prim-items.ensures.prims)) h;
}

pub returns-clause-few : goal.returns-clause-few
returns-clause-few c = omega (
  arith,
  c.loop-prim.invariant.0,
  ap length c.as_slice-prim-items.ensures.prims,
  c.as_slice-prim-items.ensures.kept.count,
)
