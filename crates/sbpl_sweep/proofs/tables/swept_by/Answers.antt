use Rattle.std.proofs.Common.{ap, sym, ◌∙◌, slice_get}
use Rattle.sbpl_sweep.proofs.tables.swept_by.Goals as goal

pub swept_cells-requires-clause-poses : goal.swept_cells-requires-clause-poses
swept_cells-requires-clause-poses c = λ i q h.
    let good = c.cell-cell.ensures.kept.each c.args.i c.get.result.now c.get.ensures.prim in
    good.poses i q (ap (λ l. slice_get l i) (sym c.as_slice.ensures.items) ∙ h)
