use Rattle.std.proofs.Common.{◌≡◌, slice_index, arith, ap, sym, ◌∙◌, subst}
use Rattle.sbpl_heur.specs.Followed.{Walking, distance, IsArc}
use Rattle.sbpl_heur.proofs.walks.Walks.next_lower.Goals as goal

pub returns-clause-skipped : goal.returns-clause-skipped
returns-clause-skipped c = λ a j weight late before arc.
    let s = c.args.self.now in
    let here = subst (λ b. IsArc b a c.args.cell j weight) (sym (ap (λ (z : Walking). z.board) c.self.view_is)) arc in
    let low = c.next_nearer.ensures.skipped a j weight late before here in
    let list = c.as_slice.ensures.value ∙ ap (λ (z : Walking). z.distances) c.self.view_is in
    let start : slice_index c.as_slice.result.now a ≡ distance s a = ap (λ l. slice_index l a) list in
    let end : slice_index c.as_slice.result.now c.args.cell ≡ distance s c.args.cell =
    ap (λ l. slice_index l c.args.cell) list in
    omega (arith, low, start, end)
