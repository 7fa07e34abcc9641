use Rattle.std.proofs.Common.{◌≡◌, sym, ◌∙◌, slice_get, Some, arith, subst}
use Rattle.std.proofs.lemmas.Option.{slice_get_within, same_Some}
use Rattle.sbpl_sweep.specs.sbpl_mprim.declared.prim.Primitive.{Primitive}
use Rattle.sbpl_sweep.specs.Centres.{AreCentres}
use Rattle.sbpl_cost.specs.Checked.{AreAlong}
use Rattle.sbpl_cost.proofs.Filling.{filled_more}
use Rattle.sbpl_cost.proofs.checked.along_table.Goals as goal

pub loop-i-preserved : goal.loop-i-preserved
loop-i-preserved c =
    let good = c.cell-cell.ensures.kept.each c.loop-i.i c.get.result.now c.get.ensures.prim in
    let entry = c.requires.sweeps.centres.each c.loop-i.i c.get.result.now c.get.ensures.prim in
    let are =
    subst (λ cells. AreCentres c.args.prims.now.cell c.get.result.now.poses cells)
    (same_Some entry.0 c.centre.result.now (sym entry.1 ∙ c.centre.ensures.cells)) entry.2 in
    let along = c.in_ok-cells.ensures.along c.args.prims.now.cell c.args.prims.now.headings good are in
    filled_more (λ k cells.
    (p : Primitive) → slice_get c.args.prims.now.items k ≡ Some p → AreAlong c.args.prims.now.cell p cells)
    c.loop-i.table c.push.new.self c.loop-i.i c.as_slice.result.now c.loop-i.invariant c.in_ok-push.ensures.added
    (λ p h.
    let same = same_Some c.get.result.now p (sym c.get.ensures.prim ∙ h) in
    subst (λ cells. AreAlong c.args.prims.now.cell p cells) (sym c.as_slice.ensures.value)
    (subst (λ q. AreAlong c.args.prims.now.cell q c.in_ok-cells.cells.items) same along))

pub returns : goal.returns
returns c = record {
  table = λ i p h.
      let within = slice_get_within c.args.prims.now.items i p h in
      let entry = c.loop-i.invariant.1 i (omega (arith, within, c.len-i-end.ensures.count, c.loop-i-test.false)) in
      (entry.0, entry.1, entry.2 p h);
}
