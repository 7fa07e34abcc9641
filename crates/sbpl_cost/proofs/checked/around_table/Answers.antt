use Rattle.std.proofs.Common.{◌≡◌, sym, ◌∙◌, slice_get, Some, arith, subst}
use Rattle.std.proofs.lemmas.Option.{slice_get_within, same_Some}
use Rattle.sbpl_sweep.specs.sbpl_mprim.declared.prim.Primitive.{Primitive}
use Rattle.sbpl_sweep.specs.Centres.{AreSwept}
use Rattle.sbpl_cost.specs.Checked.{AreAround}
use Rattle.sbpl_cost.proofs.Filling.{filled_more}
use Rattle.sbpl_cost.proofs.Checks.{around_from}
use Rattle.sbpl_cost.proofs.checked.around_table.Goals as goal

pub loop-i-preserved : goal.loop-i-preserved
loop-i-preserved c =
    filled_more (λ k strips. (p : Primitive) → slice_get c.args.prims.now.items k ≡ Some p
    → AreAround c.args.prims.now.cell c.args.sweeps.now.radius p strips)
    c.loop-i.table c.push.new.self c.loop-i.i c.as_slice.result.now c.loop-i.invariant c.in_ok-push.ensures.added
    (λ p h.
    let second = c.requires.sweeps.swept.each c.loop-i.i p h in
    let swept =
    subst (λ cells. AreSwept c.args.prims.now.cell c.args.sweeps.now.radius p.poses cells)
    (same_Some second.0 c.swept.result.now (sym second.1 ∙ c.swept.ensures.cells)) second.2 in
    subst (λ strips. AreAround c.args.prims.now.cell c.args.sweeps.now.radius p strips) (sym c.as_slice.ensures.value)
    (around_from c.args.prims.now.cell c.args.sweeps.now.radius p c.swept.result.now c.in_ok-strips.strips.items swept
    c.in_ok-strips.ensures.cells))

pub returns : goal.returns
returns c = record {
  table = λ i p h.
      let within = slice_get_within c.args.prims.now.items i p h in
      let entry = c.loop-i.invariant.1 i (omega (arith, within, c.len-i-end.ensures.count, c.loop-i-test.false)) in
      (entry.0, entry.1, entry.2 p h);
}
