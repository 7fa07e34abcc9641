use Rattle.std.proofs.Common.{◌≡◌, ℕ, ◌<◌, ◌≤◌, ◌^◌, ⊎_elim, List, slice_get, Some, arith, sym, subst, ◌∙◌, length}
use Rattle.std.proofs.lemmas.Option.{same_Some, slice_get_cases, slice_get_within}
use Rattle.sbpl_sweep.specs.sbpl_mprim.declared.prim.Primitive.{Primitive}
use Rattle.sbpl_sweep.specs.sbpl_mprim.Primitives.{Primitives, ArePrimitives}
use Rattle.sbpl_sweep.specs.declared.cell.Cell.{Cell}
use Rattle.sbpl_cost.specs.declared.strip.Strip.{Strip}
use Rattle.sbpl_cost.specs.Checked.{AreAround, HaveAround}
use Rattle.sbpl_cost.specs.Judging.{IsNear}
use Rattle.sbpl_cost.specs.Reaches.{IsReach, LieWithin}
use Rattle.sbpl_cost.specs.Strips.{cells_in}
use Rattle.sbpl_cost.proofs.Filling.{filled_more}
use Rattle.sbpl_cost.proofs.Judged.{near_around}
use Rattle.sbpl_cost.proofs.checked.reach_table.Goals as goal

-- the primitive at an index
standing : (prims : Primitives) (i : ℕ) → i < length prims.items → (p : Primitive) × (slice_get prims.items i ≡ Some p)
standing prims i inside =
    ⊎_elim (λ there. (there.0, there.2)) (λ past. absurd (omega (arith, inside, past.0)))
    (slice_get_cases prims.items i).1

-- the cells of its strips are not far off
near : (prims : Primitives) (radius : ℕ) (around : List (List Strip)) (i : ℕ) (strips : List Strip)
    → ArePrimitives prims → radius ≤ 10 ^ 12 → HaveAround prims radius around
    → i < length prims.items → slice_get around i ≡ Some strips → (k : ℕ) (c : Cell)
    → slice_get (cells_in strips) k ≡ Some c → IsNear c
near prims radius around i strips are small have inside at =
    let p = standing prims i inside in
    let entry = have i p.0 p.1 in
    let same = same_Some entry.0 strips (sym entry.1 ∙ at) in
    near_around prims.cell prims.cell prims.headings radius p.0 strips are.cell (are.each i p.0 p.1) small
    (subst (λ s. AreAround prims.cell radius p.0 s) same entry.2)

pub at-requires : goal.at-requires
at-requires c =
    let p = standing c.args.prims.now c.loop-i.i (omega (arith, c.loop-i-test.true, c.len-i-end.ensures.count)) in
    let entry = c.requires.around c.loop-i.i p.0 p.1 in
    record { number = slice_get_within c.args.around.now c.loop-i.i entry.0 entry.1 }

pub reach_of-requires : goal.reach_of-requires
reach_of-requires c = record {
  near =
      near c.args.prims.now c.args.radius c.args.around.now c.loop-i.i c.at.result.now c.cell-cell.ensures.kept
      c.requires.radius c.requires.around
      (omega (arith, c.loop-i-test.true, c.len-i-end.ensures.count)) c.at.ensures.list;
}

pub loop-i-preserved : goal.loop-i-preserved
loop-i-preserved c =
    filled_more (λ k r. (p : Primitive) (strips : List Strip) → slice_get c.args.prims.now.items k ≡ Some p
    → slice_get c.args.around.now k ≡ Some strips → IsReach r × LieWithin r (cells_in strips))
    c.loop-i.table.items c.push.new.self.items c.loop-i.i c.reach_of.result c.loop-i.invariant
    c.in_ok-push.ensures.items
    (λ p strips h at.
    let same = same_Some c.at.result.now strips (sym c.at.ensures.list ∙ at) in
    (c.reach_of.ensures.reach, subst (λ s. LieWithin c.reach_of.result (cells_in s)) same c.reach_of.ensures.within))

pub returns : goal.returns
returns c = record {
  table = λ i p strips h at.
      let within = slice_get_within c.args.prims.now.items i p h in
      let entry = c.loop-i.invariant.1 i (omega (arith, within, c.len-i-end.ensures.count, c.loop-i-test.false)) in
      let found = entry.2 p strips h at in (entry.0, entry.1, found.0, found.1);
}
