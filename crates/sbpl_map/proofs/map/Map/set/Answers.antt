use Rattle.std.proofs.Common.{arith, w64, ap, sym}
use Rattle.std.proofs.lemmas.Int.{to_z-of_z}
use Rattle.sbpl_map.proofs.Cells.{cell_changed, cost_read, index_below, kept_by_write}
use Rattle.sbpl_map.proofs.map.Map.set.Goals as goal

pub index-was-requires : goal.index-was-requires
index-was-requires c =
    let index =
    rw (to_z-of_z w64 c.args.x c.ranges.x, to_z-of_z w64 c.args.y c.ranges.y, ← c.self.view_is)
    at c.in-Some.ensures.value in
    omega (arith, index_below _ _ _ _ c.self.invariant (sym index))

pub index_mut-requires : goal.index_mut-requires
index_mut-requires c =
    let index =
    rw (to_z-of_z w64 c.args.x c.ranges.x, to_z-of_z w64 c.args.y c.ranges.y, ← c.self.view_is)
    at c.in-Some.ensures.value in
    omega (arith, index_below _ _ _ _ c.self.invariant (sym index))

pub invariant_of-self : goal.invariant_of-self
invariant_of-self c = kept_by_write _ _ _ c.self.invariant (omega arith)

pub returns-clause-kept : goal.returns-clause-kept
returns-clause-kept c = kept_by_write _ _ _ c.self.invariant (omega arith)

pub returns-clause-old : goal.returns-clause-old
returns-clause-old c =
    let index = rw (to_z-of_z w64 c.args.x c.ranges.x, to_z-of_z w64 c.args.y c.ranges.y) at c.in-Some.ensures.value in
    let kept = rw c.self.view_is at c.self.invariant in
    cost_read c.args.self.now _ _ _ _ _ kept (ap (λ m. m.costs) c.self.view_is) (sym index) c.index-was.ensures

pub returns-clause-changes : goal.returns-clause-changes
returns-clause-changes c =
    let index =
    rw (to_z-of_z w64 c.args.x c.ranges.x, to_z-of_z w64 c.args.y c.ranges.y, ← c.self.view_is)
    at c.in-Some.ensures.value in
    rw (← c.self.view_is) (cell_changed _ _ _ _ _ c.self.invariant (sym index))
