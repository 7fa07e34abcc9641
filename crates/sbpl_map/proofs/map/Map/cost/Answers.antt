use Rattle.std.proofs.Common.{w64, ap, sym}
use Rattle.std.proofs.lemmas.Int.{to_z-of_z}
use Rattle.sbpl_map.proofs.Cells.{cost_read}
use Rattle.sbpl_map.proofs.map.Map.cost.Goals as goal

pub returns-clause-value : goal.returns-clause-value
returns-clause-value c =
    let index =
    rw (to_z-of_z w64 c.args.x c.ranges.x, to_z-of_z w64 c.args.y c.ranges.y) at c.in_ok-index.ensures.value in
    let kept = rw c.self.view_is at c.self.invariant in
    sym (cost_read c.args.self.now _ _ _ _ _ kept (ap (λ m. m.costs) c.self.view_is) (sym index) c.index.ensures)
