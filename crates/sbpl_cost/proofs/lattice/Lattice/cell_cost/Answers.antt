use Rattle.std.proofs.Common.{w64}
use Rattle.std.proofs.lemmas.Int.{to_z-of_z}
use Rattle.sbpl_cost.proofs.lattice.Lattice.cell_cost.Goals as goal

pub returns-clause-on_map : goal.returns-clause-on_map
returns-clause-on_map c =
    let on_map = rw (to_z-of_z w64 c.args.x c.ranges.x, to_z-of_z w64 c.args.y c.ranges.y) at c.cost.ensures.on_map in
    rw (← c.self.view_is) on_map
