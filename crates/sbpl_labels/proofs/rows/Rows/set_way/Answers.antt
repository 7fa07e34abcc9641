use Rattle.std.proofs.Common.{arith}
use Rattle.sbpl_labels.proofs.Columns.{rows_size, way_set}
use Rattle.sbpl_labels.proofs.rows.Rows.set_way.Goals as goal

pub set-requires : goal.set-requires
set-requires c = omega (arith, c.requires.state, rows_size _ _ _ c.self.view_is c.self.invariant)

pub set-requires-2 : goal.set-requires-2
set-requires-2 c =
    omega (arith, c.requires.state, rows_size _ _ _ c.self.view_is c.self.invariant, c.self.invariant.1)

pub returns : goal.returns
returns c =
    record { set = rw (c.set.ensures.list, c.set-2.ensures.list) (way_set _ _ _ c.self.view_is c.self.invariant c.args.s c.args.g c.args.back c.requires.state) }
