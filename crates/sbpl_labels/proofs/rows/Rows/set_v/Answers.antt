use Rattle.std.proofs.Common.{arith}
use Rattle.sbpl_labels.proofs.Columns.{rows_size, v_set}
use Rattle.sbpl_labels.proofs.rows.Rows.set_v.Goals as goal

pub set-requires : goal.set-requires
set-requires c =
    omega (arith, c.requires.state, rows_size _ _ _ c.self.view_is c.self.invariant, c.self.invariant.0)

pub returns : goal.returns
returns c = record { set = rw c.set.ensures.list (v_set _ _ _ c.self.view_is c.self.invariant c.args.s c.args.v c.requires.state) }
