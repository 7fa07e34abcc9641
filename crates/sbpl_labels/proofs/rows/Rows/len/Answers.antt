use Rattle.std.proofs.Common.{arith}
use Rattle.sbpl_labels.proofs.Columns.{rows_size}
use Rattle.sbpl_labels.proofs.rows.Rows.len.Goals as goal

pub returns : goal.returns
returns c = record { value = omega (arith, c.len.ensures.value, rows_size _ _ _ c.self.view_is c.self.invariant) }
