use Rattle.std.proofs.Common.{arith}
use Rattle.sbpl_cert.proofs.MadeRows.{all_kept, all_made, one_more}
use Rattle.sbpl_cert.proofs.making.rows_of.Goals as goal

pub loop-s-preserved : goal.loop-s-preserved
loop-s-preserved g c =
    rw c.in_ok-push.ensures.items (one_more _ _ _ _ _ c.loop-s.invariant c.row_of.ensures.row c.row_of.ensures.kept)

pub returns-clause-rows : goal.returns-clause-rows
returns-clause-rows g c = all_made _ _ _ _ _ c.of.ensures.items c.loop-s.invariant (omega arith)

pub returns-clause-kept : goal.returns-clause-kept
returns-clause-kept g c = all_kept _ _ _ _ _ c.of.ensures.items c.loop-s.invariant
