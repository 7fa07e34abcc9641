use Rattle.std.proofs.Common.{◌≡◌, length, arith}
use Rattle.sbpl_serial.proofs.Repairing.{repaired_more, repaired_all}
use Rattle.sbpl_serial.proofs.repair.recompute_all.Goals as goal

pub loop-t-preserved : goal.loop-t-preserved
loop-t-preserved g c =
    repaired_more c.loop-t.t-index c.loop-t.invariant c.recompute.ensures.recomputed c.recompute.ensures.start
    c.recompute.ensures.fits

pub returns-clause-repaired : goal.returns-clause-repaired
returns-clause-repaired g c =
    let all : c.loop-t.t-index ≡ length c.args.touched.now = omega arith in
    repaired_all (rw all at c.loop-t.invariant)
