use Rattle.std.proofs.Common.{◌≡◌, length, arith}
use Rattle.sbpl_serial.proofs.Noting.{noted_more, noted_all}
use Rattle.sbpl_serial.proofs.note.note_touched.Goals as goal

pub loop-t-preserved : goal.loop-t-preserved
loop-t-preserved c =
    noted_more c.loop-t.t-index c.loop-t.invariant c.note.ensures.states c.note.ensures.kept c.note.ensures.noted

pub returns-clause-noted : goal.returns-clause-noted
returns-clause-noted c =
    let all : c.loop-t.t-index ≡ length c.args.touched.now = omega arith in
    noted_all (rw all at c.loop-t.invariant)
