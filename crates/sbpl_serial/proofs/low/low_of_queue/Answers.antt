use Rattle.std.proofs.Common.{refl, arith}
use Rattle.sbpl_open.specs.Entries.{state_at}
use Rattle.sbpl_serial.proofs.Gathering.{queued_inside}
use Rattle.sbpl_serial.proofs.Lowering.{low_more, low_same, before_next}
use Rattle.sbpl_serial.proofs.low.low_of_queue.Goals as goal

pub loop-entry-preserved : goal.loop-entry-preserved
loop-entry-preserved g c =
    let listed = c.entries-entries.ensures.listed c.loop-entry.entry-index c.loop-entry-test.true in
    let inside =
    queued_inside c.args.queue.now (state_at c.entries-entries.result.now c.loop-entry.entry-index) (rw listed refl) in
    low_same
    (low_more c.loop-entry.invariant (omega (arith, inside, c.requires.states)) c.low_with-low.ensures.falls
    c.low_with-low.ensures.own c.low_with-low.ensures.greatest)
    (before_next _ c.loop-entry.entry-index)
