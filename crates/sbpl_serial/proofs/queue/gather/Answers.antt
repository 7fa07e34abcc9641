use Rattle.std.proofs.Common.{refl}
use Rattle.sbpl_serial.proofs.Gathering.{gathering_more}
use Rattle.sbpl_serial.proofs.queue.gather.Goals as goal

pub loop-entry-preserved : goal.loop-entry-preserved
loop-entry-preserved c =
    let listed = c.entries-entries.ensures.listed c.loop-entry.entry-index c.loop-entry-test.true in
    gathering_more _ _ _ _ _ c.loop-entry.entry-index c.loop-entry.invariant (rw listed refl)
    c.push.ensures.pushed c.push.ensures.room
