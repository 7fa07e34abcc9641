use Rattle.sbpl_sweep.proofs.ReadsListed.{reads_more}
use Rattle.sbpl_sweep.proofs.reads.read_table.Goals as goal

pub loop-i-preserved : goal.loop-i-preserved
loop-i-preserved c =
    reads_more c.args.swept.now c.loop-i.i c.loop-i.reads.items c.push_reads.new.reads.items c.at.result.now
    c.at.ensures.list c.loop-i.invariant c.in_ok-push_reads.ensures.added
