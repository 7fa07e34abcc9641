use Rattle.sbpl_sweep.proofs.ReadsListed.{reads_added}
use Rattle.sbpl_sweep.proofs.reads.push_reads.Goals as goal

pub returns : goal.returns
returns c = record {
  added =
      reads_added c.args.prim c.args.swept.now c.args.reads.now.items c.push_source.new.reads.items
      c.push_cells.new.reads.items c.requires.ordered c.in_ok-push_source.ensures.added
      c.in_ok-push_cells.ensures.added;
}
