use Rattle.std.proofs.Common.{append-nil, refl}
use Rattle.sbpl_demo.proofs.Steps.{word_none, writes_none}
use Rattle.sbpl_demo.proofs.changes.draw_batch.Goals as goal

pub loop-init : goal.loop-init
loop-init c = record {
  text = rw (writes_none c.args.width c.args.height c.args.draws.now.word, append-nil c.args.out.now.items) refl;
  word = rw (word_none c.args.draws.now.word) refl;
}
