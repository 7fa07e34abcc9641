use Rattle.std.proofs.Common.{◌≡◌, ◌*◌}
use Rattle.sbpl_cost.specs.sbpl_map.Printed.{changes_text}
use Rattle.sbpl_demo.specs.Generator.{word_after}
use Rattle.sbpl_demo.specs.Changes.{batches}
use Rattle.sbpl_demo.proofs.changes.draw_changes.Given as goal

-- the first batches are written
abbrev pub invariant-loop : goal.invariant-loop
invariant-loop l = record {
  text : l.text.items ≡ changes_text (batches l.width l.height l.counter l.fn.draws.word);
  word : l.draws.word ≡ word_after (24 * l.counter) l.fn.draws.word;
}
