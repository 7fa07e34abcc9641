use Rattle.std.proofs.Common.{◌≡◌, ◌*◌, ◌++◌, map}
use Rattle.sbpl_fixed.specs.Printed.{lines_text}
use Rattle.sbpl_cost.specs.sbpl_map.Printed.{write_line}
use Rattle.sbpl_demo.specs.Generator.{word_after}
use Rattle.sbpl_demo.specs.Changes.{writes}
use Rattle.sbpl_demo.proofs.changes.draw_batch.Given as goal

-- the first changes are written
abbrev pub invariant-loop : goal.invariant-loop
invariant-loop l = record {
  text : l.out.items
      ≡ l.fn.out.items ++ lines_text (map write_line (writes l.width l.height l.counter l.fn.draws.word));
  word : l.draws.word ≡ word_after (3 * l.counter) l.fn.draws.word;
}
