use Rattle.std.proofs.Common.{◌≡◌, vec_len}
use Rattle.sbpl_demo.specs.Generator.{word_after}
use Rattle.sbpl_demo.specs.Environment.{costs_drawn}
use Rattle.sbpl_demo.proofs.environment.draw_costs.Given as goal

-- the first draws gave the costs that stand there
abbrev pub invariant-loop : goal.invariant-loop
invariant-loop l = record {
  costs : l.cells.items ≡ costs_drawn l.counter l.fn.draws.word;
  size : vec_len l.cells ≡ l.counter;
  word : l.draws.word ≡ word_after l.counter l.fn.draws.word;
}
