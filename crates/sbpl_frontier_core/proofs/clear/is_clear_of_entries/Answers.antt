use Rattle.std.proofs.Common.{arith, refl}
use Rattle.std.proofs.lemmas.List.{take_all}
use Rattle.std.proofs.lemmas.List.Elements.{All-more}
use Rattle.sbpl_frontier_rules.specs.sbpl_open.declared.entry.Entry.{Entry}
use Rattle.sbpl_frontier_core.specs.Clear.{IsClear}
use Rattle.sbpl_frontier_core.proofs.clear.is_clear_of_entries.Goals as goal

pub loop-entry-preserved : goal.loop-entry-preserved
loop-entry-preserved g c =
    All-more (λ (x : Entry). IsClear (g.G.Graph.network c.args.graph.now) c.args.eps c.args.labels.now c.args.s x.state)
    c.args.others.now c.loop-entry.entry-index (record { first = 0; second = 0; state = 0 }) c.loop-entry-test.true
    c.loop-entry.invariant (c.if-not-is_clear_of.ensures.clear.0 refl)

pub returns : goal.returns
returns g c = record {
  clear = (
    λ _. rw (take_all c.loop-entry.entry-index c.args.others.now (omega arith)) at c.loop-entry.invariant,
    λ _. refl,
  );
}
