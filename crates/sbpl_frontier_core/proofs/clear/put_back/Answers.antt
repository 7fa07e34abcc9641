use Rattle.std.proofs.Common.{◌<◌, arith}
use Rattle.std.proofs.lemmas.List.Elements.{All-get_or}
use Rattle.sbpl_frontier_rules.specs.sbpl_open.declared.entry.Entry.{Entry}
use Rattle.sbpl_frontier_rules.specs.sbpl_open.OpenList.{states_of}
use Rattle.sbpl_frontier_core.proofs.Aside.{all_front, aside_back}
use Rattle.sbpl_frontier_core.proofs.clear.put_back.Goals as goal

pub loop-entry-preserved : goal.loop-entry-preserved
loop-entry-preserved c =
    let aside = c.pop.new.self.items in
    let entry : Entry = c.in-Some.entry in
    let inside = rw c.in-Some.ensures.items at c.loop-entry.invariant.1 in
    let left = all_front (λ (e : Entry). e.state < states_of c.loop-entry.queue) aside entry inside in (
      λ f here. aside_back aside entry
          (rw c.in-Some.ensures.items at (c.loop-entry.invariant.0 f here)) c.put.ensures.changed,
      λ k d within. omega (
        arith,
        All-get_or (λ (e : Entry). e.state < states_of c.loop-entry.queue) aside k d within left,
        c.put.ensures.changed.states,
      ),
      omega (arith, c.loop-entry.invariant.2, c.in-Some.ensures.capacity),
    )
