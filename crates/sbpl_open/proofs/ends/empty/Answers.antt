use Rattle.std.proofs.Common.{◌∙◌, arith}
use Rattle.std.proofs.lemmas.List.{length-set}
use Rattle.sbpl_open.proofs.Agreeing.{agreed_pop, absent_all}
use Rattle.sbpl_open.proofs.ends.empty.Goals as goal

pub loop-entry-preserved : goal.loop-entry-preserved
loop-entry-preserved c = rw c.set.ensures.list (
  agreed_pop c.loop-entry.heap.items c.pop.new.self.items c.loop-entry.slots c.in-Some.entry c.in-Some.ensures.items
      c.loop-entry.invariant.0,
  c.in-Some.ensures.capacity ∙ c.loop-entry.invariant.1,
  length-set c.loop-entry.slots c.in-Some.entry.state 0 ∙ c.loop-entry.invariant.2,
)

pub returns-clause-slots : goal.returns-clause-slots
returns-clause-slots c = absent_all c.loop-entry.invariant.0 (omega (arith, c.in_default.ensures.cases))
