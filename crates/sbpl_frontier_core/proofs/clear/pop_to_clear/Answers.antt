use Rattle.std.proofs.Common.{arith, refl}
use Rattle.std.proofs.lemmas.Bool.{false≢true}
use Rattle.sbpl_frontier_rules.specs.sbpl_open.declared.entry.Entry.{Entry}
use Rattle.sbpl_frontier_core.proofs.Aside.{clear_in, popped_more}
use Rattle.sbpl_frontier_core.proofs.clear.pop_to_clear.Goals as goal

pub returns-then-is_clear-clause-leads : goal.returns-then-is_clear-clause-leads
returns-then-is_clear-clause-leads g c =
    let least = c.in-Some.ensures.least in
    let clear = rw c.deref.ensures.value at (c.if-is_clear.ensures.clear.0 refl) in
    record {
      key = (c.in-Some.key.0, c.in-Some.key.1);
      least = least;
      below = c.if-not-is_below.ensures.below.0 refl;
      clear = clear_in c.loop-goal.invariant.0 least clear;
      few = omega arith;
    }

pub loop-goal-preserved : goal.loop-goal-preserved
loop-goal-preserved g c =
    let entry : Entry = record { first = c.in-Some.key.0; second = c.in-Some.key.1; state = c.in-Some.s } in
    let clear = rw c.deref.ensures.value at c.if-is_clear.ensures.clear in (
      rw c.push_reserved.ensures.items
          (popped_more c.loop-goal.invariant.0 entry c.in-Some.ensures.least (c.if-not-is_below.ensures.below.0 refl)
          (λ is. false≢true (clear.1 is)) (omega arith) c.leave.ensures.changed),
      omega (arith, c.loop-goal.invariant.1, c.push_reserved.ensures.capacity),
    )
