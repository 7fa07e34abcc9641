use Rattle.std.proofs.Common.{true, arith, refl, sym, ◌∙◌}
use Rattle.sbpl_serial.specs.Run.{none_closed}
use Rattle.sbpl_serial.proofs.Queueing.{queued_alike, queued_waiting}
use Rattle.sbpl_serial.proofs.Raising.{raising_begins, raising_more, raises_all, exact_raised}
use Rattle.sbpl_serial.proofs.Returning.{returned_unplaced}
use Rattle.sbpl_serial.proofs.Together.{raised_by_steps, together_more}
use Rattle.sbpl_serial.proofs.serial.Serial.raise.Goals as goal

pub loop-k-init : goal.loop-k-init
loop-k-init g c = record {
  raising = rw (← c.self.view_is)
      (raising_begins (g.G.Graph.network c.args.graph.now) c.self.inside.labels _ c.args.s c.raise.ensures.raised);
  queued = c.requeue.ensures.queued;
  same_goal = refl;
  same_closed = refl;
  same_steps = refl;
}

pub requeue-requires-in-loop-k-clause-unplaced : goal.requeue-requires-in-loop-k-clause-unplaced
requeue-requires-in-loop-k-clause-unplaced g c =
    returned_unplaced (g.G.Graph.network c.args.graph.now) _ c.args.s c.loop-k.k _ c.loop-k.invariant.queued
    c.recompute_head-head.ensures.returned

pub loop-k-preserved : goal.loop-k-preserved
loop-k-preserved g c =
    let so = c.loop-k.invariant in
    record {
      raising =
          raising_more c.args.self.now.labels c.args.s c.requires.usable.exact c.requires.usable.states
          c.loop-k.k so.raising _ c.recompute_head-head.ensures.returned c.recompute_head-head.ensures.fits;
      queued = c.requeue-in-loop-k.ensures.queued;
      same_goal = so.same_goal;
      same_closed = so.same_closed;
      same_steps = so.same_steps;
    }

pub invariant_of-self : goal.invariant_of-self
invariant_of-self g c =
    let parts = c.self.invariant in
    let so = c.loop-k.invariant in
    let here = rw (← c.self.view_is) at so.raising in
    let opened = rw (← c.self.view_is) at c.requires.open in
    rw (so.same_goal, so.same_closed)
    (together_more c.args.s true parts opened.inside here.same_states refl
    (λ u. parts.closed_by_steps u ∙ sym (raised_by_steps none_closed c.self.inside.steps.items c.args.s u))
    (rw so.same_steps at c.push.ensures.pushed) (rw so.same_steps at c.push.ensures.room) so.queued.states
    (queued_waiting _ _ (rw so.same_closed at so.queued)))

pub returns-clause-taken : goal.returns-clause-taken
returns-clause-taken g c =
    let so = c.loop-k.invariant in
    let usable = c.requires.usable in
    let step =
    raises_all c.args.self.now.labels c.args.s usable.exact usable.states so.raising
    (omega (arith, c.loop-k-test.false, c.fan-k-end.ensures.value)) c.requires.under in
    rw (← c.self.view_is)
    (record { step = rw (← c.self.view_is) at step; traced = rw so.same_steps at c.push.ensures.pushed })

pub returns-clause-usable : goal.returns-clause-usable
returns-clause-usable g c = λ count usable.
    let here = c.loop-k.invariant.raising in
    record {
      states = here.same_states ∙ usable.states;
      exact =
          exact_raised c.args.self.now.labels c.args.s c.requires.usable.exact c.requires.usable.states here
          (omega (arith, c.loop-k-test.false, c.fan-k-end.ensures.value)) c.states-states.ensures.sound
          c.states-states.ensures.tails
          c.start-raised.ensures.labels;
      fits = here.fits count usable.fits;
    }

pub returns-clause-queued : goal.returns-clause-queued
returns-clause-queued g c =
    let parts = invariant_of-self g c in
    queued_alike _ _ _ _ (λ u. sym (parts.closed_by_steps u)) c.loop-k.invariant.queued
