use Rattle.std.proofs.Common.{◌<◌, true, false, arith, ap, refl, sym, ◌∙◌, length}
use Rattle.std.proofs.lemmas.List.{length-set}
use Rattle.sbpl_search.specs.sbpl_graph.declared.TheConstants.{FAR}
use Rattle.sbpl_search.specs.sbpl_labels.Marks.{g_of}
use Rattle.sbpl_search.proofs.Paths.{label_at_most}
use Rattle.sbpl_serial.specs.Run.{none_closed}
use Rattle.sbpl_serial.proofs.Closing.{closed_at_push}
use Rattle.sbpl_serial.proofs.Queueing.{queued_alike, queued_waiting, relaxed_unplaced}
use Rattle.sbpl_serial.proofs.Relaxing.{expanding_none, expanding_more, lowered_all, usable_all}
use Rattle.sbpl_serial.proofs.Together.{together_more}
use Rattle.sbpl_serial.proofs.serial.Serial.expand.Goals as goal

pub loop-k-init : goal.loop-k-init
loop-k-init g c =
    let labels = c.start-start.ensures.labels in
    let opened = rw (← c.self.view_is) at c.requires.open in
    let usable = rw (← c.self.view_is) at c.requires.usable in
    let over = rw (← c.self.view_is) at c.requires.over in
    record {
      expanding =
          rw (← c.self.view_is)
          (expanding_none _ usable over (label_at_most _ (labels.labels _ opened.inside).1) c.settle.ensures.settled);
      queued = c.requeue.ensures.queued;
      same_goal = refl;
      same_closed = refl;
      same_steps = refl;
    }

pub requeue-requires-in-loop-k-clause-unplaced : goal.requeue-requires-in-loop-k-clause-unplaced
requeue-requires-in-loop-k-clause-unplaced g c =
    relaxed_unplaced (g.G.Graph.network c.args.graph.now) _ c.args.s c.loop-k.k _ c.loop-k.invariant.queued
    c.relax-head.ensures.relaxed

pub loop-k-preserved : goal.loop-k-preserved
loop-k-preserved g c =
    let so = c.loop-k.invariant in
    let labels = c.start-start.ensures.labels in
    let opened = rw (← c.self.view_is) at c.requires.open in
    let over = rw (← c.self.view_is) at c.requires.over in
    let v_label = label_at_most _ (labels.labels _ opened.inside).1 in
    let near : g_of c.args.self.now.labels c.args.s < FAR = rw (← c.self.view_is) (omega (arith, over, v_label)) in
    record {
      expanding =
          expanding_more _ _ _ c.states-states.ensures.sound so.expanding near
          (so.expanding.fits _ c.requires.usable.fits) c.relax-head.ensures.relaxed;
      queued = c.requeue-in-loop-k.ensures.queued;
      same_goal = so.same_goal;
      same_closed = so.same_closed;
      same_steps = so.same_steps;
    }

pub invariant_of-self : goal.invariant_of-self
invariant_of-self g c =
    let parts = c.self.invariant in
    let inside = c.self.inside in
    let so = c.loop-k.invariant in
    let here = rw (← c.self.view_is) at so.expanding in
    let opened = rw (← c.self.view_is) at c.requires.open in
    let closed = so.same_closed ∙ c.insert.ensures.closed in
    rw so.same_goal
    (together_more c.args.s false parts opened.inside here.same_states
    (ap length closed ∙ length-set inside.closed c.args.s true)
    (λ u.
    rw closed
    (closed_at_push inside.closed none_closed inside.steps.items c.args.s
    (omega (arith, parts.closed_states, opened.inside)) parts.closed_by_steps u))
    (rw so.same_steps at c.push.ensures.pushed) (rw so.same_steps at c.push.ensures.room) so.queued.states
    (queued_waiting _ _ so.queued))

pub returns-clause-taken : goal.returns-clause-taken
returns-clause-taken g c =
    let so = c.loop-k.invariant in
    let here = rw (← c.self.view_is) at so.expanding in
    let over = rw (← c.self.view_is) at c.requires.over in
    rw (← c.self.view_is) (record {
      step = lowered_all _ here (omega (arith, c.loop-k-test.false, c.fan-k-end.ensures.value)) over;
      traced = rw so.same_steps at c.push.ensures.pushed;
    })

pub returns-clause-usable : goal.returns-clause-usable
returns-clause-usable g c = λ count usable.
    usable_all _ c.loop-k.invariant.expanding (omega (arith, c.loop-k-test.false, c.fan-k-end.ensures.value)) usable

pub returns-clause-queued : goal.returns-clause-queued
returns-clause-queued g c =
    let parts = invariant_of-self g c in
    queued_alike _ _ _ _ (λ u. sym (parts.closed_by_steps u)) c.loop-k.invariant.queued
