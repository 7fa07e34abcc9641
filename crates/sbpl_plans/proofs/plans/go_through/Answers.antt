use Rattle.std.proofs.Common.{◌≡◌, ◌<◌, ◌++◌, ℕ, List, length, Option, refl, sym, subst, ap, ◌∙◌, arith}
use Rattle.sbpl_worlds.specs.sbpl_cfg.declared.pose.Place.{Place}
use Rattle.sbpl_worlds.specs.sbpl_map.ChangeText.{IsPlaceOnMap}
use Rattle.sbpl_plans.proofs.Observed.{then_same}
use Rattle.sbpl_plans.proofs.Going.{at_last, changes, no_more, plainly, sets_out, stops, tells_last, tells_no_more}
use Rattle.sbpl_worlds.specs.sbpl_promises.Sites.{Site, to_of}
use Rattle.sbpl_worlds.proofs.Moving.{alike_over, move_on_map, next_is, start_first, stays_put, within}
use Rattle.sbpl_worlds.proofs.OnMaps.{batch_on_map, same_told_states, to_inside}
use Rattle.sbpl_worlds.proofs.Workspaces.{site_of}
use Rattle.sbpl_worlds.specs.sbpl_replan.Replanning.{IsAimed, standing_of}
use Rattle.sbpl_worlds.specs.sbpl_report.Statuses.{number_of}
use Rattle.sbpl_plans.proofs.plans.go_through.Goals as goal
use Rattle.sbpl_plans.proofs.plans.go_through.Goals.{After-change}
use Rattle.sbpl_telling.proofs.Frames.{nothing_done, writes_more, writes_on}

pub loop-k-init : goal.loop-k-init
loop-k-init g c = record {
  going =
      rw c.in-Ok.ensures.world (sets_out c.is_terrain.ensures.law
      (c.writes_lead_to_the_next_map.ensures.first (g.W.Terrain.cells.map c.args.world)
      c.args.task.now.updates.now.batches) c.requires.task.kept
      (sym (start_first g.W.Workspace.reporting c.args.world c.args.task.now.start
      c.args.task.now.updates.now.moves)) c.in-Ok.ensures.set c.in-Ok.ensures.begun c.new-why.ensures.items);
  ready = c.in-Ok.ensures.ready;
  inside = rw c.in-Ok.ensures.world c.requires.task.start;
  goal_inside = rw c.in-Ok.ensures.world c.requires.task.goal;
  frame = nothing_done _ _;
  publisher = (refl, refl);
  grown = omega arith;
}

pub returns-in-Err-clause-ends : goal.returns-in-Err-clause-ends
returns-in-Err-clause-ends g c =
    plainly (ap number_of c.plain.ensures.status) c.plain.ensures.untold (no_more (omega arith) (λ name. refl))

pub returns-in-Err-make_plan-clause-ends : goal.returns-in-Err-make_plan-clause-ends
returns-in-Err-make_plan-clause-ends g c =
    plainly (ap number_of c.plain-in-Err-make_plan.ensures.status) c.plain-in-Err-make_plan.ensures.untold
    (stops _ (standing_of c.make_plan.new.session) _ c.loop-k.invariant.going c.in-Err-make_plan.stop
    c.in-Err-make_plan.ensures.ends c.status_after.ensures.status)

pub returns-in-Err-push_bytes-clause-ends : goal.returns-in-Err-push_bytes-clause-ends
returns-in-Err-push_bytes-clause-ends g c =
    plainly (ap number_of c.plain-in-Err-push_bytes.ensures.status) c.plain-in-Err-push_bytes.ensures.untold
    (tells_no_more _ (standing_of c.make_plan.new.session) _ c.loop-k.invariant.going
    c.in-Ok-make_plan.ensures.ends c.make_plan.ensures.frame.writes)

pub change-requires-clause-on_map : goal.change-requires-clause-on_map
change-requires-clause-on_map g c =
    rw c.make_plan.ensures.world (batch_on_map _ _ _ _ _ c.requires.task.updates.on_map c.batch.ensures.writes
    c.loop-k.invariant.going.after.width c.loop-k.invariant.going.after.height)

pub returns-in-Err-change-clause-ends : goal.returns-in-Err-change-clause-ends
returns-in-Err-change-clause-ends g c =
    plainly (ap number_of c.plain-in-Err-change.ensures.status) c.plain-in-Err-change.ensures.untold
    (tells_no_more _ (standing_of c.make_plan.new.session) _ c.loop-k.invariant.going
    c.in-Ok-make_plan.ensures.ends c.make_plan.ensures.frame.writes)

pub start_at-start-requires-clause-place : goal.start_at-start-requires-clause-place
start_at-start-requires-clause-place g c =
    let w = c.args.world in
    let now = c.change.new.self.world in
    let going = c.loop-k.invariant.going in
    let cells = g.W.Terrain.cells in
    let on : Site _ = site_of g.W.Graph g.W.Terrain g.W.Workspace in
    let others = rw c.make_plan.ensures.world at c.change.ensures.others in
    let written = rw c.make_plan.ensures.world at c.in_default-change.ensures.written in
    let same : now ≡ cells.over w (cells.map now) =
    others ∙ ap (λ v. cells.over v (cells.map now)) going.same
    ∙ c.is_terrain.ensures.law.again w (cells.map c.loop-k.session.world) (cells.map now) in
    let alike = alike_over on g.met.W.Workspace.places_stay w now same in
    let next =
    c.writes_lead_to_the_next_map.ensures.next (cells.map w) (cells.map c.loop-k.session.world) (cells.map now)
    c.args.task.now.updates.now.batches c.loop-k.k _ going.after c.batch.ensures.writes written in
    let here : c.loop-k.k < length c.args.task.now.updates.now.batches =
    (let test = c.loop-k-test.true in let count = c.batches-k-end.ensures.value in omega arith) in
    rw c.world.ensures.value (subst (λ (count : ℕ). IsPlaceOnMap (cells.map now) count c.place_in.result)
    (sym alike.headings) (subst (λ (o : Option Place). IsPlaceOnMap (cells.map now)
    (g.W.Workspace.reporting.headings w) o) (sym c.place_in.ensures.place)
    (move_on_map on w (cells.map now) c.args.task.now.updates.now.batches c.args.task.now.updates.now.moves c.loop-k.k
    c.requires.task.updates.moves here next.width next.height)))

-- the graph after the batch has as many states as before
as_many : (g : _) (c : After-change g) → (g.W.Workspace.reporting.told c.loop-k.session.world).states
    ≡ (g.W.Workspace.reporting.told c.change.new.self.world).states
as_many g c =
    same_told_states g.W.Graph.network g.W.Workspace.reporting.told g.W.Terrain.cells g.met.W.Workspace.same_states
    c.is_terrain.ensures.law _ _ c.loop-k.invariant.going.kept c.change.ensures.kept
    (rw c.make_plan.ensures.world at c.change.ensures.others)

pub start_at-start-requires-clause-start : goal.start_at-start-requires-clause-start
start_at-start-requires-clause-start g c =
    rw c.world.ensures.value (subst (λ (n : ℕ). c.loop-k.start < n)
    (as_many g (goal.at.start_at-start-requires-clause-start g c).After-change) c.loop-k.invariant.inside)

pub returns-in-Err-aim-clause-ends : goal.returns-in-Err-aim-clause-ends
returns-in-Err-aim-clause-ends g c =
    plainly (ap number_of c.plain-in-Err-aim.ensures.status) c.plain-in-Err-aim.ensures.untold
    (tells_no_more _ (standing_of c.make_plan.new.session) _ c.loop-k.invariant.going
    c.in-Ok-make_plan.ensures.ends c.make_plan.ensures.frame.writes)

-- where the next search goes is a state
pub aim-requires : goal.aim-requires
aim-requires g c =
    let now = c.change.new.self.world in
    let back = g.W.Workspace.reporting.back in
    let goal_inside =
    subst (λ (n : ℕ). c.args.task.now.goal < n) (as_many g (goal.at.aim-requires g c).After-change)
    c.loop-k.invariant.goal_inside in
    let inside = rw c.world.ensures.value at c.start_at-start.ensures.inside in
    let there =
    to_inside back c.start_at-start.result c.args.task.now.goal (g.W.Workspace.reporting.told now).states
    inside goal_inside in
    record {
      ready = c.in_default-change.ensures.ready;
      goal =
          subst (λ (t : ℕ). t < (g.W.Graph.network now).states) (sym c.way-from.ensures.to)
          (subst (λ (n : ℕ). to_of back c.start_at-start.result c.args.task.now.goal < n)
          (g.met.W.Workspace.same_states now) there);
    }

pub loop-k-preserved : goal.loop-k-preserved
loop-k-preserved g c =
    let w = c.args.world in
    let updates = c.args.task.now.updates.now in
    let now = c.change.new.self.world in
    let k = c.loop-k.k in
    let going = c.loop-k.invariant.going in
    let cells = g.W.Terrain.cells in
    let on : Site _ = site_of g.W.Graph g.W.Terrain g.W.Workspace in
    let others = rw c.make_plan.ensures.world at c.change.ensures.others in
    let changed = rw c.make_plan.ensures.world at c.in_default-change.ensures in
    let start = rw c.world.ensures.value at c.start_at-start.ensures in
    let same : now ≡ cells.over w (cells.map now) =
    others ∙ ap (λ v. cells.over v (cells.map now)) going.same
    ∙ c.is_terrain.ensures.law.again w (cells.map c.loop-k.session.world) (cells.map now) in
    let alike = alike_over on g.met.W.Workspace.places_stay w now same in
    let here : k < length updates.batches =
    (let test = c.loop-k-test.true in let count = c.batches-k-end.ensures.value in omega arith) in
    let next =
    next_is g.W.Workspace.reporting w now c.args.task.now.start updates.moves k c.loop-k.start c.start_at-start.result
    c.place_in.result (within on w updates.batches updates.moves k c.requires.task.updates.moves here) (sym going.start_is)
    alike c.place_in.ensures.place start.state in
    record {
      going =
          rw c.aim.ensures.world (changes _ (standing_of c.make_plan.new.session) _ going
          c.is_terrain.ensures.law now c.start_at-start.result (standing_of c.change.new.self)
          (standing_of c.aim.new.self) c.batch.result.now c.writes_lead_to_the_next_map.ensures.next
          c.in-Ok-make_plan.ensures.ends c.make_plan.ensures.frame.writes c.in-Ok-make_plan.ensures.set c.batch.ensures.writes
          changed.written others c.change.ensures.kept
          changed.begun c.in_default-change.ensures.same c.change.ensures.counts
          (sym next) (λ still. stays_put g.W.Workspace.reporting now updates.moves k c.loop-k.start c.start_at-start.result
          c.place_in.result (c.requires.task.updates.stays still) c.place_in.ensures.place
          start.state)
          (subst (λ (t : ℕ). IsAimed t (standing_of c.change.new.self) (standing_of c.aim.new.self))
          c.way-from.ensures.to c.in_default-aim.ensures.aimed)
          (c.in_default.ensures.appended ∙ ap (λ (l : List ℕ). c.loop-k.why.items ++ l) c.as_slice.ensures.items));
      ready = c.in_default-aim.ensures.ready;
      inside = rw c.aim.ensures.world start.inside;
      goal_inside =
          rw c.aim.ensures.world (subst (λ (n : ℕ). c.args.task.now.goal < n)
          (as_many g (goal.at.loop-k-preserved g c).After-change) c.loop-k.invariant.goal_inside);
      frame = writes_on _ _ _ _ c.loop-k.invariant.frame c.make_plan.ensures.frame;
      publisher = then_same c.args.live.now c.loop-k.live c.make_plan.new.live c.loop-k.invariant.publisher c.make_plan.ensures.same;
      grown = let was = c.loop-k.invariant.grown in let more = c.make_plan.ensures.grown in omega arith;
    }

pub returns-in-Ok-make_plan-2-clause-ends : goal.returns-in-Ok-make_plan-2-clause-ends
returns-in-Ok-make_plan-2-clause-ends g c =
    tells_last _ (standing_of c.make_plan-2.new.session) _
    (at_last c.batches.result (omega (
      arith,
      c.loop-k-test.false,
      c.loop-k.auto.k-end,
      c.batches-k-end.ensures.value,
      c.batches.ensures.value,
    )) c.loop-k.invariant.going) c.in-Ok-make_plan-2.ensures.ends c.make_plan-2.ensures.frame.writes
    c.batches.ensures.value c.end_plans.ensures.ends c.end_plans.ensures.told

pub returns-in-Ok-make_plan-2-clause-frame : goal.returns-in-Ok-make_plan-2-clause-frame
returns-in-Ok-make_plan-2-clause-frame g c =
    writes_on _ _ _ _ (writes_on _ _ _ _ c.loop-k.invariant.frame c.make_plan-2.ensures.frame)
    (writes_more _ _ _ _ (g.T.Telling.output c.args.telling.now) c.end_plans.ensures.frame)

pub returns-clause-ends : goal.returns-clause-ends
returns-clause-ends g c =
    plainly (ap number_of c.plain-in-Err-make_plan-2.ensures.status) c.plain-in-Err-make_plan-2.ensures.untold
    (stops _ (standing_of c.make_plan-2.new.session) _
    (at_last c.batches.result (omega (
      arith,
      c.loop-k-test.false,
      c.loop-k.auto.k-end,
      c.batches-k-end.ensures.value,
      c.batches.ensures.value,
    )) c.loop-k.invariant.going) c.in-Err-make_plan-2.stop c.in-Err-make_plan-2.ensures.ends
    c.status_after-in-Err-make_plan-2.ensures.status)

pub returns-in-Err-make_plan-clause-frame : goal.returns-in-Err-make_plan-clause-frame
returns-in-Err-make_plan-clause-frame g c = writes_on _ _ _ _ c.loop-k.invariant.frame c.make_plan.ensures.frame

pub returns-in-Err-push_bytes-clause-frame : goal.returns-in-Err-push_bytes-clause-frame
returns-in-Err-push_bytes-clause-frame g c = writes_on _ _ _ _ c.loop-k.invariant.frame c.make_plan.ensures.frame

pub returns-in-Err-change-clause-frame : goal.returns-in-Err-change-clause-frame
returns-in-Err-change-clause-frame g c = writes_on _ _ _ _ c.loop-k.invariant.frame c.make_plan.ensures.frame

pub returns-in-Err-aim-clause-frame : goal.returns-in-Err-aim-clause-frame
returns-in-Err-aim-clause-frame g c = writes_on _ _ _ _ c.loop-k.invariant.frame c.make_plan.ensures.frame

pub returns-clause-frame : goal.returns-clause-frame
returns-clause-frame g c = writes_on _ _ _ _ c.loop-k.invariant.frame c.make_plan-2.ensures.frame
