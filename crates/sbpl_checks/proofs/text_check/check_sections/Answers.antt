use Rattle.std.proofs.Common.{◌≡◌, ◌+◌, ◌-◌, ◌<◌, ℕ, suc, length, Option, sym, ◌∙◌, ap, subst, arith}
use Rattle.sbpl_worlds.specs.sbpl_fixed.Formats.{start_at}
use Rattle.sbpl_worlds.specs.sbpl_promises.Checked.{Case, case_of}
use Rattle.sbpl_worlds.specs.sbpl_cfg.declared.pose.Place.{Place}
use Rattle.sbpl_worlds.specs.sbpl_map.ChangeText.{IsPlaceOnMap}
use Rattle.sbpl_worlds.specs.sbpl_map.MapAfter.{IsMapAfter}
use Rattle.sbpl_checks.specs.Checking.{EndsSections, IsPlanIn}
use Rattle.sbpl_worlds.specs.sbpl_promises.Sites.{Site, WordPlacesAlike, to_of}
use Rattle.sbpl_worlds.specs.sbpl_report.Statuses.{number_of}
use Rattle.sbpl_telling.proofs.Frames.{writes_on}
use Rattle.sbpl_worlds.proofs.Moving.{alike_over, move_on_map, next_is, within}
use Rattle.sbpl_worlds.proofs.OnMaps.{batch_on_map, same_told_states}
use Rattle.sbpl_worlds.proofs.Workspaces.{site_of}
use Rattle.sbpl_checks.proofs.Verifying.{ends_text, goes_on, none_checked, plan_in, runs_out}
use Rattle.sbpl_checks.proofs.text_check.check_sections.Goals as goal
use Rattle.sbpl_checks.proofs.text_check.check_sections.Goals.{After-batches-last, After-write_batch}

pub loop-k-init : goal.loop-k-init
loop-k-init g c =
    none_checked (site_of g.W.Graph g.W.Terrain g.W.Workspace) c.is_terrain.ensures.law c.requires.made
    (c.writes_lead_to_the_next_map.ensures.first _ _) c.requires.kept c.requires.start

-- the map now has as many states as the first
pub check_plan-requires-clause-goal : goal.check_plan-requires-clause-goal
check_plan-requires-clause-goal g c =
    subst (λ (n : ℕ). c.args.goal < n) (same_told_states g.W.Graph.network g.W.Workspace.reporting.told g.W.Terrain.cells
    g.met.W.Workspace.same_states c.is_terrain.ensures.law _ _
    c.requires.kept c.loop-k.invariant.kept c.loop-k.invariant.other_parts) c.requires.goal

pub returns-in-Err-clause-ends : goal.returns-in-Err-clause-ends
returns-in-Err-clause-ends g c =
    let so = c.loop-k.invariant in
    let updates = c.args.updates.now in
    let k = c.loop-k.k in
    let whole : k + (length updates.batches - k) ≡ length updates.batches =
    (let test = c.loop-k-test.true in let count = c.batches-k-end.ensures.value in omega arith) in
    so.leads (length updates.batches - k) whole _ c.in-Err.ending
    (c.in-Err.ensures.ends (case_of (site_of g.W.Graph g.W.Terrain g.W.Workspace) c.args.world.now updates c.args.start c.args.goal)
    (length updates.batches - k) (plan_in so))

pub write_batch-requires : goal.write_batch-requires
write_batch-requires g c = record {
  on_map =
      batch_on_map (g.W.Terrain.cells.map c.args.world.now) (g.W.Terrain.cells.map c.loop-k.world)
      c.args.updates.now.batches c.loop-k.k _ c.requires.updates.1.on_map c.batch.ensures.writes
      c.loop-k.invariant.map_after.width c.loop-k.invariant.map_after.height;
}

-- the map after the batch
after_batch : (g : _) (c : After-write_batch g)
    → IsMapAfter (g.W.Terrain.cells.map c.args.world.now) c.args.updates.now.batches (c.loop-k.k + 1)
    (g.W.Terrain.cells.map c.write_batch.new.world)
after_batch g c =
    let cells = g.W.Terrain.cells in
    c.writes_lead_to_the_next_map.ensures.next (cells.map c.args.world.now) (cells.map c.loop-k.world)
    (cells.map c.write_batch.new.world) c.args.updates.now.batches c.loop-k.k _ c.loop-k.invariant.map_after
    c.batch.ensures.writes
    c.write_batch.ensures.written

-- and the rest is as at first
over_first : (g : _) (c : After-write_batch g)
    → c.write_batch.new.world ≡ g.W.Terrain.cells.over c.args.world.now (g.W.Terrain.cells.map c.write_batch.new.world)
over_first g c =
    let cells = g.W.Terrain.cells in
    c.write_batch.ensures.others
    ∙ ap (λ v. cells.over v (cells.map c.write_batch.new.world)) c.loop-k.invariant.other_parts
    ∙ c.is_terrain.ensures.law.again c.args.world.now (cells.map c.loop-k.world) (cells.map c.write_batch.new.world)

alike_after : (g : _) (c : After-write_batch g)
    → WordPlacesAlike g.W.Workspace.reporting c.args.world.now c.write_batch.new.world
alike_after g c =
    alike_over (site_of g.W.Graph g.W.Terrain g.W.Workspace) g.met.W.Workspace.places_stay c.args.world.now
    c.write_batch.new.world (over_first g c)

-- before the batch the guide was made for the world that the present one is on the old map
made_before : (g : _) (c : After-write_batch g)
    → g.W.Best.Heuristic.is_made_for c.loop-k.guide
    (g.W.Terrain.cells.over c.write_batch.new.world (g.W.Terrain.cells.map c.loop-k.world))
    (to_of g.W.Workspace.reporting.back c.loop-k.start c.args.goal)
made_before g c =
    let cells = g.W.Terrain.cells in
    let old = c.loop-k.world in
    let law = c.is_terrain.ensures.law in
    let back : cells.over c.write_batch.new.world (cells.map old) ≡ old =
    ap (λ v. cells.over v (cells.map old)) c.write_batch.ensures.others
    ∙ law.again old (cells.map c.write_batch.new.world) (cells.map old) ∙ law.present old in
    subst (λ v. g.W.Best.Heuristic.is_made_for c.loop-k.guide v
    (to_of g.W.Workspace.reporting.back c.loop-k.start c.args.goal)) (sym back) c.loop-k.invariant.made

pub rebuild-requires : goal.rebuild-requires
rebuild-requires g c = record {
  made = (
    g.W.Terrain.cells.map c.loop-k.world,
    to_of g.W.Workspace.reporting.back c.loop-k.start c.args.goal,
    made_before g (goal.at.rebuild-requires g c).After-write_batch,
  );
}

-- and then it is made for the present world, and for where the search went
pub aim-requires-clause-made : goal.aim-requires-clause-made
aim-requires-clause-made g c =
    subst (λ (t : ℕ). g.W.Best.Heuristic.is_made_for c.rebuild.new.self c.write_batch.new.world t)
    (sym c.way-from.ensures.to) (c.rebuild.ensures.made (g.W.Terrain.cells.map c.loop-k.world)
    (to_of g.W.Workspace.reporting.back c.loop-k.start c.args.goal)
    (made_before g (goal.at.aim-requires-clause-made g c).After-write_batch))

pub start_at-start-requires-clause-place : goal.start_at-start-requires-clause-place
start_at-start-requires-clause-place g c =
    let at = (goal.at.start_at-start-requires-clause-place g c).After-write_batch in
    let cells = g.W.Terrain.cells in
    let w = c.args.world.now in
    let now = c.write_batch.new.world in
    let moves = c.args.updates.now.moves in
    let next = after_batch g at in
    let here : c.loop-k.k < length c.args.updates.now.batches =
    (let test = c.loop-k-test.true in let count = c.batches-k-end.ensures.value in omega arith) in
    subst (λ (count : ℕ). IsPlaceOnMap (cells.map now) count c.place_in.result) (sym (alike_after g at).headings)
    (subst (λ (o : Option Place). IsPlaceOnMap (cells.map now) (g.W.Workspace.reporting.headings w) o)
    (sym c.place_in.ensures.place)
    (move_on_map (site_of g.W.Graph g.W.Terrain g.W.Workspace) w (cells.map now) c.args.updates.now.batches moves
    c.loop-k.k c.requires.updates.1.moves here next.width next.height))

pub start_at-start-requires-clause-start : goal.start_at-start-requires-clause-start
start_at-start-requires-clause-start g c =
    subst (λ (n : ℕ). c.loop-k.start < n) (same_told_states g.W.Graph.network g.W.Workspace.reporting.told g.W.Terrain.cells
    g.met.W.Workspace.same_states c.is_terrain.ensures.law _ _
    c.loop-k.invariant.kept c.write_batch.ensures.kept c.write_batch.ensures.others) c.loop-k.invariant.state

-- memory ran out while the guide was aimed
pub returns-in-Err-aim-clause-ends : goal.returns-in-Err-aim-clause-ends
returns-in-Err-aim-clause-ends g c =
    let so = c.loop-k.invariant in
    let updates = c.args.updates.now in
    let k = c.loop-k.k in
    let on : Site _ = site_of g.W.Graph g.W.Terrain g.W.Workspace in
    let case : Case on = case_of on c.args.world.now updates c.args.start c.args.goal in
    let left : ℕ = length updates.batches - k in
    let whole : k + left ≡ length updates.batches =
    (let test = c.loop-k-test.true in let count = c.batches-k-end.ensures.value in omega arith) in
    so.leads left whole _ c.plain.result
    (goes_on case c.args.labels.now c.plain.result k left (c.in-Ok.ensures.holds case (plan_in so))
    c.check_plan.ensures.frame.writes
    (runs_out case (k + 1) left _ c.args.labels.now _ c.plain.result (ap number_of c.plain.ensures.status)
    c.plain.ensures.untold))

pub loop-k-preserved : goal.loop-k-preserved
loop-k-preserved g c =
    let at = (goal.at.loop-k-preserved g c).After-write_batch in
    let so = c.loop-k.invariant in
    let w = c.args.world.now in
    let now = c.write_batch.new.world in
    let updates = c.args.updates.now in
    let on : Site _ = site_of g.W.Graph g.W.Terrain g.W.Workspace in
    let k = c.loop-k.k in
    let here : k < length updates.batches =
    (let test = c.loop-k-test.true in let count = c.batches-k-end.ensures.value in omega arith) in
    let case : Case on = case_of on w updates c.args.start c.args.goal in
    record {
      leads = λ more whole after e ends. so.leads (suc more) (let is = whole in omega arith) after e
          (goes_on case c.args.labels.now e k (suc more) (c.in-Ok.ensures.holds case (plan_in so))
          c.check_plan.ensures.frame.writes ends);
      made = subst (λ (t : ℕ). g.W.Best.Heuristic.is_made_for c.aim.new.guide now t) c.way-from-in-loop-k.ensures.to
          c.in_default.ensures.made;
      far = omega (arith, here);
      map_after = after_batch g at;
      other_parts = over_first g at;
      kept = c.write_batch.ensures.kept;
      start_is =
          next_is g.W.Workspace.reporting w now c.args.start updates.moves k c.loop-k.start c.start_at-start.result
          c.place_in.result (within on w updates.batches updates.moves k c.requires.updates.1.moves here) so.start_is
          (alike_after g at) c.place_in.ensures.place c.start_at-start.ensures.state;
      state = c.start_at-start.ensures.inside;
      inside = c.in-Ok.ensures.inside;
      frame = writes_on _ _ _ _ so.frame c.check_plan.ensures.frame;
    }

pub check_plan-requires-2-clause-goal : goal.check_plan-requires-2-clause-goal
check_plan-requires-2-clause-goal g c =
    subst (λ (n : ℕ). c.args.goal < n) (same_told_states g.W.Graph.network g.W.Workspace.reporting.told g.W.Terrain.cells
    g.met.W.Workspace.same_states c.is_terrain.ensures.law _ _
    c.requires.kept c.loop-k.invariant.kept c.loop-k.invariant.other_parts) c.requires.goal

-- the loop ends at the last plan
last_is : (g : _) (c : After-batches-last g) → c.loop-k.k ≡ c.batches-last.result
last_is g c =
    let test = c.loop-k-test.false in
    let count = c.batches-k-end.ensures.value in
    let far = c.loop-k.invariant.far in
    let last = c.batches-last.ensures.value in
    omega arith

pub returns-in-Ok-check_plan-clause-ends : goal.returns-in-Ok-check_plan-clause-ends
returns-in-Ok-check_plan-clause-ends g c =
    let so = c.loop-k.invariant in
    let updates = c.args.updates.now in
    let on : Site _ = site_of g.W.Graph g.W.Terrain g.W.Workspace in
    let case : Case on = case_of on c.args.world.now updates c.args.start c.args.goal in
    let last = last_is g (goal.at.returns-in-Ok-check_plan-clause-ends g c).After-batches-last in
    let count = c.batches-last.ensures.value in
    let plan =
    subst (λ (p : ℕ). IsPlanIn case p c.loop-k.world c.loop-k.start c.args.goal) last
    (plan_in so) in
    so.leads 0 (omega (arith, last, count)) _ _
    (subst (λ (p : ℕ). EndsSections case p 1 (start_at c.args.labels.now.text.now c.loop-k.at) c.args.labels.now
    (g.D.Desk.state c.loop-k.desk) (g.D.Desk.state c.end_sections.new.desk) c.end_sections.result) (sym last)
    (goes_on case c.args.labels.now _ c.batches-last.result 0 (c.in-Ok-check_plan.ensures.holds case plan)
    c.check_plan-2.ensures.frame.writes
    (ends_text case (c.batches-last.result + 1) _ _ _ _ _ c.end_sections.ensures.ends)))

pub returns-in-Err-check_plan-clause-ends : goal.returns-in-Err-check_plan-clause-ends
returns-in-Err-check_plan-clause-ends g c =
    let so = c.loop-k.invariant in
    let updates = c.args.updates.now in
    let on : Site _ = site_of g.W.Graph g.W.Terrain g.W.Workspace in
    let case : Case on = case_of on c.args.world.now updates c.args.start c.args.goal in
    let last = last_is g (goal.at.returns-in-Err-check_plan-clause-ends g c).After-batches-last in
    let count = c.batches-last.ensures.value in
    let plan =
    subst (λ (p : ℕ). IsPlanIn case p c.loop-k.world c.loop-k.start c.args.goal) last
    (plan_in so) in
    so.leads 0 (omega (arith, last, count)) _ _
    (subst (λ (p : ℕ). EndsSections case p 1 (start_at c.args.labels.now.text.now c.loop-k.at) c.args.labels.now
    (g.D.Desk.state c.loop-k.desk) (g.D.Desk.state c.check_plan-2.new.desk) c.in-Err-check_plan.ending) (sym last)
    (c.in-Err-check_plan.ensures.ends case 0 plan))
