-- What a run promises shows the headline.
use Rattle.std.proofs.Common.{◌≡◌, ◌↔◌, ℕ, ℤ, List, [], ◌∷◌, length, map, codes, Option, Some, None, IfSome, unwrap_or}
use Rattle.std.proofs.Common.{refl, sym, ap, subst, ◌∙◌}
use Rattle.std.proofs.lemmas.List.{length-map}
use Rattle.sbpl_promises.specs.sbpl_cfg.Environment.{Environment, IsEnvironment, IsHeadingCount, IsPlaceOf, IsPoseOnMap}
use Rattle.sbpl_promises.specs.sbpl_cfg.declared.pose.Pose.{Pose}
use Rattle.sbpl_promises.specs.sbpl_cost.States.{place_of}
use Rattle.sbpl_promises.specs.sbpl_cost.World.{World, over_map}
use Rattle.sbpl_promises.specs.sbpl_desk.Desk.{DeskState}
use Rattle.sbpl_promises.specs.sbpl_job.Forms.{PartsAreOfForms}
use Rattle.sbpl_promises.specs.sbpl_job.Jobs.{job_of, may_move, pose_by, square_by}
use Rattle.sbpl_promises.specs.sbpl_job.declared.job.Job.TheVariants as job
use Rattle.sbpl_promises.specs.sbpl_job.declared.job.NavJob.{NavJob}
use Rattle.sbpl_promises.specs.sbpl_job.declared.job.PlanJob.{PlanJob}
use Rattle.sbpl_promises.specs.sbpl_job.declared.job.Sources.{Sources}
use Rattle.sbpl_promises.specs.sbpl_map.CellMap.{CellMap, cost_at}
use Rattle.sbpl_promises.specs.sbpl_map.ChangeText.{Given, writes_of}
use Rattle.sbpl_promises.specs.sbpl_map.MapAfter.{IsMapAfter}
use Rattle.sbpl_promises.specs.sbpl_nav2d.Environment.{NavEnvironment}
use Rattle.sbpl_promises.specs.sbpl_nav2d.World.{GridWorld}
use Rattle.sbpl_promises.specs.Texts.{AreOn, posed, posed_on_grid}
use Rattle.sbpl_promises.specs.Causes.{grid_files, grid_scope, plan_files, scope_of}
use Rattle.sbpl_promises.specs.Promises.{AtJob, IsDone, IsReported}
use Rattle.sbpl_promises.specs.Published.{Entry}
use Rattle.sbpl_promises.specs.declared.updates.Updates.{Updates}
use Rattle.sbpl_headline.specs.Files.{IsGiven, said_pose}
use Rattle.sbpl_headline.specs.Grid.{IsGridText, said_square}
use Rattle.sbpl_headline.specs.Headline.{ArePlanned, IsPlanned, IsPlannedOnGrid}
use Rattle.sbpl_headline.specs.Law.{PromisesShowHeadline}
use Rattle.sbpl_headline.specs.Map.{Costs}
use Rattle.sbpl_headline.specs.Motion.{Moves, Starts}
use Rattle.sbpl_headline.specs.Report.{pose_words}
use Rattle.sbpl_headline.specs.Words.{Ask}
use Rattle.sbpl_headline.proofs.Asking.{NoDashes, asked_by, nav_asked, plan_asked}
use Rattle.sbpl_headline.proofs.Ends.{pose_given, square_given}
use Rattle.sbpl_headline.proofs.Changing.{AreUpdatesTold, updates_told, stays}
use Rattle.sbpl_headline.proofs.GridPlans.{plans_on_grid}
use Rattle.sbpl_headline.proofs.LatticePlans.{plans_on_lattice}
use Rattle.sbpl_headline.proofs.LatticePaths.{keeps, report_pose_place}
use Rattle.sbpl_headline.proofs.Mapping.{costs_are}
use Rattle.sbpl_headline.proofs.Places.{place_of_pose}
use Rattle.sbpl_headline.proofs.Reading.{environment_says, grid_says, primitives_say}
use Rattle.sbpl_headline.proofs.Starting.{starts_say}
use Rattle.sbpl_headline.proofs.Told.{lines_of, map_with, square_of}

-- the lines of a change file have as many batches as its updates
as_many : (told : List (List Given)) (c : Updates) → length told ≡ length c.batches
    → length (lines_of told) ≡ length c.batches
as_many told c count = length-map told _ ∙ count

-- the costs of a map after the first batches of map updates are those of the lines
costs_told : (first : CellMap) (told : List (List Given)) (c : Updates) → c.batches ≡ map writes_of told
    → (k : ℕ) (now : CellMap) → IsMapAfter first c.batches k now
    → (x y : ℤ) (cost : ℕ) → (cost_at now x y ≡ Some cost) ↔ Costs (map_with first told k) x y cost
costs_told first told c same k now after =
    costs_are first now told k (subst (λ batches. IsMapAfter first batches k now) same after)

-- where words place an end it is on the map, and where they do not that of the file is
one_on_map : (file : Environment) (given : Option Pose) (own : Pose) → IfSome given (IsPoseOnMap file)
    → IsPoseOnMap file own → IsPoseOnMap file (unwrap_or given own)
one_on_map file None own on own_on = own_on
one_on_map file (Some p) own on own_on = on

ends_on_map : (from : Sources) (file : Environment) → IsEnvironment file → AreOn (IsPoseOnMap file) from.start from.goal
    → IsPoseOnMap (posed from file) (posed from file).start × IsPoseOnMap (posed from file) (posed from file).end
ends_on_map from file good on =
    let start = one_on_map file from.start file.start on.0 good.start_on_map in
    let end = one_on_map file from.goal file.end on.1 good.end_on_map in
    (record { x = start.x; y = start.y }, record { x = end.x; y = end.y })

-- plans on the lattice of these words were made and reported
plan_shown : (rest : List (List ℕ)) (before after : DeskState) (old : List Entry) (p : PlanJob)
    (start goal : Option (List ℕ)) → pose_by start ≡ Some p.sources.start → pose_by goal ≡ Some p.sources.goal
    → Ask rest (p.sources.env ∷ p.sources.prims ∷ []) (asked_by p.changes start goal p.sources.radius p.search)
    → NoDashes p.outputs → IsReported before after old (plan_files p) p.changes p.search p.outputs
    → IsPlanned rest before after
plan_shown rest before after old p start goal start_by goal_by ask away done =
    let planned = done.planned in
    let w : World = planned.world in
    let says = planned.says in
    let moving = may_move p.search.planner in
    let file = says.environment.stands.0 in
    let stands = says.environment.stands.1 in
    let given = says.environment.stands.2 in
    let is : w.env ≡ posed p.sources file = says.environment.stands.3 in
    let ask_of = asked_by p.changes start goal p.sources.radius p.search in
    let many : IsHeadingCount w.env.headings =
    subst (λ (e : Environment). IsHeadingCount e.headings) (sym is) stands.environment.headings in
    let on_map : IsPoseOnMap w.env w.env.start × IsPoseOnMap w.env w.env.end =
    subst (λ (e : Environment). IsPoseOnMap e e.start × IsPoseOnMap e e.end) (sym is)
    (ends_on_map p.sources file stands.environment given) in
    let scope = scope_of p.sources.states moving w in
    let t : AreUpdatesTold before.held p.changes scope planned.updates =
    updates_told before.held p.changes scope planned.updates planned.changes_say in
    let wide : w.map.width ≡ w.env.width = ap (λ (m : CellMap). m.width) says.map in
    let goal_is : IsPlaceOf w.env w.env.end (place_of w.env planned.plans.goal) =
    place_of_pose w.env many w.env.end planned.plans.goal on_map.1 planned.plans.goal_is in
    record {
      env = p.sources.env;
      prims = p.sources.prims;
      asked = ask_of;
      asks = ask;
      file = file;
      environment = w.env;
      posed = subst (λ (e : Environment). e ≡ record file { start = e.start; end = e.end }) (sym is) refl;
      start_is = subst (λ (e : Environment). IsGiven said_pose start file.start e.start) (sym is)
          (pose_given start file.start p.sources.start start_by);
      end_is = subst (λ (e : Environment). IsGiven said_pose goal file.end e.end) (sym is)
          (pose_given goal file.end p.sources.goal goal_by);
      primitives = w.prims.items;
      map = map_with w.map t.told 0;
      size = (wide, ap (λ (m : CellMap). m.height) says.map);
      environment_read = (
        says.environment.text,
        says.environment.read.told,
        rw says.map (environment_says p.sources.states says.environment.text file says.cells stands),
      );
      primitives_read = (
        says.primitives.text,
        says.primitives.read.told,
        primitives_say w.env says.primitives.text w.prims says.primitives.stands,
      );
      goal = place_of w.env planned.plans.goal;
      goal_is = goal_is;
      plans =
          subst (λ (r : ℕ). ArePlanned (Moves w.env w.prims.items r) (Starts w.env) pose_words
          (place_of w.env planned.plans.goal) ask_of (map_with w.map t.told 0)
          before after) says.sweeps.radius_is
          (plans_on_lattice report_pose_place (λ q. refl) w planned.updates t.told (as_many t.told planned.updates t.count)
          (costs_told w.map t.told planned.updates t.batches) p.search p.outputs done.records old [] planned.plans
          ask_of refl refl (place_of w.env planned.plans.goal) refl
          (λ now m is_world has costs. keeps (over_map w now) is_world m costs has)
          (λ k. starts_say before.held p.changes p.sources.states moving w planned.updates t w.map planned.plans.start k many
          on_map.0 wide planned.plans.start_is)
          before after away done.report t.says);
    }

-- plans on the grid of these words were made and reported
nav_shown : (rest : List (List ℕ)) (before after : DeskState) (old : List Entry) (n : NavJob)
    (start goal : Option (List ℕ)) → square_by n.sources.states start ≡ Some n.sources.start
    → square_by n.sources.states goal ≡ Some n.sources.goal
    → Ask rest (n.sources.env ∷ []) (asked_by n.changes start goal 0 n.search) → NoDashes n.outputs
    → IsReported before after old (grid_files n.sources) n.changes n.search n.outputs → IsPlannedOnGrid rest before after
nav_shown rest before after old n start goal start_by goal_by ask away done =
    let planned = done.planned in
    let w : GridWorld = planned.world in
    let says = planned.says in
    let scope = grid_scope n.sources.states w in
    let t : AreUpdatesTold before.held n.changes scope planned.updates =
    updates_told before.held n.changes scope planned.updates planned.changes_say in
    let wide : w.map.width ≡ w.env.width = ap (λ (m : CellMap). m.width) says.map in
    let high : w.map.height ≡ w.env.height = ap (λ (m : CellMap). m.height) says.map in
    let costs : w.map.costs ≡ says.cells = ap (λ (m : CellMap). m.costs) says.map in
    let file = says.stands.0 in
    let stands = says.stands.1 in
    let given = says.stands.2 in
    let is : w.env ≡ posed_on_grid n.sources file = says.stands.3 in
    let ask_of = asked_by n.changes start goal 0 n.search in
    record {
      env = n.sources.env;
      asked = ask_of;
      asks = ask;
      obsthresh = w.env.obsthresh;
      file_start = square_of file.width file.start;
      file_end = square_of file.width file.end;
      map = map_with w.map t.told 0;
      environment_read = (
        says.text,
        says.read.told,
        subst (λ (e : NavEnvironment). IsGridText e.obsthresh (square_of file.width file.start)
            (square_of file.width file.end) (map_with w.map t.told 0) says.text) (sym is)
            (grid_says n.sources.states says.text file w.map t.told 0 (rw costs stands) (wide ∙ ap (λ (e : NavEnvironment). e.width) is)
            (high ∙ ap (λ (e : NavEnvironment). e.height) is)),
      );
      start = square_of w.env.width w.env.start;
      start_is = subst (λ (e : NavEnvironment). IsGiven said_square start (square_of file.width file.start)
          (square_of e.width e.start)) (sym is)
          (square_given file n.sources.states start file.start n.sources.start given.0 start_by);
      goal = square_of w.env.width w.env.end;
      goal_is = subst (λ (e : NavEnvironment). IsGiven said_square goal (square_of file.width file.end)
          (square_of e.width e.end)) (sym is)
          (square_given file n.sources.states goal file.end n.sources.goal given.1 goal_by);
      plans = plans_on_grid w wide high planned.updates
          (stays before.held n.changes scope planned.updates t refl) t.told
          (as_many t.told planned.updates t.count) (costs_told w.map t.told planned.updates t.batches) n.search n.outputs
          done.records old [] planned.plans ask_of refl refl before after away done.report
          t.says;
    }

-- the job of `plan` that was done
plan_done : PartsAreOfForms → (rest : List (List ℕ)) (before after : DeskState) (old : List Entry)
    → AtJob (job_of (codes "plan" ∷ rest)) (IsDone before after old) → IsPlanned rest before after
plan_done forms rest before after old at =
    let asked = plan_asked forms rest at.0 at.1 in
    let done : IsDone before after old (job.Plan asked.0) = subst (IsDone before after old) asked.3 at.2 in
    plan_shown rest before after old asked.0 asked.1 asked.2 asked.4 asked.5 asked.6 asked.7 done

-- the job of `nav` that was done
nav_done : PartsAreOfForms → (rest : List (List ℕ)) (before after : DeskState) (old : List Entry)
    → AtJob (job_of (codes "nav" ∷ rest)) (IsDone before after old) → IsPlannedOnGrid rest before after
nav_done forms rest before after old at =
    let asked = nav_asked forms rest at.0 at.1 in
    let done : IsDone before after old (job.Nav asked.0) = subst (IsDone before after old) asked.3 at.2 in
    nav_shown rest before after old asked.0 asked.1 asked.2 asked.4 asked.5 asked.6 asked.7 done

-- what a run promises shows the headline
pub headline_shown : PartsAreOfForms → PromisesShowHeadline
headline_shown forms words before after old new status promises = record {
  plan = λ rest is zero.
      plan_done forms rest before after old
      (subst (λ ws. AtJob (job_of ws) (IsDone before after old)) is (promises.done zero));
  nav = λ rest is zero.
      nav_done forms rest before after old
      (subst (λ ws. AtJob (job_of ws) (IsDone before after old)) is (promises.done zero));
}
