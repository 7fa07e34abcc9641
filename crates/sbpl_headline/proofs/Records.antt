-- The records of plans at a site are told: each has its number, and the report poses of its path are those of states.
use Rattle.std.proofs.Common.{◌≡◌, ℕ, zero, suc, ◌+◌, List, [], ◌∷◌, Option, Some, None, slice_get}
use Rattle.std.proofs.Common.{refl, sym, ap, subst, ◌∙◌, add-one, add-zero, zero-add, arith}
use Rattle.std.proofs.lemmas.Option.{same_Some}
use Rattle.sbpl_promises.specs.sbpl_cfg.declared.pose.Place.{Place}
use Rattle.sbpl_promises.specs.sbpl_cost.States.{place_of}
use Rattle.sbpl_promises.specs.sbpl_cost.World.{World}
use Rattle.sbpl_promises.specs.sbpl_map.CellMap.{CellMap}
use Rattle.sbpl_promises.specs.sbpl_map.MapAfter.{IsMapAfter}
use Rattle.sbpl_promises.specs.sbpl_map.declared.write.Write.{Write}
use Rattle.sbpl_promises.specs.sbpl_nav2d.World.{GridWorld}
use Rattle.sbpl_promises.specs.sbpl_job.declared.job.Outputs.{Outputs}
use Rattle.sbpl_promises.specs.sbpl_job.declared.job.Planner.{Planner}
use Rattle.sbpl_promises.specs.sbpl_job.declared.job.SearchJob.{SearchJob}
use Rattle.sbpl_promises.specs.sbpl_plan.declared.result.PlanResult.{PlanResult}
use Rattle.sbpl_promises.specs.sbpl_plan.declared.result.PlanResult.TheVariants as outcome
use Rattle.sbpl_promises.specs.sbpl_report.declared.record.PathRecord.{PathRecord}
use Rattle.sbpl_promises.specs.sbpl_report.declared.record.PathStep.{PathStep}
use Rattle.sbpl_promises.specs.sbpl_report.declared.record.PlanRecord.{PlanRecord}
use Rattle.sbpl_promises.specs.sbpl_report.declared.record.ReportPose.{ReportPose}
use Rattle.sbpl_promises.specs.sbpl_report.declared.record.ReportPose.TheVariants as report_pose
use Rattle.sbpl_promises.specs.Asked.{PlannerOn, planner_for}
use Rattle.sbpl_promises.specs.GridSite.{grid_site}
use Rattle.sbpl_promises.specs.Headline.{AreRecords, AreSteps, Before, Carried, Changed, IsPlanOf, Joins, NoPlan}
use Rattle.sbpl_promises.specs.LatticeSite.{lattice_site}
use Rattle.sbpl_promises.specs.Published.{Entry, with_plan}
use Rattle.sbpl_headline.specs.Path.{Plan}
use Rattle.sbpl_headline.specs.Report.{pose_words, square_words}
use Rattle.sbpl_headline.proofs.Plans.{square_at, told_plan, told_plans}
use Rattle.sbpl_headline.proofs.Printing.{AreRecordsTold, AreReportPosesTold, IsResultTold, IsReportPoseTold}
use Rattle.sbpl_headline.proofs.Printing.{pose_line, square_line}
use Rattle.sbpl_headline.proofs.Told.{square_of}

module _ {P W : Type 0} (at : ReportPose → P) (places : ℕ → P) (by : PlannerOn W) (w : W) (batches : List (List Write))
    (how : SearchJob) (outputs : Outputs) (starts : ℕ → ℕ) (goal : ℕ) where
  -- a plan at a site, told: of this record, made on the map after k batches, as plan k
  pub record IsToldPlan (k : ℕ) (p : Plan P) : Type 0 where
    pub made : PlanRecord
    pub log : List Entry
    pub before : Before
    pub carried : Carried
    pub map_is : IsMapAfter (by.on.cells.map w) batches k carried.map
    pub plan : IsPlanOf by (by.on.cells.over w carried.map) how outputs (starts k) goal k log before carried made
    pub told : told_plan at (places k) made ≡ p

  -- the plan at a place of the told ones, of plans from plan k on
  plan_from : (records : List PlanRecord) (k : ℕ) (log : List Entry) (before : Before)
      → AreRecords by w batches how outputs starts goal k log before records
      → (j : ℕ) (p : Plan P) → slice_get (told_plans at places k records) j ≡ Some p
      → IsToldPlan (k + j) p
  plan_from [] k log before each j p here = absurd cc
  plan_from (r ∷ rs) k log before (carried, map_is, plan, each) zero p here =
      subst (λ (i : ℕ). IsToldPlan i p) (sym (add-zero k)) (record {
        made = r;
        log = log;
        before = before;
        carried = carried;
        map_is = map_is;
        plan = plan;
        told = same_Some _ p here;
      })
  plan_from (r ∷ rs) k log before (carried, map_is, plan, each) (suc j) p here =
      let next =
      subst (λ (i : ℕ). AreRecords by w batches how outputs starts goal i (with_plan log r) (Changed carried) rs)
      (add-one k) each in
      let number : suc k + j ≡ k + suc j = omega arith in
      subst (λ (i : ℕ). IsToldPlan i p) number
      (plan_from rs (suc k) (with_plan log r) (Changed carried) next j p here)

  -- the plan at a place of the told ones, of all plans
  pub plan_at : (records : List PlanRecord) (log : List Entry)
      → AreRecords by w batches how outputs starts goal 0 log NoPlan records
      → (k : ℕ) (p : Plan P) → slice_get (told_plans at places 0 records) k ≡ Some p
      → IsToldPlan k p
  plan_at records log each k p here =
      subst (λ (i : ℕ). IsToldPlan i p) (zero-add k)
      (plan_from records 0 log NoPlan each k p here)

module _ {P W : Type 0} (at : ReportPose → P) (words : P → List (List ℕ)) (by : PlannerOn W) (w : W)
    (same : (m : CellMap) (s : ℕ) → by.on.reporting.report_pose (by.on.cells.over w m) s ≡ by.on.reporting.report_pose w s)
    (report_pose_told : (v : W) (s : ℕ) → IsReportPoseTold at words (by.on.reporting.report_pose v s))
    (step_told : (v : W) (s k t : ℕ) (step : PathStep) → by.on.reporting.step v s k t step
    → IsReportPoseTold at words step.report_pose) where
  -- the report poses of steps
  report_poses_told : (v : W) (s : ℕ) (arcs : List ℕ) (steps : List PathStep) → AreSteps by.on v s arcs steps
      → AreReportPosesTold at words steps
  report_poses_told v s [] [] are = tt
  report_poses_told v s [] (x ∷ xs) are = absurd are
  report_poses_told v s (k ∷ ks) [] are = absurd are
  report_poses_told v s (k ∷ ks) (x ∷ xs) (t, head, step, steps) = (step_told v s k t x step, report_poses_told v t ks xs steps)

  -- the report poses of a result
  result_told : (v : W) (start goal : ℕ) (place : P) (o : PlanResult PathRecord) → at (by.on.reporting.report_pose v start) ≡ place
      → Joins by.on v start goal o → IsResultTold at words place o
  result_told v start goal place (outcome.Path path) is joins = (
    ap at joins.from ∙ is,
    subst (IsReportPoseTold at words) (sym joins.from) (report_pose_told v start),
    report_poses_told v start path.arcs path.steps joins.steps,
  )
  result_told v start goal place outcome.NoPath is joins = tt
  result_told v start goal place outcome.Unknown is joins = tt

  -- the records of plans
  pub records_told : (batches : List (List Write)) (how : SearchJob) (outputs : Outputs) (starts : ℕ → ℕ) (goal : ℕ)
      (records : List PlanRecord) (k : ℕ) (log : List Entry) (before : Before)
      → AreRecords by w batches how outputs starts goal k log before records
      → AreRecordsTold at words (λ j. at (by.on.reporting.report_pose w (starts j))) k records
  records_told batches how outputs starts goal [] k log before each = tt
  records_told batches how outputs starts goal (r ∷ rs) k log before (carried, map_is, plan, each) =
      let v : W = by.on.cells.over w carried.map in
      let next =
      subst (λ (i : ℕ). AreRecords by w batches how outputs starts goal i (with_plan log r) (Changed carried) rs)
      (add-one k) each in (
        plan.number,
        result_told v (starts k) goal _ r.outcome (ap at (same carried.map (starts k))) plan.promises.joins,
        records_told batches how outputs starts goal rs (suc k) (with_plan log r) (Changed carried) next,
      )

-- ---- a grid, and a lattice

-- the records of plans on a grid are told by their squares
pub records_on_grid : (p : Planner) (w : GridWorld) (batches : List (List Write)) (how : SearchJob) (outputs : Outputs)
    (starts : ℕ → ℕ) (goal : ℕ) (records : List PlanRecord) (log : List Entry)
    → AreRecords (planner_for grid_site p) w batches how outputs starts goal 0 log NoPlan records
    → AreRecordsTold square_at square_words (λ j. square_of w.env.width (starts j)) 0 records
records_on_grid p w batches how outputs starts goal records log each =
    records_told square_at square_words (planner_for grid_site p) w (λ m s. refl) (λ v s. square_line _ _)
    (λ v s k t step is. subst (IsReportPoseTold square_at square_words) (sym is.report_pose) (square_line _ _))
    batches how outputs starts goal records 0 log NoPlan each

-- and those of plans on a lattice by their places, where a pose stands for its own
pub records_on_lattice : (at : ReportPose → Place) → ((q : Place) → at (report_pose.Pose q) ≡ q)
    → (p : Planner) (w : World) (batches : List (List Write)) (how : SearchJob) (outputs : Outputs)
    (starts : ℕ → ℕ) (goal : ℕ) (records : List PlanRecord) (log : List Entry)
    → AreRecords (planner_for lattice_site p) w batches how outputs starts goal 0 log NoPlan records
    → AreRecordsTold at pose_words (λ j. at (report_pose.Pose (place_of w.env (starts j)))) 0 records
records_on_lattice at poses p w batches how outputs starts goal records log each =
    records_told at pose_words (planner_for lattice_site p) w (λ m s. refl) (λ v s. pose_line at poses (place_of v.env s))
    (λ v s k t step is. subst (IsReportPoseTold at pose_words) (sym is.report_pose) (pose_line at poses (place_of v.env t)))
    batches how outputs starts goal records 0 log NoPlan each
