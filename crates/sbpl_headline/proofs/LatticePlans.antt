-- The plans that were made on a lattice, and whose report was written, are told as the headline says.
use Rattle.std.proofs.Common.{◌≡◌, ◌↔◌, ℕ, ℤ, Bool, List, [], length, true, Some, MatchOption, sym, ap, subst, ◌∙◌}
use Rattle.sbpl_promises.specs.sbpl_cfg.declared.pose.Place.{Place}
use Rattle.sbpl_promises.specs.sbpl_cost.Arc.{HasLatticeArcs}
use Rattle.sbpl_promises.specs.sbpl_cost.Lattices.{network_of}
use Rattle.sbpl_promises.specs.sbpl_cost.States.{place_of}
use Rattle.sbpl_promises.specs.sbpl_cost.World.{IsWorld, World, over_map}
use Rattle.sbpl_promises.specs.sbpl_desk.Desk.{DeskState}
use Rattle.sbpl_promises.specs.sbpl_job.declared.job.Outputs.{Outputs}
use Rattle.sbpl_promises.specs.sbpl_job.Jobs.{may_move}
use Rattle.sbpl_promises.specs.sbpl_job.declared.job.SearchJob.{SearchJob}
use Rattle.sbpl_promises.specs.sbpl_map.CellMap.{CellMap, cost_at}
use Rattle.sbpl_promises.specs.sbpl_map.ChangeText.{Given}
use Rattle.sbpl_promises.specs.sbpl_map.MapAfter.{IsMapAfter}
use Rattle.sbpl_promises.specs.sbpl_plan.declared.found.Found.{Found}
use Rattle.sbpl_promises.specs.sbpl_report.declared.record.PlanRecord.{PlanRecord}
use Rattle.sbpl_promises.specs.sbpl_report.declared.record.ReportPose.{ReportPose}
use Rattle.sbpl_promises.specs.sbpl_report.declared.record.ReportPose.TheVariants as report_pose
use Rattle.sbpl_promises.specs.Asked.{planner_for}
use Rattle.sbpl_promises.specs.Headline.{ArePlans, KeepsPromises}
use Rattle.sbpl_promises.specs.Intents.{plans_writes}
use Rattle.sbpl_promises.specs.LatticeSite.{lattice_site, lattice_reporting}
use Rattle.sbpl_promises.specs.Published.{Entry}
use Rattle.sbpl_promises.specs.Sites.{searched_on, start_after}
use Rattle.sbpl_promises.specs.Writing.{AreAppended}
use Rattle.sbpl_promises.specs.declared.updates.Updates.{Updates}
use Rattle.sbpl_headline.specs.Files.{IsChangeText}
use Rattle.sbpl_headline.specs.Headline.{ArePlanned, Read}
use Rattle.sbpl_headline.specs.Map.{Costs, Map}
use Rattle.sbpl_headline.specs.Motion.{Starts}
use Rattle.sbpl_headline.proofs.Moving.{moves_of}
use Rattle.sbpl_headline.specs.Path.{Keeps, Plan}
use Rattle.sbpl_headline.specs.Report.{pose_words}
use Rattle.sbpl_headline.specs.Words.{Asked}
use Rattle.sbpl_headline.proofs.Planning.{IsShown, plans_are_shown}
use Rattle.sbpl_headline.proofs.Plans.{told_plan}
use Rattle.sbpl_headline.proofs.Asking.{NoDashes}
use Rattle.sbpl_headline.proofs.Printing.{some_pose}
use Rattle.sbpl_headline.proofs.Records.{IsToldPlan, records_on_lattice}
use Rattle.sbpl_headline.proofs.Steps.{told_result}
use Rattle.sbpl_headline.proofs.Told.{lines_of, map_with}

-- on each map of a world's size what is promised of a plan is kept in the motions of a lattice
abbrev pub PromisesAreKept : (ReportPose → Place) → World → Type 0
PromisesAreKept at w =
    (now : CellMap) (m : Map) → IsWorld (over_map w now) → HasLatticeArcs (network_of (over_map w now)) (over_map w now)
    → ((x y : ℤ) (c : ℕ) → (cost_at now x y ≡ Some c) ↔ Costs m x y c)
    → (back : Bool) (start goal asked : ℕ) (r : PlanRecord)
    → KeepsPromises (searched_on lattice_site back) (over_map w now) start goal asked r
    → Keeps (moves_of w m) (place_of w.env start) (place_of w.env goal) asked r.spent (told_result at r.outcome)

module _ (at : ReportPose → Place) (poses : (q : Place) → at (report_pose.Pose q) ≡ q) (w : World) (updates : Updates)
    (told : List (List Given)) (many : length (lines_of told) ≡ length updates.batches)
    (costs : (k : ℕ) (now : CellMap) → IsMapAfter w.map updates.batches k now
    → (x y : ℤ) (c : ℕ) → (cost_at now x y ≡ Some c) ↔ Costs (map_with w.map told k) x y c)
    (how : SearchJob) (outputs : Outputs) (records : List PlanRecord) (log : List Entry) (broken : List Found)
    (plans : ArePlans lattice_site w updates how outputs records true log broken) (asked : Asked)
    (bound : how.bound ≡ asked.bound) (budget : how.budget ≡ asked.budget) (goal : Place)
    (goal_is : place_of w.env plans.goal ≡ goal) (promises : PromisesAreKept at w)
    (starts : (k : ℕ) → Starts w.env (map_with w.map told k)
    (place_of w.env (start_after lattice_reporting w plans.start updates.moves k))) where
  -- the place from which plan k goes
  abbrev from : ℕ → Place
  from k = place_of w.env (start_after lattice_reporting w plans.start updates.moves k)

  -- as its report pose tells it
  abbrev places : ℕ → Place
  places k = at (report_pose.Pose (from k))

  -- on the map after k batches the promises of a plan are kept from this place to that one, within a bound
  abbrev Kept : ℕ → (start goal : Place) → (bound : ℕ) → Plan Place → Type 0
  Kept k start goal bound p = Keeps (moves_of w (map_with w.map told k)) start goal bound p.spent p.result

  -- a plan on the lattice starts and keeps its promises as the headline says
  lattice_plan_shown : (k : ℕ) (p : Plan Place)
      → IsToldPlan at places (planner_for lattice_site how.planner) w updates.batches how outputs
      (start_after lattice_reporting w plans.start updates.moves) plans.goal k p
      → IsShown (moves_of w) (Starts w.env) goal asked (map_with w.map told k) p
  lattice_plan_shown k p is =
      let made : Plan Place = told_plan at (places k) is.made in
      let starts_at : from k ≡ p.start = sym (poses (from k)) ∙ ap (λ (q : Plan Place). q.start) is.told in
      let kept : Kept k (from k) (place_of w.env plans.goal) how.bound made =
      promises is.carried.map (map_with w.map told k) is.plan.is_world is.plan.arcs.arcs
      (costs k is.carried.map is.map_is) (may_move how.planner) (start_after lattice_reporting w plans.start updates.moves k) plans.goal how.bound
      is.made is.plan.promises in
      let there : Kept k (from k) goal how.bound made =
      subst (λ (q : Place). Kept k (from k) q how.bound made) goal_is kept in
      let within : Kept k (from k) goal asked.bound made =
      subst (λ (b : ℕ). Kept k (from k) goal b made) bound there in
      let here : Kept k p.start goal asked.bound made =
      subst (λ (q : Place). Kept k q goal asked.bound made) starts_at within in (
        subst (Starts w.env (map_with w.map told k)) starts_at (starts k),
        subst (Kept k p.start goal asked.bound) is.told here,
      )

  -- the plans on a lattice are those of the headline
  pub plans_on_lattice : (before after : DeskState) → NoDashes outputs
      → AreAppended before after (plans_writes outputs records true)
      → MatchOption asked.changes (lines_of told ≡ []) (λ name. Read before.held name (IsChangeText (lines_of told)))
      → ArePlanned (moves_of w) (Starts w.env) pose_words goal asked (map_with w.map told 0) before after
  plans_on_lattice before after away written changes =
      plans_are_shown at pose_words some_pose places (moves_of w) (Starts w.env) goal asked (map_with w.map told 0)
      (lines_of told) lattice_site w updates how outputs records log broken plans before after away written changes many
      budget (records_on_lattice at poses how.planner w updates.batches how outputs
      (start_after lattice_reporting w plans.start updates.moves) plans.goal records log plans.each)
      lattice_plan_shown
