-- The plans of a job, from how its planning ends.
use Rattle.std.proofs.Common.{◌≡◌, ℕ, ◌+◌, ◌∙◌, Bool, List, [], Option, None, Some, IfSome, length, ap, subst, sym, arith}
use Rattle.sbpl_checks.specs.sbpl_job.declared.job.Outputs.{Outputs}
use Rattle.sbpl_checks.specs.sbpl_job.declared.job.SearchJob.{SearchJob}
use Rattle.sbpl_checks.specs.sbpl_job.Jobs.{may_move}
use Rattle.sbpl_checks.specs.sbpl_promises.Asked.{planner_for, planner_as_is}
use Rattle.sbpl_checks.specs.sbpl_promises.Causes.{AreMovesIn, AreUpdatesIn}
use Rattle.sbpl_checks.specs.sbpl_promises.Headline.{ArePlans, IsBrokenIn, NoPlan}
use Rattle.sbpl_checks.specs.sbpl_promises.Promises.{EndsPlans}
use Rattle.sbpl_checks.specs.sbpl_promises.Published.{Entry, with_paths, with_plans}
use Rattle.sbpl_checks.specs.sbpl_promises.Sites.{Site, searched_on, start_after}
use Rattle.sbpl_checks.specs.sbpl_promises.Writing.{DeskState, Write}
use Rattle.sbpl_checks.specs.sbpl_promises.declared.updates.Updates.{Updates}
use Rattle.sbpl_checks.specs.sbpl_report.declared.record.PlanRecord.{PlanRecord}

-- where the planner searches a site this way, its plans there are plans on the site
pub as_told : {W : Type 0} (on : Site W) {written_of : PlanRecord → List Write} {told_of : PlanRecord → List ℕ} {w : W}
    {batches : _} {how : SearchJob} {outputs : Outputs} {starts : ℕ → ℕ} {goal : ℕ}
    {log shown : List Entry} {why : List ℕ} {a b : DeskState} {status : ℕ}
    (back : Bool) → may_move how.planner ≡ back
    → EndsPlans (planner_as_is (searched_on on back) how.planner) written_of told_of w batches how outputs starts goal 0 log shown [] why NoPlan a b status
    → EndsPlans (planner_for on how.planner) written_of told_of w batches how outputs starts goal 0 log shown [] why NoPlan a b status
as_told {W} on {written_of} {told_of} {w} {batches} {how} {outputs} {starts} {goal} {log} {shown} {why} {a} {b} {status} back is ends =
    subst (λ (x : Bool). EndsPlans (planner_as_is (searched_on on x) how.planner) written_of told_of w batches how outputs starts goal 0
    log shown [] why NoPlan a b status) (sym is) ends

-- plans that begin on the map as it is, with nothing planned before
module _ {W : Type 0} (on : Site W) {written_of : PlanRecord → List Write} {told_of : PlanRecord → List ℕ} {w : W} {how : SearchJob} {outputs : Outputs}
    {goal : ℕ} {log shown : List Entry} {why : List ℕ} {a b : DeskState} {status : ℕ} (updates : Updates) (start : ℕ)
    (e : EndsPlans (planner_for on how.planner) written_of told_of w updates.batches how outputs
    (start_after on.reporting w start updates.moves) goal 0 log shown [] why NoPlan a b status) where
  count : 0 + length e.records ≡ length e.records
  count = omega arith

  pub all_shown : shown ≡ with_paths (with_plans log e.records) (length e.records) 0 e.broken
  all_shown = e.shown_is ∙ ap (λ (n : ℕ). with_paths (with_plans log e.records) n 0 e.broken) count

  pub planned : on.reporting.starts w start → on.reporting.ends w goal
      → ArePlans on w updates how outputs e.records e.all log e.broken
  planned start_is goal_is = record {
    start = start;
    goal = goal;
    start_is = start_is;
    goal_is = goal_is;
    each = e.each;
    broken_in =
        subst (λ (n : ℕ). IsBrokenIn (planner_for on how.planner) w updates.batches how outputs
        (start_after on.reporting w start updates.moves) goal n e.broken) count e.broken_in;
    none_broken = e.none_broken;
    few = let made = e.few in omega arith;
    all_made = λ is. let made = e.all_made is in omega arith;
  }

-- ---- map updates on a site that is searched the other way round

moves_on : {W : Type 0} (on : Site W) (back : Bool) (w : W) (batches : _) (moves : Option _)
    → IfSome moves (AreMovesIn on w batches) → IfSome moves (AreMovesIn (searched_on on back) w batches)
moves_on on back w batches None are = tt
moves_on on back w batches (Some l) are = record { places = are.places; each = are.each }

-- they are map updates on the site
pub updates_on : {W : Type 0} (on : Site W) (back moving wanted : Bool) (w : W) (updates : Updates) → moving ≡ wanted
    → AreUpdatesIn on moving w updates → AreUpdatesIn (searched_on on back) wanted w updates
updates_on on back moving wanted w updates same is = record {
  on_map = is.on_map;
  moves = moves_on on back w updates.batches updates.moves is.moves;
  stays = λ still. is.stays (same ∙ still);
}
