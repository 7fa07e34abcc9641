-- How plans go on from one to the next while they are made and told.
use Rattle.std.specs.Prelude.{◌≡◌, ℕ, ◌⊎◌, List, [], Result, Ok, Err}
use Rattle.sbpl_worlds.specs.sbpl_desk.declared.desk.WriteStop.{WriteStop}
use Rattle.sbpl_worlds.specs.sbpl_desk.declared.desk.WriteStop.TheVariants.{NoMemory}
use Rattle.sbpl_worlds.specs.sbpl_map.CellMap.{CellMap}
use Rattle.sbpl_worlds.specs.sbpl_job.declared.job.Outputs.{Outputs}
use Rattle.sbpl_worlds.specs.sbpl_job.declared.job.SearchJob.{SearchJob}
use Rattle.sbpl_worlds.specs.sbpl_replan.Replanning.{GoesBetween, Standing}
use Rattle.sbpl_worlds.specs.sbpl_report.declared.record.PlanRecord.{PlanRecord}
use Rattle.sbpl_worlds.specs.sbpl_labels.Marks.{AreInitial}
use Rattle.sbpl_worlds.specs.sbpl_search.Meaning.{Meaning}
use Rattle.sbpl_worlds.specs.sbpl_search.Ready.{IsStartFresh}
use Rattle.sbpl_worlds.specs.sbpl_search.State.{State}
use Rattle.sbpl_worlds.specs.sbpl_promises.Asked.{PlannerOn, workers_of}
use Rattle.sbpl_worlds.specs.sbpl_promises.Sites.{Site, from_on, to_on}
use Rattle.sbpl_worlds.specs.sbpl_plan.declared.found.Found.{Found}
use Rattle.sbpl_worlds.specs.sbpl_promises.Headline.{Before, Begins, Carried, IsBrokenOff, IsPlanOf, expanded_before}
use Rattle.sbpl_worlds.specs.sbpl_promises.Published.{Entry, with_paths, with_plan}
use Rattle.sbpl_worlds.specs.sbpl_promises.Writing.{AreAppended, DeskState, EndsIn, Stays, Write}

-- a search that has made no pass yet, in a world of a site, for plans from the start to the goal, with as many workers as are
-- asked for
pub record IsNewSearch {Action W : Type 0} (means : Meaning Action) (on : Site W) (w : W) (how : SearchJob) (start goal : ℕ)
    (s : State Action) : Type 0 where
  pub initial : AreInitial s.labels (on.network w).states (from_on on start goal)
  pub none_raised : s.raised ≡ []
  pub ready : means.ready (on.network w) s.labels 0
  pub to_goal : s.goal ≡ to_on on start goal
  pub workers_are : s.workers ≡ workers_of how
  pub fresh : IsStartFresh s.labels

-- plans on a site are searched between the start and the goal, by as many workers and with the budget that are asked for
pub record IsSetFor {Action W : Type 0} (on : Site W) (how : SearchJob) (start goal : ℕ) (s : Standing Action) : Type 0 where
  pub between : GoesBetween (from_on on start goal) (to_on on start goal) s
  pub workers_are : s.search.workers ≡ workers_of how
  pub budget_is : s.counts.per_plan ≡ how.budget

-- what the last plan on a map leaves to the next
abbrev pub carried_of : {Action : Type 0} → CellMap → Standing Action → Carried
carried_of m s = record { map = m; labels = s.search.labels; expanded = s.counts.run }

-- the next plan in a world, from the start to the goal, goes on from the plans before it
pub record GoesOnFrom {Action W : Type 0} (means : Meaning Action) (on : Site W) (w : W) (start goal : ℕ)
    (before : Before) (s : Standing Action) : Type 0 where
  pub begins : Begins means on w (from_on on start goal) before s.search.labels s.search.raised
  pub counted : expanded_before before ≡ s.counts.run

-- the record of plan k in a world, and what was published before it and after
pub record IsPublishedPlan {W : Type 0} (by : PlannerOn W) (w : W) (how : SearchJob) (outputs : Outputs) (start goal k : ℕ) (log shown : List Entry) (before : Before) (carried : Carried) (r : PlanRecord) : Type 0 where
  pub plan : IsPlanOf by w how outputs start goal k log before carried r
  pub shown_is : shown ≡ with_plan log r

-- memory ran out in plan k in a world, and the paths that its passes so far found were published
pub record IsPublishedInPart {W : Type 0} (by : PlannerOn W) (w : W) (how : SearchJob) (outputs : Outputs) (start goal k : ℕ) (log shown : List Entry) (before : Before) : Type 0 where
  pub found : List Found
  pub broken : (found ≡ []) ⊎ IsBrokenOff by w how outputs start goal before found
  pub shown_is : shown ≡ with_paths log k 0 found

-- what is written of plan k in a world, and whether it was, and what is told of it besides; what was published before it and after
abbrev pub EndsOnePlan : {W : Type 0} → PlannerOn W → (PlanRecord → List Write) → (PlanRecord → List ℕ) → W → SearchJob → Outputs → (start goal k : ℕ) → (log shown : List Entry) → Before → Carried → (old new : DeskState) → Result (List ℕ) WriteStop → Type 0
EndsOnePlan by written_of told_of w how outputs start goal k log shown before carried old new (Ok line) =
    (r : PlanRecord) × IsPublishedPlan by w how outputs start goal k log shown before carried r × AreAppended old new (written_of r) × (line ≡ told_of r)
EndsOnePlan by written_of told_of w how outputs start goal k log shown before carried old new (Err e) =
    ((e ≡ NoMemory) × Stays old.written new.written × IsPublishedInPart by w how outputs start goal k log shown before)
    ⊎ ((r : PlanRecord) × IsPublishedPlan by w how outputs start goal k log shown before carried r × EndsIn {T = List ℕ} old new (written_of r) (Err e))
