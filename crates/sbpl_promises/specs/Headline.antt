-- What a plan's record says of the world that it was planned in.
use Rattle.std.specs.Prelude.{map, ◌≡◌, ℕ, ◌+◌, ◌*◌, ◌^◌, ◌≤◌, ◌⊎◌, Bool, MatchBool, true, if◌then◌else◌, List, [], ◌∷◌, length, Option, Some, None}
use Rattle.std.specs.Option.{is_some}
use Rattle.sbpl_report.specs.sbpl_graph.Network.{Network}
use Rattle.sbpl_report.specs.sbpl_graph.Path.{IsFreePath}
use Rattle.sbpl_report.specs.sbpl_labels.Marks.{Marks, AreInitial}
use Rattle.sbpl_report.specs.sbpl_plan.declared.result.FoundPath.{FoundPath}
use Rattle.sbpl_report.specs.sbpl_plan.declared.result.PlanResult.{PlanResult}
use Rattle.sbpl_report.specs.sbpl_plan.declared.result.PlanResult.TheVariants as outcome
use Rattle.sbpl_report.specs.sbpl_plan.Asked.{most_passes}
use Rattle.sbpl_report.specs.sbpl_plan.Outcomes.{IsResultOf}
use Rattle.sbpl_report.specs.sbpl_plan.declared.found.Found.{Found}
use Rattle.sbpl_report.specs.sbpl_plan.Passing.{AreFirstPasses, ArePasses, expansions, inquiry_of}
use Rattle.sbpl_report.specs.sbpl_map.CellMap.{CellMap}
use Rattle.sbpl_report.specs.sbpl_map.MapAfter.{IsMapAfter}
use Rattle.sbpl_report.specs.sbpl_map.declared.write.Write.{Write}
use Rattle.sbpl_replan.specs.Replanning.{BeginsWith}
use Rattle.sbpl_report.specs.sbpl_search.Meaning.{Meaning}
use Rattle.sbpl_report.specs.sbpl_plan.declared.passes.PassRecord.{PassRecord}
use Rattle.sbpl_report.specs.declared.record.PathStep.{PathStep}
use Rattle.sbpl_report.specs.declared.record.PathRecord.{PathRecord}
use Rattle.sbpl_report.specs.declared.record.PlanRecord.{PlanRecord}
use Rattle.sbpl_report.specs.sbpl_job.declared.job.Outputs.{Outputs}
use Rattle.sbpl_report.specs.sbpl_job.declared.job.SearchJob.{SearchJob}
use Rattle.sbpl_promises.specs.Blocked.{IsBlockageOf}
use Rattle.sbpl_promises.specs.Asked.{PlannerOn, ask_of, from_by, planner_for, to_by, workers_of}
use Rattle.sbpl_promises.specs.Sites.{Leads, Site, start_after}
use Rattle.sbpl_report.specs.Traces.{traced_pass}
use Rattle.sbpl_report.specs.Shown.{IsShown, IsThere}
use Rattle.sbpl_promises.specs.Published.{Entry, founds, newest, with_plan}
use Rattle.sbpl_promises.specs.declared.updates.Updates.{Updates}

-- from state s these are the steps of the path that the arcs are
abbrev pub AreSteps : {W : Type 0} → Site W → W → ℕ → List ℕ → List PathStep → Type 0
AreSteps on w s [] [] = Unit {0}
AreSteps on w s (k ∷ ks) (step ∷ steps) = (t : ℕ) × ((on.reporting.told w).head s k ≡ Some t) × on.reporting.step w s k t step × AreSteps on w t ks steps
AreSteps on w s _ _ = ⊥

-- from state s these arcs are a free path to some state
abbrev pub IsPathFrom : Network → ℕ → List ℕ → Type 0
IsPathFrom n s arcs = (t : ℕ) × (c : ℕ) × IsFreePath n s arcs t c

-- a path joins two states: its arcs are a free path from the one to the other, and the printed places, ids and cost are its own
pub record JoinsStates {W : Type 0} (on : Site W) (w : W) (start goal : ℕ) (path : PathRecord) : Type 0 where
  pub free : IsFreePath (on.reporting.told w) start path.arcs goal path.cost
  pub from : path.start ≡ on.reporting.report_pose w start
  pub steps : AreSteps on w start path.arcs path.steps

-- joins: where the result is a path, it joins start to goal
abbrev pub Joins : {W : Type 0} → Site W → W → ℕ → ℕ → PlanResult PathRecord → Type 0
Joins on w start goal (outcome.Path path) = JoinsStates on w start goal path
Joins on w start goal _ = Unit {0}

-- at most the printed bound times: its cost is at most its bound, in thousandths, times that of every free path
abbrev pub IsWithinBound : Network → ℕ → ℕ → PlanResult PathRecord → Type 0
IsWithinBound n start goal (outcome.Path path) = (arcs : List ℕ) (cost : ℕ) → IsFreePath n start arcs goal cost → 1000 * path.cost ≤ path.bound * cost
IsWithinBound n start goal _ = Unit {0}

-- none: where the result is that there is no path, no free path joins start to goal
abbrev pub IsNoneThere : Network → ℕ → ℕ → PlanResult PathRecord → Type 0
IsNoneThere n start goal outcome.NoPath = (arcs : List ℕ) (cost : ℕ) → IsFreePath n start arcs goal cost → ⊥
IsNoneThere n start goal _ = Unit {0}

-- the result is known, and its bound is at least one and at most the one asked
abbrev pub IsKnownWithin : ℕ → PlanResult PathRecord → Type 0
IsKnownWithin asked (outcome.Path path) = (1000 ≤ path.bound) × (path.bound ≤ asked)
IsKnownWithin asked outcome.NoPath = Unit {0}
IsKnownWithin asked outcome.Unknown = ⊥

-- a result is the one that a search found: the one path is what the other leads to, at the same cost and with the same bound
abbrev pub IsTurned : (leads : (found path : List ℕ) → Type 0) → (found result : PlanResult FoundPath) → Type 0
IsTurned leads (outcome.Path f) (outcome.Path p) = leads f.arcs p.arcs × (p.cost ≡ f.cost) × (p.bound ≡ f.bound)
IsTurned leads outcome.NoPath outcome.NoPath = Unit {0}
IsTurned leads outcome.Unknown outcome.Unknown = Unit {0}
IsTurned leads _ _ = ⊥

-- a result is told step by step
abbrev pub IsSameResult : PlanResult FoundPath → PlanResult PathRecord → Type 0
IsSameResult (outcome.Path found) (outcome.Path path) = (path.arcs ≡ found.arcs) × (path.cost ≡ found.cost) × (path.bound ≡ found.bound)
IsSameResult outcome.NoPath outcome.NoPath = Unit {0}
IsSameResult outcome.Unknown outcome.Unknown = Unit {0}
IsSameResult _ _ = ⊥

-- a result is told step by step as the search found it, with the path that its path leads to
pub record IsToldOf (leads : (found path : List ℕ) → Type 0) (found : PlanResult FoundPath) (told : PlanResult PathRecord) : Type 0 where
  pub result : PlanResult FoundPath
  pub turned : IsTurned leads found result
  pub same : IsSameResult result told

-- what is promised of a plan between two states: 'asked' is the bound that was asked, in thousandths; where it has no path, what is told of it is what
-- is in the way
pub record KeepsPromises {W : Type 0} (on : Site W) (w : W) (start goal asked : ℕ) (r : PlanRecord) : Type 0 where
  pub joins : Joins on w start goal r.outcome
  pub within_the_bound : IsWithinBound (on.reporting.told w) start goal r.outcome
  pub none : IsNoneThere (on.reporting.told w) start goal r.outcome
  pub blocked : IsBlockageOf (on.reporting.told w) start goal r.outcome r.blockage
  pub unless_spent : r.spent ≡ None → IsKnownWithin asked r.outcome

-- what the plans of a run leave to the next one: the map of the last of them, its final labels, and how many states all of
-- them expanded
pub record Carried : Type 0 where
  pub map : CellMap
  pub labels : Marks
  pub expanded : ℕ

-- what was before a plan: none; or a plan, after which the map was changed, or not
pub data Before : Type 0 where
  NoPlan : Before
  Changed : Carried → Before
  Unchanged : Carried → Before

-- how many states were expanded before a plan
abbrev pub expanded_before : Before → ℕ
expanded_before NoPlan = 0
expanded_before (Changed b) = b.expanded
expanded_before (Unchanged b) = b.expanded

-- the labels that a plan in a world begins with, and the states that were raised for it: initial ones, with the state from which the
-- search goes as their start, and none; and after another plan the labels that it left, where the map was changed what the planner
-- makes of them
abbrev pub Begins : {Action W : Type 0} → Meaning Action → Site W → W → (from : ℕ) → Before → Marks → (raised : List ℕ) → Type 0
Begins means on w from NoPlan m raised = AreInitial m (on.network w).states from × (raised ≡ [])
Begins means on w from (Changed b) m raised = BeginsWith means on.network on.cells (on.cells.over w b.map) w b.labels m raised
Begins means on w from (Unchanged b) m raised = m ≡ b.labels

-- a plan that was spent is marked with its expansions, which are the budget, or the run's are 2 ^ 30; one that was not is not marked
abbrev pub IsMarked : (budget before : ℕ) → Bool → PlanRecord → Type 0
IsMarked budget before spent r = MatchBool spent
    ((r.spent ≡ Some (expansions r.passes)) × ((expansions r.passes ≡ budget) ⊎ (before + expansions r.passes ≡ 2 ^ 30)))
    (r.spent ≡ None)

-- The record of a search on the planner's site, guided as that says, from initial or repaired labels: the states that were
-- raised before its passes, where they are to be told; its passes in turn, by the workers that are asked for, as few as the step allows; the result by the final labels,
-- and a section of these labels, where they are to be written. A plan expands no more than its budget, and the run no more than 2 ^ 30.
-- A budget for each state in each pass, as often as the planner may take one, is not spent, unless the run's is.
pub record IsSearched {W : Type 0} (by : PlannerOn W) (w : W) (how : SearchJob) (outputs : Outputs) (start goal : ℕ) (before : Before) (carried : Carried) (r : PlanRecord) : Type 0 where
  pub guide : ℕ → ℕ
  pub is_guide : by.on.says w (to_by by start goal) guide
  pub begun : Marks
  pub raised : List ℕ
  pub begins : Begins by.means by.on w (from_by by start goal) before begun raised
  pub raises : r.raised ≡ (if is_some outputs.trace then raised else [])
  pub spent : Bool
  pub recorded : List (PassRecord by.Action)
  pub passes : ArePasses by.means (inquiry_of (by.on.network w) guide (to_by by start goal) (workers_of how) (ask_of how outputs)) how.first begun recorded carried.labels spent
  pub lines : r.passes ≡ map (traced_pass by.line) recorded
  pub found : PlanResult FoundPath
  pub is_result : IsResultOf (by.on.network w) guide (to_by by start goal) carried.labels found
  pub told : IsToldOf (Leads by.on.reporting.back (by.on.reporting.told w) start goal) found r.outcome
  pub expanded : r.expanded ≡ expansions r.passes
  pub counted : carried.expanded ≡ expanded_before before + expansions r.passes
  pub within_budget : r.expanded ≤ how.budget
  pub within_run : carried.expanded ≤ 2 ^ 30
  pub marked : IsMarked how.budget (expanded_before before) spent r
  pub few : length r.passes ≤ most_passes how.step how.first
  pub ample : spent ≡ true → most_passes how.step how.first * (by.means.most * (by.on.network w).states) ≤ how.budget → carried.expanded ≡ 2 ^ 30
  pub labels : IsThere (is_some outputs.labels) (IsShown outputs.form (by.on.network w) guide (from_by by start goal) (to_by by start goal) r.plan carried.labels found) r.labels

-- Memory ran out in a plan: it began as a plan does, and its passes so far found this.
pub record IsBrokenOff {W : Type 0} (by : PlannerOn W) (w : W) (how : SearchJob) (outputs : Outputs) (start goal : ℕ) (before : Before) (found : List Found) : Type 0 where
  pub guide : ℕ → ℕ
  pub is_guide : by.on.says w (to_by by start goal) guide
  pub begun : Marks
  pub raised : List ℕ
  pub begins : Begins by.means by.on w (from_by by start goal) before begun raised
  pub left : Marks
  pub recorded : List (PassRecord by.Action)
  pub passes : AreFirstPasses by.means (inquiry_of (by.on.network w) guide (to_by by start goal) (workers_of how) (ask_of how outputs)) how.first begun recorded left
  pub found_is : found ≡ founds recorded

-- memory ran out in plan k, on the map after the first k batches, or before its first pass
abbrev pub IsBrokenIn : {W : Type 0} → PlannerOn W → W → List (List Write) → SearchJob → Outputs → (starts : ℕ → ℕ) → (goal k : ℕ) → List Found → Type 0
IsBrokenIn by w batches how outputs starts goal k found =
    (found ≡ []) ⊎ ((m : CellMap) × (before : Before) × IsMapAfter (by.on.cells.map w) batches k m × IsBrokenOff by (by.on.cells.over w m) how outputs (starts k) goal before found)

-- the record of plan k in a world, whose graph has just the arcs that its files make on its map; these entries were published before it, and it tells the newest after it
pub record IsPlanOf {W : Type 0} (by : PlannerOn W) (w : W) (how : SearchJob) (outputs : Outputs) (start goal k : ℕ) (log : List Entry) (before : Before) (carried : Carried) (r : PlanRecord) : Type 0 where
  pub number : r.plan ≡ k
  pub is_world : by.on.cells.is_made w
  pub arcs : by.on.reporting.arcs (by.on.reporting.told w) w
  pub promises : KeepsPromises by.on w start goal how.bound r
  pub searched : IsSearched by w how outputs start goal before carried r
  pub incumbent : r.incumbent ≡ newest (with_plan log r)

-- The records of plans in turn, the first of which is plan k: each is made in the world on the map after as many batches as its
-- number, from its own start, and goes on from the plan before it.
abbrev pub AreRecords : {W : Type 0} → PlannerOn W → W → List (List Write) → SearchJob → Outputs → (starts : ℕ → ℕ) → (goal k : ℕ) → (log : List Entry) → Before → List PlanRecord → Type 0
AreRecords by w batches how outputs starts goal k log before [] = Unit {0}
AreRecords by w batches how outputs starts goal k log before (r ∷ rs) =
    (carried : Carried) × IsMapAfter (by.on.cells.map w) batches k carried.map
    × IsPlanOf by (by.on.cells.over w carried.map) how outputs (starts k) goal k log before carried r
    × AreRecords by w batches how outputs starts goal (k + 1) (with_plan log r) (Changed carried) rs

-- These are records of plans in a world of a site, from the start of its environment, or where the robot was last said to be, to its end: of
-- plan 0 on the map as it is, and then of one plan after each batch of changes. They are all of them, or the first few, and then
-- memory may run out in a plan whose passes found this. These entries were published before them.
pub record ArePlans {W : Type 0} (on : Site W) (w : W) (updates : Updates) (how : SearchJob) (outputs : Outputs) (records : List PlanRecord) (all : Bool) (log : List Entry) (broken : List Found) : Type 0 where
  pub start : ℕ
  pub goal : ℕ
  pub start_is : on.reporting.starts w start
  pub goal_is : on.reporting.ends w goal
  pub each : AreRecords (planner_for on how.planner) w updates.batches how outputs (start_after on.reporting w start updates.moves) goal 0 log NoPlan records
  pub broken_in : IsBrokenIn (planner_for on how.planner) w updates.batches how outputs (start_after on.reporting w start updates.moves) goal (length records) broken
  pub none_broken : all ≡ true → broken ≡ []
  pub few : length records ≤ length updates.batches + 1
  pub all_made : all ≡ true → length records ≡ length updates.batches + 1
