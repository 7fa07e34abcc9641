-- Plans one after another, while the map changes.
use Rattle.std.specs.Prelude.{ℕ, true, List, [], ◌≡◌, ◌≢◌, ◌≤◌, ◌⊎◌}
use Rattle.sbpl_plan.specs.sbpl_labels.Counts.{Counts}
use Rattle.sbpl_plan.specs.sbpl_labels.Marks.{AreInitial, Marks, states_of}
use Rattle.sbpl_plan.specs.sbpl_labels.declared.time.Time.{Time}
use Rattle.sbpl_plan.specs.sbpl_search.Meaning.{Meaning}
use Rattle.sbpl_plan.specs.sbpl_search.Ready.{IsStartFresh}
use Rattle.sbpl_plan.specs.sbpl_search.State.{State}
use Rattle.sbpl_plan.specs.declared.ask.Ask.{Ask}
use Rattle.sbpl_plan.specs.declared.passes.PassRecord.{PassRecord}
use Rattle.sbpl_plan.specs.OutOfMemory.{IsCutAfterPart, IsPartOfPlan}
use Rattle.sbpl_plan.specs.Passing.{Inquiry, expansions, inquiry_of}
use Rattle.sbpl_plan.specs.sbpl_graph.Network.{Network}
use Rattle.sbpl_heur.specs.sbpl_terrain.Affected.{AreAffected}
use Rattle.sbpl_heur.specs.sbpl_terrain.Cells.{Cells}
use Rattle.sbpl_heur.specs.sbpl_terrain.declared.arc_end.ArcEnd.TheVariants as end

-- labels that a plan begins with after a change of the map, and the states that were raised for it: what the planner makes of the
-- labels that the plan before left, once these states were touched; where it repairs labels they are the heads of the arcs that read a
-- cell whose cost changed
pub record BeginsWith {Action W : Type 0} (means : Meaning Action) (network : W → Network) (cells : Cells W) (old new : W) (left first : Marks) (raised : List ℕ) : Type 0 where
  pub touched : List ℕ
  pub are_touched : means.repairs ≡ true → AreAffected network cells end.Head old (cells.map new) touched
  pub begun : means.begun (network new) touched left first raised

-- ---- from plan to plan

-- what goes on from plan to plan: the search, and the counts of expansions
pub record Standing (Action : Type 0) : Type 0 where
  pub search : State Action
  pub counts : Counts

-- the counts as a plan begins, with a limit of time or without
abbrev pub at_plan : Time → Counts → Counts
at_plan time counts = record counts { plan = 0; time = time }

-- what stays the same over a plan on a graph, with a guide to the goal of the search, by the search's workers
abbrev pub inquiry : {Action : Type 0} → Network → (ℕ → ℕ) → Standing Action → Ask → Inquiry
inquiry n guide s ask = inquiry_of n guide s.search.goal s.search.workers ask

-- the searches of the plans go from the one state to the other
pub record GoesBetween {Action : Type 0} (from to : ℕ) (s : Standing Action) : Type 0 where
  pub from_is : s.search.labels.start ≡ from
  pub to_is : s.search.goal ≡ to

-- the start, the goal and the workers of the search and the budget of a plan stay
pub record StaysTheSame {Action : Type 0} (old new : Standing Action) : Type 0 where
  pub start : new.search.labels.start ≡ old.search.labels.start
  pub goal : new.search.goal ≡ old.search.goal
  pub workers : new.search.workers ≡ old.search.workers
  pub per_plan : new.counts.per_plan ≡ old.counts.per_plan

-- the searches of the plans to come go to this state; all else of the search, and the counts, stay
pub record IsAimed {Action : Type 0} (to : ℕ) (old new : Standing Action) : Type 0 where
  pub search : new.search ≡ record old.search { goal = to }
  pub counts : new.counts ≡ old.counts

-- labels with which a search begins from this state, on as many states as before, and no state was raised for them
pub record AreBegunFrom {Action : Type 0} (from : ℕ) (old new : State Action) : Type 0 where
  pub labels : AreInitial new.labels (states_of old.labels) from
  pub none_raised : new.raised ≡ []

-- the searches of the plans to come go from this state: with initial labels where they went from another, and with the labels that
-- there were otherwise; the goal, the workers and the counts stay
pub record IsMoved {Action : Type 0} (from : ℕ) (old new : Standing Action) : Type 0 where
  pub from_is : new.search.labels.start ≡ from
  pub begun : old.search.labels.start ≢ from → AreBegunFrom from old.search new.search
  pub stays : old.search.labels.start ≡ from → new.search ≡ old.search
  pub goal : new.search.goal ≡ old.search.goal
  pub workers : new.search.workers ≡ old.search.workers
  pub counts : new.counts ≡ old.counts

-- Memory ran out after a part of a plan, whose expansions are counted and none of which is beyond the budget; another plan may begin,
-- where `Ready` says so.
pub record IsCutPlan {Action : Type 0} (means : Meaning Action) (q : Inquiry) (time : Time) (Ready : Type 0) (Told : List (PassRecord Action) → Type 0) (old new : Standing Action) : Type 0 where
  pub part : IsPartOfPlan means q q.ask.first old.search new.search (at_plan time old.counts) new.counts Told
  pub within : expansions part.passes ≤ old.counts.per_plan
  pub ready : Ready
  pub same : StaysTheSame old new

-- memory ran out after a part of a plan, or in the pass after it
abbrev pub StandsOutOfMemory : {Action : Type 0} → Meaning Action → Inquiry → Time → (Ready : Type 0) → (Told : List (PassRecord Action) → Type 0) → (old new : Standing Action) → Type 0
StandsOutOfMemory means q time Ready Told old new = IsCutPlan means q time Ready Told old new ⊎ IsCutAfterPart means q q.ask.first old.search new.search (at_plan time old.counts) new.counts Told

-- ---- a session

-- what is planned on, what goes on from plan to plan, and the heuristic
pub record SessionState (Action H W : Type 0) : Type 0 where
  pub world : W
  pub search : State Action
  pub guide : H
  pub counts : Counts

abbrev pub standing_of : {Action H W : Type 0} → SessionState Action H W → Standing Action
standing_of s = record { search = s.search; counts = s.counts }

-- a plan may begin: the heuristic is made for the world and the goal of the search, and the labels are those of the world's graph
pub record IsReady {Action H W : Type 0} (means : Meaning Action) (network : W → Network) (is_made_for : H → W → ℕ → Type 0) (s : SessionState Action H W) : Type 0 where
  pub made : is_made_for s.guide s.world s.search.goal
  pub labels : means.ready (network s.world) s.search.labels s.counts.run
  pub fresh : IsStartFresh s.search.labels
