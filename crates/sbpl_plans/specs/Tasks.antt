-- What the plans of a job are asked for, and how they end.
use Rattle.std.specs.Prelude.{ℕ, ◌<◌, List, []}
use Rattle.sbpl_worlds.specs.sbpl_job.Jobs.{IsSearchJob}
use Rattle.sbpl_plans.specs.Planning.{IsSetFor}
use Rattle.sbpl_plans.specs.declared.task.PlanStart.{PlanStart}
use Rattle.sbpl_plans.specs.declared.task.Task.{Task}
use Rattle.sbpl_worlds.specs.sbpl_promises.Asked.{PlannerOn}
use Rattle.sbpl_worlds.specs.sbpl_promises.Causes.{AreUpdatesIn}
use Rattle.sbpl_worlds.specs.sbpl_promises.Headline.{NoPlan}
use Rattle.sbpl_worlds.specs.sbpl_promises.Promises.{EndsPlans}
use Rattle.sbpl_worlds.specs.sbpl_promises.Published.{Entry}
use Rattle.sbpl_worlds.specs.sbpl_promises.Sites.{Site, start_after}
use Rattle.sbpl_worlds.specs.sbpl_promises.Writing.{DeskState, Write}
use Rattle.sbpl_worlds.specs.sbpl_replan.Replanning.{IsReady, SessionState, standing_of}
use Rattle.sbpl_worlds.specs.sbpl_report.Statuses.{number_of}
use Rattle.sbpl_worlds.specs.sbpl_report.declared.record.PlanRecord.{PlanRecord}
use Rattle.sbpl_worlds.specs.sbpl_search.Meaning.{Meaning}
use Rattle.sbpl_telling.specs.declared.ending.Ending.{Ending}

-- these plans can be made in a world, whose parts belong together: they go between its states, by a search in range, and the map
-- updates are on its map, and so is the robot, which stays where it may not move
pub record CanBeMade {W : Type 0} (on : Site W) (w : W) (t : Task) : Type 0 where
  pub start : t.start < (on.reporting.told w).states
  pub goal : t.goal < (on.reporting.told w).states
  pub search : IsSearchJob t.how.now
  pub updates : AreUpdatesIn on on.reporting.back w t.updates.now
  pub kept : on.cells.is_made w

-- a plan of a task can be made in a session from this start on: it goes between states of the session's world, whose parts belong
-- together, by a search in range, and the session is ready and set for it
pub record CanPlan {Action H W : Type 0} (on : Site W) (means : Meaning Action) (is_made_for : H → W → ℕ → Type 0) (t : Task)
    (at : PlanStart) (s : SessionState Action H W) : Type 0 where
  pub start_inside : at.start < (on.reporting.told s.world).states
  pub goal_inside : t.goal < (on.reporting.told s.world).states
  pub search : IsSearchJob t.how.now
  pub kept : on.cells.is_made s.world
  pub ready : IsReady means on.network is_made_for s
  pub set : IsSetFor on t.how.now at.start t.goal (standing_of s)

-- how these plans end, which begin in a world: what was published before and after, what the desk held, the status, and what people are told
abbrev pub EndsTask : {W : Type 0} → PlannerOn W → (PlanRecord → List Write) → (PlanRecord → List ℕ) → W → Task → (log shown : List Entry) → (before after : DeskState) → Ending → Type 0
EndsTask by written_of told_of w t log shown before after e =
    EndsPlans by written_of told_of w t.updates.now.batches t.how.now t.outputs.now (start_after by.on.reporting w t.start t.updates.now.moves) t.goal 0 log shown [] e.why NoPlan before after (number_of e.status)
