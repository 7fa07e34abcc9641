-- What a job asks of a planner.
use Rattle.std.specs.Prelude.{ℕ, Bool, true, false, if◌then◌else◌}
use Rattle.std.specs.Option.{is_some}
use Rattle.sbpl_report.specs.sbpl_search.Meaning.{Meaning}
use Rattle.sbpl_report.specs.sbpl_serial.declared.step.Step.{Step}
use Rattle.sbpl_report.specs.declared.record.TraceLine.{TraceLine}
use Rattle.sbpl_promises.specs.Sites.{Site, from_on, searched_on, to_on}
use Rattle.sbpl_report.specs.Traces.{line_of, line_of_event}
use Rattle.sbpl_replan.specs.sbpl_ara.Planner.{ara}
use Rattle.sbpl_replan.specs.sbpl_adstar.Planner.{adstar}
use Rattle.sbpl_report.specs.sbpl_frontier_rules.declared.event.Event.{Event}
use Rattle.sbpl_epase.specs.Planner.{epase}
use Rattle.sbpl_report.specs.sbpl_plan.declared.ask.Ask.{Ask}
use Rattle.sbpl_report.specs.sbpl_job.Jobs.{has_workers, may_move}
use Rattle.sbpl_report.specs.sbpl_job.declared.job.Outputs.{Outputs}
use Rattle.sbpl_report.specs.sbpl_job.declared.job.Planner.{Planner}
use Rattle.sbpl_report.specs.sbpl_job.declared.job.Planner.TheVariants as planner
use Rattle.sbpl_report.specs.sbpl_job.declared.job.SearchJob.{SearchJob}

-- what a plan is asked for
abbrev pub ask_of : SearchJob → Outputs → Ask
ask_of search outputs = record { first = search.first; step = search.step; bound = search.bound; traced = is_some outputs.trace }

-- the passes of a planner are determined by the labels from which they begin: those of a serial search are, and those of one
-- with workers are not
abbrev pub is_determined : Planner → Bool
is_determined planner.Ara = true
is_determined planner.AdStar = true
is_determined planner.Back = true
is_determined planner.Epase = false

-- how many workers make the passes of a search: as many as are asked for by a planner that has workers, and one by another
abbrev pub workers_by : Planner → (asked : ℕ) → ℕ
workers_by p asked = if has_workers p then asked else 1

abbrev pub workers_of : SearchJob → ℕ
workers_of how = workers_by how.planner how.workers

-- a planner's search: the actions that its passes record, what its calls mean, and how an action is told in a trace
pub record Search : Type 1 where
  pub Action : Type 0
  pub means : Meaning Action
  pub line : Action → TraceLine

abbrev pub search_of : Planner → Search
search_of planner.Ara = record { Action = Step; means = ara; line = line_of }
search_of planner.AdStar = record { Action = Step; means = adstar; line = line_of }
search_of planner.Back = record { Action = Step; means = adstar; line = line_of }
search_of planner.Epase = record { Action = Event; means = epase; line = line_of_event }

-- a planner as the program knows it: its search, and the site that it searches
pub record PlannerOn (W : Type 0) : Type 1 where
  pub on : Site W
  pub Action : Type 0
  pub means : Meaning Action
  pub line : Action → TraceLine

abbrev pub planner_on : {W Action : Type 0} → Site W → Meaning Action → (Action → TraceLine) → PlannerOn W
planner_on {Action} on means line = record { on = on; Action = Action; means = means; line = line }

-- a planner on a site that is searched as it is
abbrev pub planner_as_is : {W : Type 0} → Site W → Planner → PlannerOn W
planner_as_is on p = record { on = on; Action = (search_of p).Action; means = (search_of p).means; line = (search_of p).line }

-- a planner whose plans are told of a site; `back` searches that site the other way round
abbrev pub planner_for : {W : Type 0} → Site W → Planner → PlannerOn W
planner_for on p = planner_as_is (searched_on on (may_move p)) p

-- of the start and the goal of a plan, the state from which such a planner searches, and the one to which
abbrev pub from_by : {W : Type 0} → PlannerOn W → (start goal : ℕ) → ℕ
from_by by = from_on by.on

abbrev pub to_by : {W : Type 0} → PlannerOn W → (start goal : ℕ) → ℕ
to_by by = to_on by.on
