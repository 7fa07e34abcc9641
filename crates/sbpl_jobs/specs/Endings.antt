-- How a job ended, and how a run did.
use Rattle.std.specs.Prelude.{List, Option}
use Rattle.sbpl_checks.specs.sbpl_job.declared.job.Job.{Job}
use Rattle.sbpl_checks.specs.sbpl_promises.Causes.{JobStopsFor}
use Rattle.sbpl_checks.specs.sbpl_promises.Explained.{ExplainsStop, IsTold, IsToldOf}
use Rattle.sbpl_checks.specs.sbpl_promises.Promises.{EndsJob, EndsRun}
use Rattle.sbpl_checks.specs.sbpl_promises.Published.{Entry}
use Rattle.sbpl_checks.specs.sbpl_promises.Writing.{DeskState}
use Rattle.sbpl_checks.specs.sbpl_report.Refusals.{input_name}
use Rattle.sbpl_checks.specs.sbpl_report.Statuses.{number_of}
use Rattle.sbpl_checks.specs.sbpl_report.declared.refusal.JobStop.{JobStop}
use Rattle.sbpl_checks.specs.sbpl_telling.Endings.{message_of}
use Rattle.sbpl_checks.specs.sbpl_telling.declared.ending.Ending.{Ending}

-- a job ended so: what was written and published, and what is told
pub record IsJobEnding (before after : DeskState) (old new : List Entry) (j : Job) (e : Ending) : Type 0 where
  pub ends : EndsJob before after old new j (number_of e.status)
  pub told : IsToldOf before after old j (number_of e.status) (message_of e)

-- a job stopped for this before anything was written, for a cause, and this is what is told of it
pub record IsJobStop (before after : DeskState) (j : Job) (s : JobStop) : Type 0 where
  pub cause : JobStopsFor before after j s
  pub told : ExplainsStop before.held (input_name j) s

-- a run ended so, whose words name a job or none
pub record IsRunEnding (named : Option Job) (before after : DeskState) (old new : List Entry) (e : Ending) : Type 0 where
  pub ends : EndsRun named before after old new (number_of e.status)
  pub told : IsTold named before after old (number_of e.status) (message_of e)
