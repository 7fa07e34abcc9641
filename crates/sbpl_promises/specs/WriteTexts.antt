-- That no write of a job is empty, and how many writes there are of plans.
use Rattle.std.specs.Prelude.{◌≡◌, ◌≢◌, ℕ, ◌+◌, ◌*◌, All, true, if◌then◌else◌, List, [], length}
use Rattle.std.specs.Option.{is_some}
use Rattle.sbpl_report.specs.sbpl_job.declared.job.Job.{Job}
use Rattle.sbpl_report.specs.sbpl_job.declared.job.Outputs.{Outputs}
use Rattle.sbpl_report.specs.declared.record.PlanRecord.{PlanRecord}
use Rattle.sbpl_promises.specs.Intents.{Intent, plans_writes, writes_of}
use Rattle.sbpl_promises.specs.Promises.{GivesIntent}
use Rattle.sbpl_promises.specs.Writing.{DeskState, ReadFailed, Write}

-- none of these writes is empty
abbrev pub NoneEmpty : List Write → Type 0
NoneEmpty writes = All (λ w. w.text ≢ []) writes

-- whatever a job means to do, where these are the desk before and after, no write of it is empty
abbrev pub WritesHaveTexts : Type 0
WritesHaveTexts = (before after : DeskState) (j : Job) (i : Intent) → GivesIntent before.held (ReadFailed before after) j i
    → NoneEmpty (writes_of j i)

-- how many outputs of plans are named besides the report
abbrev pub named_count : Outputs → ℕ
named_count o = (if is_some o.labels then 1 else 0) + ((if is_some o.trace then 1 else 0) + (if is_some o.incumbent then 1 else 0))

-- the writes of all plans are, for each record, one to the report and one to each other output that is named, and then the last one
abbrev pub WritesAreCounted : Type 0
WritesAreCounted = (o : Outputs) (records : List PlanRecord)
    → length (plans_writes o records true) ≡ length records * (1 + named_count o) + 1
