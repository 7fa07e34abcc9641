-- What is written is determined by the words and the files.
use Rattle.std.specs.Prelude.{◌≡◌, ◌≢◌, ◌⊎◌, ◌++◌, ℕ, Bool, true, IsSome, List, Some}
use Rattle.sbpl_desk.specs.Desk.{AppendsPrefix}
use Rattle.sbpl_report.specs.sbpl_cost.World.{World}
use Rattle.sbpl_report.specs.sbpl_job.declared.job.Job.{Job}
use Rattle.sbpl_report.specs.sbpl_job.declared.job.Job.TheVariants as job
use Rattle.sbpl_report.specs.sbpl_job.declared.job.Outputs.{Outputs}
use Rattle.sbpl_report.specs.sbpl_job.declared.job.SearchJob.{SearchJob}
use Rattle.sbpl_promises.specs.declared.section_stop.SectionStop.TheVariants as section
use Rattle.sbpl_report.specs.declared.record.PlanRecord.{PlanRecord}
use Rattle.sbpl_promises.specs.Asked.{is_determined}
use Rattle.sbpl_promises.specs.Causes.{ArePlanned, IsEarlyInput, IsJobCause, IsSource, ReadsWorld, check_files, grid_files, plan_files}
use Rattle.sbpl_report.specs.sbpl_plan.declared.found.Found.{Found}
use Rattle.sbpl_promises.specs.Headline.{ArePlans}
use Rattle.sbpl_promises.specs.Sites.{Site}
use Rattle.sbpl_promises.specs.Published.{Entry}
use Rattle.sbpl_promises.specs.Intents.{Intent, Refused, Planned, Checked, Listed, Demonstrated}
use Rattle.sbpl_promises.specs.Promises.{IsChecked, IsDemonstration}
use Rattle.sbpl_promises.specs.declared.updates.Updates.{Updates}
use Rattle.sbpl_promises.specs.Writing.{DeskState, Names, ReadFailed, Told, Write, text_under}

-- ---- records of plans

-- two worlds are alike except for how the cells stand in their tables of sweeps
pub record AreAlikeWorlds (w v : World) : Type 0 where
  pub env : v.env ≡ w.env
  pub prims : v.prims ≡ w.prims
  pub map : v.map ≡ w.map
  pub radius : v.sweeps.radius ≡ w.sweeps.radius

-- all plans in alike worlds of a site, over the same map updates and asked the same, after the same entries, by a planner whose passes are determined,
-- have one list of records
abbrev pub RecordsAreOne : {W : Type 0} → Site W → (Alike : W → W → Type 0) → Type 0
RecordsAreOne {W} on Alike = (w v : W) (updates : Updates) (how : SearchJob) (outputs : Outputs) (log : List Entry) (records others : List PlanRecord) (broken also : List Found)
    → is_determined how.planner ≡ true → Alike w v → ArePlans on w updates how outputs records true log broken → ArePlans on v updates how outputs others true log also → records ≡ others

-- and records of the first few plans are the first few of it
abbrev pub FewAreFirst : {W : Type 0} → Site W → (Alike : W → W → Type 0) → Type 0
FewAreFirst {W} on Alike = (w v : W) (updates : Updates) (how : SearchJob) (outputs : Outputs) (log : List Entry) (few records : List PlanRecord) (all : Bool) (broken also : List Found)
    → is_determined how.planner ≡ true → Alike w v → ArePlans on w updates how outputs few all log broken → ArePlans on v updates how outputs records true log also
    → (rest : List PlanRecord) × (records ≡ few ++ rest)

-- ---- what the words and the files call for

-- the name is that of a file which the job reads
abbrev pub IsInput : Job → Names
IsInput (job.Plan j) name = IsEarlyInput (plan_files j) j.changes name
IsInput (job.Check j) name = IsEarlyInput (check_files j) j.changes name ⊎ (name ≡ j.labels)
IsInput (job.Sweep from) name = IsSource from name
IsInput (job.Demo d) name = ⊥
IsInput (job.Nav j) name = IsEarlyInput (grid_files j.sources) j.changes name
IsInput (job.NavCheck j) name = IsEarlyInput (grid_files j.sources) j.changes name ⊎ (name ≡ j.labels)

-- the desk tells what each file of the job holds
abbrev pub AreTold : Told → Job → Type 0
AreTold held j = (name : List ℕ) → IsInput j name → IsSome (held name)

-- no read of a file of the job failed in this call
abbrev pub NoneRose : Job → (before after : DeskState) → Type 0
NoneRose j before after = (name : List ℕ) → IsInput j name → ReadFailed before after name → ⊥

-- no name: that no read failed
abbrev pub NoName : Names
NoName name = ⊥

-- What the words and the files call for, where no read fails and memory does not run out: a refusal with its cause, the plans
-- of all maps by a planner whose passes are determined, after these entries, the checking of sections to its end, the list of sweeps, or a
-- demonstration of all maps. Plans by a planner whose passes are not determined are not called for: each run makes its own.
abbrev pub CallsFor : Told → (log : List Entry) → Job → Intent → Type 0
CallsFor held log j (Refused r) = IsJobCause held NoName j r
CallsFor held log (job.Plan j) (Planned records all own broken) = (all ≡ true) × (is_determined j.search.planner ≡ true) × (own ≡ log) × ArePlanned held (plan_files j) j.changes j.search j.outputs records true log broken
CallsFor held log (job.Check j) (Checked goals os end) = (end ≢ Some section.NoMemory) × IsChecked held (check_files j) j.changes j.labels goals os end
CallsFor held log (job.Sweep from) (Listed w) = ReadsWorld held from w
CallsFor held log (job.Demo d) (Demonstrated w count records all own broken) = (all ≡ true) × (own ≡ log) × IsDemonstration d w count records true log broken
CallsFor held log (job.Nav j) (Planned records all own broken) = (all ≡ true) × (is_determined j.search.planner ≡ true) × (own ≡ log) × ArePlanned held (grid_files j.sources) j.changes j.search j.outputs records true log broken
CallsFor held log (job.NavCheck j) (Checked goals os end) = (end ≢ Some section.NoMemory) × IsChecked held (grid_files j.sources) j.changes j.labels goals os end
CallsFor held log _ _ = ⊥

-- the job makes no plans by a planner whose passes are not determined
abbrev pub IsDeterminedJob : Job → Type 0
IsDeterminedJob (job.Plan j) = is_determined j.search.planner ≡ true
IsDeterminedJob (job.Nav j) = is_determined j.search.planner ≡ true
IsDeterminedJob _ = Unit {0}

-- the status says that no read and no write failed, and that memory did not run out
abbrev pub IsNoFailure : ℕ → Type 0
IsNoFailure status = (status ≢ 6) × (status ≢ 7) × (status ≢ 9)

-- under each name, told bytes grew by a prefix of what these writes append there
abbrev pub ArePrefixes : (before after : DeskState) → List Write → Type 0
ArePrefixes before after writes = (name : List ℕ) → AppendsPrefix (before.written name) (after.written name) (text_under name writes)
