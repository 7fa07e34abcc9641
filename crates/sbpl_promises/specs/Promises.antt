-- What the program promises of its status and of what it writes.
use Rattle.std.specs.Prelude.{◌≡◌, ◌==◌, if◌then◌else◌, IsTrue, ℕ, suc, ◌+◌, ◌^◌, ◌<◌, ◌≤◌, ◌⊎◌, Bool, true, List, [], ◌++◌, flat_map, length, Option, Some, None}
use Rattle.std.specs.List.{list_any}
use Rattle.sbpl_report.specs.sbpl_cfg.declared.fault.EnvFault.{EnvFault}
use Rattle.sbpl_report.specs.sbpl_cfg.Environment.{Environment}
use Rattle.sbpl_report.specs.sbpl_mprim.declared.fault.PrimFault.{PrimFault}
use Rattle.sbpl_report.specs.sbpl_mprim.Primitives.{Primitives}
use Rattle.sbpl_report.specs.sbpl_fixed.Formats.{start_at}
use Rattle.sbpl_report.specs.sbpl_map.declared.fault.ChangeFault.{ChangeFault}
use Rattle.sbpl_report.specs.sbpl_map.declared.write.Write as change
use Rattle.sbpl_report.specs.sbpl_cost.World.{IsWorld, World}
use Rattle.sbpl_report.specs.sbpl_cert.declared.fault.LabelFault.{LabelFault}
use Rattle.sbpl_report.specs.sbpl_cert.declared.flaw.Flaw.{Flaw}
use Rattle.sbpl_report.specs.sbpl_cert.declared.outcome.Outcome.{Outcome}
use Rattle.sbpl_promises.specs.Asked.{PlannerOn}
use Rattle.sbpl_promises.specs.Sites.{Site, searched_on}
use Rattle.sbpl_nav2d.specs.World.{GridWorld, IsGridWorld}
use Rattle.sbpl_promises.specs.WorldFiles.{WorldFiles}
use Rattle.sbpl_promises.specs.declared.section_stop.SectionStop.{SectionStop}
use Rattle.sbpl_promises.specs.declared.section_stop.SectionStop.TheVariants as section
use Rattle.sbpl_promises.specs.Checked.{AreChecked, Holding, IsShownHolding, case_of, to_in}
use Rattle.sbpl_report.specs.sbpl_plan.declared.found.Found.{Found}
use Rattle.sbpl_promises.specs.Headline.{AreRecords, Before, IsBrokenIn}
use Rattle.sbpl_promises.specs.Published.{Entry, with_paths, with_plans}
use Rattle.sbpl_report.specs.sbpl_job.declared.job.Job.{Job}
use Rattle.sbpl_report.specs.sbpl_job.declared.job.Job.TheVariants as job
use Rattle.sbpl_report.specs.sbpl_job.declared.job.DemoJob.{DemoJob}
use Rattle.sbpl_report.specs.sbpl_job.declared.job.Outputs.{Outputs}
use Rattle.sbpl_report.specs.sbpl_job.declared.job.SearchJob.{SearchJob}
use Rattle.sbpl_report.specs.sbpl_job.declared.job.GridSources.{GridSources}
use Rattle.sbpl_report.specs.sbpl_job.declared.job.Sources.{Sources}
use Rattle.sbpl_report.specs.declared.record.PlanRecord.{PlanRecord}
use Rattle.sbpl_report.specs.declared.refusal.PathEnd.{PathEnd}
use Rattle.sbpl_report.specs.declared.refusal.Refusal.{Refusal}
use Rattle.sbpl_promises.specs.Causes.{AreDemonstrated, ArePlanned, IsJobCause, IsReadText, NoneTooDear, ReadsUpdates, ReadsWorld, check_files, grid_files, plan_files}
use Rattle.sbpl_report.specs.sbpl_sweep.Widths.{NoneTooWide}
use Rattle.sbpl_promises.specs.Intents.{BeginsAfter, Intent, Refused, Planned, Checked, Listed, Demonstrated, OutOfMemory, published_by, checked_writes, demo_writes, end_writes, intent_status, listing_writes, outputs_of, plans_status, plans_writes, refusal_writes, statuses, words_writes, writes_of}
use Rattle.sbpl_report.specs.Refusals.{refusal_status}
use Rattle.sbpl_promises.specs.declared.updates.Updates.{Updates}
use Rattle.sbpl_promises.specs.Texts.{HasChangeFault, HasEndOff, HasEnvironmentFault, HasGridEndOff, HasGridFault, HasPrimitiveFault, IsChangeText, IsEnvironmentFor, IsGridFor, IsPrimitiveText, Scope, scope_for, still}
use Rattle.sbpl_promises.specs.Writing.{AreAppended, DeskState, EndsAs, IsCutAt, IsOutput, IsOutputOf, RunsOutAt, Names, ReadFailed, Stays, StaysBut, Told, Write, WriteFailed}

-- the words name this job, of which P holds
abbrev pub AtJob : Option Job → (Job → Type 0) → Type 0
AtJob named P = (j : Job) × (named ≡ Some j) × P j

-- the report of plans of these files was written, one for the map as it is and one for each batch of changes, and their
-- labels, their traces and the newest paths where they are asked for
pub record IsReported {W : Type 0} (before after : DeskState) (old : List Entry) (f : WorldFiles W) (changes : Option (List ℕ)) (search : SearchJob) (outputs : Outputs) : Type 0 where
  pub records : List PlanRecord
  pub planned : ArePlanned before.held f changes search outputs records true old []
  pub report : AreAppended before after (plans_writes outputs records true)

-- plans of the demonstration were made, one for the map as it is and one for each batch, and a line for each was written
pub record IsDemonstrated (before after : DeskState) (old : List Entry) (d : DemoJob) : Type 0 where
  pub world : World
  pub batches : List (List change.Write)
  pub records : List PlanRecord
  pub planned : AreDemonstrated d world batches records true old []
  pub lines : AreAppended before after (demo_writes world (length batches) records true)

-- what each primitive of the files costs and sweeps was listed
pub record IsListed (before after : DeskState) (from : Sources) : Type 0 where
  pub world : World
  pub says : ReadsWorld before.held from world
  pub is_world : IsWorld world
  pub lines : AreAppended before after (listing_writes world)

-- In a world of a site and over map updates the text of a file of labels, which were searched on that site, is checked: sections with
-- these outcomes, of searches to these goals, hold, and it ends so.
pub record IsCheckedIn {W : Type 0} (Holds : Holding) (on : Site W) (w : W) (updates : Updates) (text : List ℕ) (goals : ℕ → ℕ) (os : List Outcome) (end : Option SectionStop) : Type 0 where
  pub start : ℕ
  pub goal : ℕ
  pub start_is : on.reporting.starts w start
  pub goal_is : on.reporting.ends w goal
  pub goals_are : goals ≡ to_in (case_of on w updates start goal)
  pub checked : AreChecked Holds (case_of on w updates start goal) 0 (suc (length updates.batches)) (start_at text 0) os end

-- of each world, the graph whose paths are told has just the arcs that its files make
abbrev pub HasItsArcs : {W : Type 0} → Site W → Type 0
HasItsArcs {W} on = (w : W) → on.cells.is_made w → on.reporting.arcs (on.reporting.told w) w

-- The files stand for a world and map updates, and in it the file of labels is checked so. What its sections that hold say is shown, and is
-- so, on graphs which have just the arcs that the files make on the map, read backwards where the robot may move.
pub record IsChecked {W : Type 0} (held : Told) (f : WorldFiles W) (changes : Option (List ℕ)) (labels : List ℕ) (goals : ℕ → ℕ) (os : List Outcome) (end : Option SectionStop) : Type 0 where
  pub world : W
  pub updates : Updates
  pub says : f.stand_for held world
  pub changes_say : ReadsUpdates held changes (f.scope world) updates
  pub arcs : HasItsArcs f.on
  pub is_world : f.on.cells.is_made world
  pub text : List ℕ
  pub read : IsReadText (held labels) text
  pub in_world : IsCheckedIn IsShownHolding (searched_on f.on f.moves) world updates text goals os end

-- sections of labels were checked, which ended so, and their lines were written
pub record IsJudged {W : Type 0} (before after : DeskState) (end : Option SectionStop) (f : WorldFiles W) (changes : Option (List ℕ)) (labels : List ℕ) : Type 0 where
  pub goals : ℕ → ℕ
  pub outcomes : List Outcome
  pub checked : IsChecked before.held f changes labels goals outcomes end
  pub lines : AreAppended before after (checked_writes goals 0 outcomes end)

-- the job `check` found this flaw, and said so
abbrev pub IsFlawFound : (before after : DeskState) → Job → Type 0
IsFlawFound before after (job.Check j) = (x : Flaw) × IsJudged before after (Some (section.Flaw x)) (check_files j) j.changes j.labels
IsFlawFound before after (job.NavCheck j) = (x : Flaw) × IsJudged before after (Some (section.Flaw x)) (grid_files j.sources) j.changes j.labels
IsFlawFound before after _ = ⊥

-- the job `check` found this fault in the text of the labels, and said so
abbrev pub IsFaultFound : (before after : DeskState) → Job → Type 0
IsFaultFound before after (job.Check j) = (x : LabelFault) × IsJudged before after (Some (section.Fault x)) (check_files j) j.changes j.labels
IsFaultFound before after (job.NavCheck j) = (x : LabelFault) × IsJudged before after (Some (section.Fault x)) (grid_files j.sources) j.changes j.labels
IsFaultFound before after _ = ⊥

-- the job was done, and what came of it was written
abbrev pub IsDone : (before after : DeskState) → (old : List Entry) → Job → Type 0
IsDone before after old (job.Plan j) = IsReported before after old (plan_files j) j.changes j.search j.outputs
IsDone before after old (job.Check j) = IsJudged before after None (check_files j) j.changes j.labels
IsDone before after old (job.Sweep from) = IsListed before after from
IsDone before after old (job.Demo d) = IsDemonstrated before after old d
IsDone before after old (job.Nav j) = IsReported before after old (grid_files j.sources) j.changes j.search j.outputs
IsDone before after old (job.NavCheck j) = IsJudged before after None (grid_files j.sources) j.changes j.labels

-- the job was refused with this status, for a cause, and the line of the refusal was written, and nothing under names other than
-- that of the standard output
pub record IsRefused (before after : DeskState) (status : ℕ) (j : Job) : Type 0 where
  pub refusal : Refusal
  pub has_status : refusal_status refusal ≡ status
  pub cause : IsJobCause before.held (ReadFailed before after) j refusal
  pub line : AreAppended before after (refusal_writes j refusal)
  pub others : StaysBut IsOutput before.written after.written

-- the job `demo` means plans of a demonstration in this world, with this number of batches
abbrev pub IsDemonstration : DemoJob → World → (batches : ℕ) → List PlanRecord → (all : Bool) → (log : List Entry) → (broken : List Found) → Type 0
IsDemonstration d w count records all log broken = (batches : List (List change.Write)) × (count ≡ length batches) × AreDemonstrated d w batches records all log broken

-- a job means to do this
abbrev pub GivesIntent : Told → Names → Job → Intent → Type 0
GivesIntent held Failed j (Refused r) = IsJobCause held Failed j r
GivesIntent held Failed j OutOfMemory = Unit {0}
GivesIntent held Failed (job.Plan j) (Planned records all log broken) = ArePlanned held (plan_files j) j.changes j.search j.outputs records all log broken
GivesIntent held Failed (job.Check j) (Checked goals os end) = IsChecked held (check_files j) j.changes j.labels goals os end
GivesIntent held Failed (job.Sweep from) (Listed w) = ReadsWorld held from w × IsWorld w
GivesIntent held Failed (job.Demo d) (Demonstrated w batches records all log broken) = IsDemonstration d w batches records all log broken
GivesIntent held Failed (job.Nav j) (Planned records all log broken) = ArePlanned held (grid_files j.sources) j.changes j.search j.outputs records all log broken
GivesIntent held Failed (job.NavCheck j) (Checked goals os end) = IsChecked held (grid_files j.sources) j.changes j.labels goals os end
GivesIntent held Failed _ _ = ⊥

-- the name is one that a job which means to do this may write under: besides the standard output only where plans were made, and
-- none where memory runs out before anything is written
abbrev pub IsWrittenFor : Job → Intent → Names
IsWrittenFor j (Planned records all log broken) name = IsOutputOf (outputs_of j) name
IsWrittenFor j OutOfMemory name = ⊥
IsWrittenFor j _ name = IsOutput name

-- a write of what the job means to do failed: those before it were made, and a prefix of it, and nothing under names other than such
-- a job's
pub record IsCutShort (before after : DeskState) (old : List Entry) (j : Job) : Type 0 where
  pub intent : Intent
  pub gives : GivesIntent before.held (ReadFailed before after) j intent
  pub begins : BeginsAfter intent old
  pub cut : IsCutAt before after (writes_of j intent)
  pub others : StaysBut (IsWrittenFor j intent) before.written after.written

-- the first few writes of what the job means to do were made, and nothing under names other than such a job's
pub record EndsWithoutMemory (before after : DeskState) (old : List Entry) (j : Job) : Type 0 where
  pub intent : Intent
  pub gives : GivesIntent before.held (ReadFailed before after) j intent
  pub begins : BeginsAfter intent old
  pub stopped : RunsOutAt before after (writes_of j intent)
  pub others : StaysBut (IsWrittenFor j intent) before.written after.written

-- how a job ends, by the program's status, and what was published before it and after
pub record EndsJob (before after : DeskState) (old new : List Entry) (j : Job) (status : ℕ) : Type 0 where
  pub intent : Intent
  pub gives : GivesIntent before.held (ReadFailed before after) j intent
  pub ends : EndsAs before after (writes_of j intent) (intent_status intent) status
  pub others : StaysBut (IsWrittenFor j intent) before.written after.written
  pub begins : BeginsAfter intent old
  pub published : new ≡ published_by intent old

-- How the making of plans, the first of which is plan k, ends by the program's status; what was published and what people were to be told before it, and
-- after. What is written and what is told of a plan is given, and it is told where all were made and written.
pub record EndsPlans {W : Type 0} (by : PlannerOn W) (written_of : PlanRecord → List Write) (told_of : PlanRecord → List ℕ) (w : W) (batches : List (List change.Write)) (how : SearchJob) (outputs : Outputs) (starts : ℕ → ℕ) (goal k : ℕ) (log shown : List Entry) (told why : List ℕ) (left : Before) (before after : DeskState) (status : ℕ) : Type 0 where
  pub records : List PlanRecord
  pub all : Bool
  pub broken : List Found
  pub each : AreRecords by w batches how outputs starts goal k log left records
  pub broken_in : IsBrokenIn by w batches how outputs starts goal (k + length records) broken
  pub none_broken : all ≡ true → broken ≡ []
  pub shown_is : shown ≡ with_paths (with_plans log records) (k + length records) 0 broken
  pub few : k + length records ≤ length batches + 1
  pub all_made : all ≡ true → k + length records ≡ length batches + 1
  pub ends : EndsAs before after (flat_map written_of records ++ end_writes all) (plans_status all) status
  pub why_is : why ≡ (if status == 0 then told ++ flat_map told_of records else [])

-- how a run ends, whose words name a job or none, and what was published before it and after
pub data EndsRun (named : Option Job) (before after : DeskState) (old new : List Entry) (status : ℕ) : Type 0 where
  by_job : (j : Job) → named ≡ Some j → EndsJob before after old new j status → EndsRun named before after old new status
  by_words : named ≡ None → EndsAs before after words_writes 2 status → new ≡ old → EndsRun named before after old new status
  by_memory : status ≡ 9 → Stays before.written after.written → new ≡ old → EndsRun named before after old new status

-- the name is one that the job may write under
abbrev pub MayBeWritten : Option Job → Names
MayBeWritten (Some (job.Plan j)) name = IsOutputOf j.outputs name
MayBeWritten (Some (job.Nav j)) name = IsOutputOf j.outputs name
MayBeWritten _ name = IsOutput name

-- a write under a name that the job may write under failed in this call
abbrev pub SomeRose : Option Job → (before after : DeskState) → Type 0
SomeRose named before after = (name : List ℕ) × MayBeWritten named name × WriteFailed before after name

-- the status is one of the program's
abbrev pub IsStatus : ℕ → Type 0
IsStatus s = IsTrue (list_any (λ t. t == s) statuses)

-- the status is this one, unless a read or a write failed or memory ran out
abbrev pub IsOrFailed : ℕ → ℕ → Type 0
IsOrFailed wanted status = (status ≡ wanted) ⊎ ((status ≡ 6) ⊎ ((status ≡ 7) ⊎ (status ≡ 9)))

-- the status is this one, unless a write failed or memory ran out
abbrev pub IsOrUnwritten : ℕ → ℕ → Type 0
IsOrUnwritten wanted status = (status ≡ wanted) ⊎ ((status ≡ 7) ⊎ (status ≡ 9))

-- ---- what the desk tells that it holds (`Tells..`); what a job read, of which a desk may tell nothing, is `Reads..` of Causes

-- the desk tells that it holds these bytes, at most 2 ^ 30
pub record Tells (held : Option (List ℕ)) (text : List ℕ) : Type 0 where
  pub held_bytes : held ≡ Some text
  pub short : length text ≤ 2 ^ 30

-- the desk tells that it holds more than 2 ^ 30 bytes
abbrev pub TellsTooMuch : Option (List ℕ) → Type 0
TellsTooMuch held = (text : List ℕ) × (held ≡ Some text) × (2 ^ 30 < length text)

-- the desk tells that the environment file has this first fault
abbrev pub TellsEnvironmentFault : Told → Sources → EnvFault → Type 0
TellsEnvironmentFault held from f = (text : List ℕ) × Tells (held from.env) text × HasEnvironmentFault from.states text f

-- the desk tells that the environment file, with the start and the goal of the words, stands for this environment
abbrev pub TellsEnvironment : Told → Sources → Environment → Type 0
TellsEnvironment held from e = (text : List ℕ) × (cells : List ℕ) × Tells (held from.env) text × IsEnvironmentFor from text e cells

-- the desk tells that it stands for one, and that this end that the words give is off its map
abbrev pub TellsEndOff : Told → Sources → PathEnd → Type 0
TellsEndOff held from end = (text : List ℕ) × Tells (held from.env) text × HasEndOff from text end

-- the desk tells that the primitive file has this first fault, for an environment
abbrev pub TellsPrimitiveFault : Told → Sources → Environment → PrimFault → Type 0
TellsPrimitiveFault held from e f = (text : List ℕ) × Tells (held from.prims) text × HasPrimitiveFault e text f

-- the desk tells that the primitive file stands for these primitives, for an environment
abbrev pub TellsPrimitives : Told → Sources → Environment → Primitives → Type 0
TellsPrimitives held from e ps = (text : List ℕ) × Tells (held from.prims) text × IsPrimitiveText e text ps

-- the desk tells that the environment file gives a change file this scope, where the robot moves or not
abbrev pub TellsScope : Told → Sources → (moving : Bool) → Scope → Type 0
TellsScope held from moving s = (text : List ℕ) × (e : Environment) × (cells : List ℕ) × Tells (held from.env) text × IsEnvironmentFor from text e cells × (s ≡ scope_for from.states moving e (record { width = e.width; height = e.height; costs = cells }))

-- the desk tells that the change file has this first fault
abbrev pub TellsChangeFault : Told → Option (List ℕ) → Scope → ChangeFault → Type 0
TellsChangeFault held changes s f = (name : List ℕ) × (text : List ℕ) × (changes ≡ Some name) × Tells (held name) text × HasChangeFault s text f

-- the desk tells that the change file stands for map updates; where there is none, there are no batches
abbrev pub TellsUpdates : Told → Option (List ℕ) → Scope → Updates → Type 0
TellsUpdates held None s c = c ≡ still []
TellsUpdates held (Some name) s c = (text : List ℕ) × Tells (held name) text × IsChangeText s text c

-- the desk tells that the files stand for this world
pub record TellsWorld (held : Told) (from : Sources) (w : World) : Type 0 where
  pub environment : TellsEnvironment held from w.env
  pub primitives : TellsPrimitives held from w.env w.prims
  pub says : ReadsWorld held from w
  pub is_world : IsWorld w

-- the desk tells that the files stand for an environment, which gives a change file this scope, and for primitives, of which none is
-- too wide or too dear
pub record AreGood (held : Told) (from : Sources) (moving : Bool) (s : Scope) : Type 0 where
  pub env : Environment
  pub prims : Primitives
  pub environment : TellsEnvironment held from env
  pub primitives : TellsPrimitives held from env prims
  pub narrow : NoneTooWide prims from.radius
  pub cheap : NoneTooDear env prims
  pub scope : TellsScope held from moving s

-- the files of the job's lattice, if it reads any
abbrev pub sources_of : Job → Option Sources
sources_of (job.Plan j) = Some j.sources
sources_of (job.Check j) = Some j.sources
sources_of (job.Sweep from) = Some from
sources_of _ = None

-- the words name a job that reads these files of a lattice
abbrev pub ReadsFrom : Option Job → Sources → Type 0
ReadsFrom named from = AtJob named (λ j. sources_of j ≡ Some from)

-- what the job's grid is made of, if it is one on a grid
abbrev pub grid_of : Job → Option GridSources
grid_of (job.Nav j) = Some j.sources
grid_of (job.NavCheck j) = Some j.sources
grid_of _ = None

-- the words name a job on this grid
abbrev pub IsOnGrid : Option Job → GridSources → Type 0
IsOnGrid named from = AtJob named (λ j. grid_of j ≡ Some from)

-- the desk tells that the environment file of a grid has this first fault
abbrev pub TellsGridFault : Told → GridSources → EnvFault → Type 0
TellsGridFault held from f = (text : List ℕ) × Tells (held from.env) text × HasGridFault from.states text f

-- the desk tells that it stands for an environment, and that this end that the words give is off its map
abbrev pub TellsGridEndOff : Told → GridSources → PathEnd → Type 0
TellsGridEndOff held from end = (text : List ℕ) × Tells (held from.env) text × HasGridEndOff from text end

-- the desk tells that it stands for this world, with the start and the goal of the words
pub record TellsGrid (held : Told) (from : GridSources) (w : GridWorld) : Type 0 where
  pub text : List ℕ
  pub cells : List ℕ
  pub told : Tells (held from.env) text
  pub stands : IsGridFor from text w.env cells
  pub map : w.map ≡ record { width = w.env.width; height = w.env.height; costs = cells }
  pub is_world : IsGridWorld w

-- the job's change file, if it reads one
abbrev pub changes_of : Job → Option (List ℕ)
changes_of (job.Plan j) = j.changes
changes_of (job.Check j) = j.changes
changes_of (job.Nav j) = j.changes
changes_of (job.NavCheck j) = j.changes
changes_of _ = None

-- the job is neither `check` nor `navcheck`
abbrev pub IsNoCheck : Job → Type 0
IsNoCheck (job.Check j) = ⊥
IsNoCheck (job.NavCheck j) = ⊥
IsNoCheck _ = Unit {0}
