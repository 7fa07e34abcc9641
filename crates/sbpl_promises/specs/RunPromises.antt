-- What `run` promises, of every desk: how the status and what is written come of the job that the words name and of the files.
use Rattle.std.specs.Prelude.{◌≡◌, ◌≢◌, ◌⊎◌, ℕ, List, None, Option, Some}
use Rattle.sbpl_desk.specs.Desk.{DeskState}
use Rattle.sbpl_promises.specs.Published.{Entry}
use Rattle.sbpl_promises.specs.Promises.{EndsRun}
use Rattle.sbpl_promises.specs.Run.{AreGood, ArePrefixes, AreTold, AtJob, CallsFor, ChangeFault, CheckJob, Updates, DemoJob, EndsJob, EndsWithoutMemory, EnvFault, Environment, GridSources, GridWorld, Intent, IsCheckedIn, IsCutShort, IsDeterminedJob, IsDone, IsFaultFound, IsFirstTooDear, IsFirstTooWide, IsFlawFound, IsHolding, IsNoCheck, IsNoFailure, IsOnGrid, IsOrFailed, IsOrUnwritten, IsRefused, IsStatus, Job, NavCheckJob, EnvFault, NoneRose, NoneTooWide, Outcome, PathEnd, PrimFault, Primitives, ReadsFrom, Scope, SectionStop, SomeRose, Sources, Tells, TellsChangeFault, TellsUpdates, TellsEndOff, TellsEnvironment, TellsEnvironmentFault, TellsGrid, TellsGridEndOff, TellsGridFault, TellsPrimitiveFault, TellsPrimitives, TellsTooMuch, TellsWorld, World, changes_of, checked_status, grid_of, grid_scope, grid_site, intent_status, lattice_site, moves_in, scope_of, searched_on, sources_of, words_writes, writes_of}
use Rattle.sbpl_promises.specs.Writing.{AreAppended, IsCutAt, RunsOutAt, Stays}
use Rattle.sbpl_promises.specs.declared.section_stop.SectionStop.TheVariants as Stops
use Rattle.sbpl_report.specs.sbpl_job.declared.job.Job.TheVariants as Jobs

-- where these are the job that the words name, the desk before and after, what was published before and after, and the status that is
-- answered
pub record RunPromises (named : Option Job) (before after : DeskState) (old new : List Entry) (status : ℕ) : Type 0 where
  pub statuses : IsStatus status
  -- 0: the job was done. Plans of the job's files were made, on the lattice or on the grid that these stand for, one on the map as it
  -- is and one after each batch of changes, which keep their promises, and their report, and their labels and traces where they are asked for, were written; or the labels hold;
  -- or what each primitive costs and sweeps was listed; or plans on an example were made, and a line for each was written.
  pub done : status ≡ 0 → AtJob named (IsDone before after old)
  -- 1: the job `check` or `navcheck` found a first flaw in a section of the labels, after sections that hold, and a line says so.
  pub flaw : status ≡ 1 → AtJob named (IsFlawFound before after)
  -- 10: it found a first fault in the text of the labels, after sections that hold, and a line says so.
  pub fault : status ≡ 10 → AtJob named (IsFaultFound before after)
  -- 2: the words name no job, and a line says so; or they give a start or a goal that is off the map, and the line is the same.
  pub words : status ≡ 2 → ((named ≡ None) × AreAppended before after words_writes) ⊎ AtJob named (IsRefused before after 2)
  -- 3, 4, 5, 6, 8: the job was refused for a cause, a line says which, and nothing else was written.
  pub environment : status ≡ 3 → AtJob named (IsRefused before after 3)
  pub primitives : status ≡ 4 → AtJob named (IsRefused before after 4)
  pub changes : status ≡ 5 → AtJob named (IsRefused before after 5)
  pub unread : status ≡ 6 → AtJob named (IsRefused before after 6)
  pub too_long : status ≡ 8 → AtJob named (IsRefused before after 8)
  -- 7: a write failed, and the writes before it and a prefix of it stand there, on the standard output alone where the job means a refusal.
  pub write : status ≡ 7 → SomeRose named before after
  pub cut : status ≡ 7 → AtJob named (IsCutShort before after old) ⊎ ((named ≡ None) × IsCutAt before after words_writes)
  -- 9: memory ran out, and the first few writes stand there, on the standard output alone where the job means a refusal.
  pub memory : status ≡ 9 → AtJob named (EndsWithoutMemory before after old) ⊎ (((named ≡ None) × RunsOutAt before after words_writes) ⊎ Stays before.written after.written)
  -- What was published grew by exactly one entry for each pass whose walk gave a path, in order, with its plan, pass, cost and bound:
  -- for the plans that were made, and where memory ran out in one for its passes so far. Where no plans are made it stays.
  pub published : AtJob named (λ j. EndsJob before after old new j status) ⊎ (((named ≡ None) ⊎ (status ≡ 9)) × (new ≡ old))
  -- Words that name no job are refused, unless a write fails or memory runs out.
  pub no_job : named ≡ None → IsOrUnwritten 2 status
  -- A cause that the desk tells is answered, unless the desk fails or memory runs out.
  pub environment_faulty : (from : Sources) (f : EnvFault) → ReadsFrom named from → TellsEnvironmentFault before.held from f → IsOrFailed 3 status
  pub environment_long : (from : Sources) → ReadsFrom named from → TellsTooMuch (before.held from.env) → IsOrFailed 8 status
  pub end_off : (from : Sources) (end : PathEnd) → ReadsFrom named from → TellsEndOff before.held from end → IsOrFailed 2 status
  pub primitives_long : (from : Sources) (e : Environment) → ReadsFrom named from → TellsEnvironment before.held from e → TellsTooMuch (before.held from.prims) → IsOrFailed 8 status
  pub primitives_faulty : (from : Sources) (e : Environment) (f : PrimFault) → ReadsFrom named from → TellsEnvironment before.held from e → TellsPrimitiveFault before.held from e f → IsOrFailed 4 status
  pub too_wide : (from : Sources) (e : Environment) (ps : Primitives) (i : ℕ) → ReadsFrom named from → TellsEnvironment before.held from e → TellsPrimitives before.held from e ps → IsFirstTooWide ps from.radius i → IsOrFailed 4 status
  pub too_dear : (from : Sources) (e : Environment) (ps : Primitives) (i : ℕ) → ReadsFrom named from → TellsEnvironment before.held from e → TellsPrimitives before.held from e ps → NoneTooWide ps from.radius → IsFirstTooDear e ps.items i → IsOrFailed 4 status
  pub changes_long : (job : Job) (from : Sources) (s : Scope) (name : List ℕ) → named ≡ Some job → sources_of job ≡ Some from → AreGood before.held from (moves_in job) s → changes_of job ≡ Some name → TellsTooMuch (before.held name) → IsOrFailed 8 status
  pub changes_faulty : (job : Job) (from : Sources) (s : Scope) (f : ChangeFault) → named ≡ Some job → sources_of job ≡ Some from → AreGood before.held from (moves_in job) s → TellsChangeFault before.held (changes_of job) s f → IsOrFailed 5 status
  -- The same of a job on a grid, which has no primitives.
  pub grid_faulty : (from : GridSources) (f : EnvFault) → IsOnGrid named from → TellsGridFault before.held from f → IsOrFailed 3 status
  pub grid_long : (from : GridSources) → IsOnGrid named from → TellsTooMuch (before.held from.env) → IsOrFailed 8 status
  pub grid_end_off : (from : GridSources) (end : PathEnd) → IsOnGrid named from → TellsGridEndOff before.held from end → IsOrFailed 2 status
  pub grid_changes_long : (job : Job) (from : GridSources) (w : GridWorld) (name : List ℕ) → named ≡ Some job → grid_of job ≡ Some from → TellsGrid before.held from w → changes_of job ≡ Some name → TellsTooMuch (before.held name) → IsOrFailed 8 status
  pub grid_changes_faulty : (job : Job) (from : GridSources) (w : GridWorld) (f : ChangeFault) → named ≡ Some job → grid_of job ≡ Some from → TellsGrid before.held from w → TellsChangeFault before.held (changes_of job) (grid_scope from.states w) f → IsOrFailed 5 status
  -- Good words and good files are served, unless the desk fails or memory runs out.
  pub complete : (job : Job) (from : Sources) (s : Scope) (c : Updates) → named ≡ Some job → sources_of job ≡ Some from → AreGood before.held from (moves_in job) s → TellsUpdates before.held (changes_of job) s c → IsNoCheck job → IsOrFailed 0 status
  pub grid_complete : (job : Job) (from : GridSources) (w : GridWorld) (c : Updates) → named ≡ Some job → grid_of job ≡ Some from → TellsGrid before.held from w → TellsUpdates before.held (changes_of job) (grid_scope from.states w) c → IsNoCheck job → IsOrFailed 0 status
  pub demonstrated : (d : DemoJob) → named ≡ Some (Jobs.Demo d) → IsOrUnwritten 0 status
  -- The job `check` ends as the labels do in the world that the files stand for, unless the desk fails or memory runs out.
  pub checked : (j : CheckJob) (w : World) (c : Updates) (text : List ℕ) (goals : ℕ → ℕ) (os : List Outcome) (end : Option SectionStop) → named ≡ Some (Jobs.Check j) → TellsWorld before.held j.sources w → TellsUpdates before.held j.changes (scope_of j.sources.states j.back w) c → Tells (before.held j.labels) text → IsCheckedIn IsHolding (searched_on lattice_site j.back) w c text goals os end → end ≢ Some Stops.NoMemory → IsOrFailed (checked_status end) status
  pub labels_long : (j : CheckJob) (w : World) (c : Updates) → named ≡ Some (Jobs.Check j) → TellsWorld before.held j.sources w → TellsUpdates before.held j.changes (scope_of j.sources.states j.back w) c → TellsTooMuch (before.held j.labels) → IsOrFailed 8 status
  -- and `navcheck` likewise.
  pub grid_checked : (j : NavCheckJob) (w : GridWorld) (c : Updates) (text : List ℕ) (goals : ℕ → ℕ) (os : List Outcome) (end : Option SectionStop) → named ≡ Some (Jobs.NavCheck j) → TellsGrid before.held j.sources w → TellsUpdates before.held j.changes (grid_scope j.sources.states w) c → Tells (before.held j.labels) text → IsCheckedIn IsHolding grid_site w c text goals os end → end ≢ Some Stops.NoMemory → IsOrFailed (checked_status end) status
  pub grid_labels_long : (j : NavCheckJob) (w : GridWorld) (c : Updates) → named ≡ Some (Jobs.NavCheck j) → TellsGrid before.held j.sources w → TellsUpdates before.held j.changes (grid_scope j.sources.states w) c → TellsTooMuch (before.held j.labels) → IsOrFailed 8 status
  -- Where no read or write failed and memory did not run out, the words and the files call for something, so the next clause never
  -- stands empty. Plans by a planner whose passes are not determined are not called for.
  pub called : (job : Job) → named ≡ Some job → IsDeterminedJob job → IsNoFailure status → (whole : Intent) × CallsFor before.held old job whole
  -- What is written is determined by the words and the files: whatever these call for is written whole, with its status, unless a
  -- read or a write failed or memory ran out.
  pub determined : (job : Job) (whole : Intent) → named ≡ Some job → AreTold before.held job → CallsFor before.held old job whole → IsNoFailure status → (status ≡ intent_status whole) × AreAppended before after (writes_of job whole)
  -- And where no read failed, what was written under each name is a prefix of that.
  pub prefix : (job : Job) (whole : Intent) → named ≡ Some job → AreTold before.held job → NoneRose job before after → CallsFor before.held old job whole → ArePrefixes before after (writes_of job whole)

-- however a run ends, it keeps every promise
abbrev pub RunsKeepPromises : Type 0
RunsKeepPromises = (named : Option Job) (before after : DeskState) (old new : List Entry) (status : ℕ) → EndsRun named before after old new status → RunPromises named before after old new status
