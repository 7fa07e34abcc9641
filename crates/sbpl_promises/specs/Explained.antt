-- What people are told of a run: why it did not do its job, or why plans of it have no path.
use Rattle.std.specs.Prelude.{◌≡◌, ◌==◌, ◌&&◌, ◌||◌, ℕ, Bool, true, false, List, [], Option, Some, None, codes}
use Rattle.sbpl_report.specs.sbpl_cfg.Environment.{Environment}
use Rattle.sbpl_report.specs.sbpl_cfg.Faults as env_faults
use Rattle.sbpl_report.specs.sbpl_cfg.declared.fault.EnvFault.{EnvFault}
use Rattle.sbpl_report.specs.sbpl_mprim.Faults as prim_faults
use Rattle.sbpl_report.specs.sbpl_mprim.declared.fault.PrimFault.{PrimFault}
use Rattle.sbpl_report.specs.sbpl_map.Faults as change_faults
use Rattle.sbpl_report.specs.sbpl_map.declared.fault.ChangeFault.{ChangeFault}
use Rattle.sbpl_report.specs.sbpl_cert.Faults as label_faults
use Rattle.sbpl_report.specs.sbpl_cert.declared.fault.LabelFault.{LabelFault}
use Rattle.sbpl_report.specs.sbpl_lists.Messages.{IsMessageAt, IsMessageOnLine, IsPlainMessage}
use Rattle.sbpl_report.specs.sbpl_job.declared.job.Job.{Job}
use Rattle.sbpl_report.specs.sbpl_job.declared.job.Job.TheVariants as job
use Rattle.sbpl_report.specs.sbpl_job.declared.job.Outputs.{Outputs}
use Rattle.sbpl_report.specs.sbpl_job.declared.job.SearchJob.{SearchJob}
use Rattle.sbpl_report.specs.sbpl_job.declared.job.Sources.{Sources}
use Rattle.sbpl_report.specs.declared.refusal.Input.{Input}
use Rattle.sbpl_report.specs.declared.refusal.Input.TheVariants as input
use Rattle.sbpl_report.specs.declared.refusal.Refusal.{Refusal}
use Rattle.sbpl_report.specs.declared.refusal.Refusal.TheVariants as refusal
use Rattle.sbpl_report.specs.declared.refusal.JobStop.{JobStop}
use Rattle.sbpl_report.specs.declared.refusal.JobStop.TheVariants as stop
use Rattle.sbpl_report.specs.Refusals.{file_name, input_name}
use Rattle.sbpl_promises.specs.declared.section_stop.SectionStop.TheVariants as section
use Rattle.sbpl_promises.specs.Blocked.{blocked_lines}
use Rattle.sbpl_promises.specs.Causes.{IsReadText, check_files, grid_files, plan_files}
pub use Rattle.sbpl_promises.specs.Causes.{program}
use Rattle.sbpl_promises.specs.Promises.{AtJob, IsJudged, IsRefused, IsReported}
use Rattle.sbpl_promises.specs.Published.{Entry}
use Rattle.sbpl_promises.specs.Texts.{HasChangeFault, HasEnvironmentFault, HasGridFault, HasPrimitiveFault, Scope}
use Rattle.sbpl_promises.specs.WorldFiles.{WorldFiles}
use Rattle.sbpl_promises.specs.Writing.{DeskState, Told}

-- a job that makes plans, of which people may be told why there is no path
abbrev pub is_planning : Option Job → Bool
is_planning (Some (job.Plan j)) = true
is_planning (Some (job.Nav j)) = true
is_planning _ = false

-- the statuses of which people are told more: 0 where a plan may have no path, 1 for a flaw in labels, 2 for words, 3, 4, 5 and 10 for a fault
-- in a file, 6 and 7 for a read and a write that failed
abbrev pub has_message : Option Job → ℕ → Bool
has_message named s = ((s == 0) && is_planning named) || (s == 1) || (s == 2) || (s == 3) || (s == 4) || (s == 5) || (s == 6) || (s == 7) || (s == 10)

-- a message on the first fault of the file of this name, of a format whose faults have places
pub record IsOnFault {F : Type 0} (HasFault : List ℕ → F → Type 0) (place_of : F → ℕ) (held : Told) (name : List ℕ) (f : F) (m : List ℕ) : Type 0 where
  pub text : List ℕ
  pub read : IsReadText (held name) text
  pub first : HasFault text f
  pub message : IsMessageAt name text (place_of f) m

-- a message on the line of the first fault of the change file of this name
pub record IsOnLine (held : Told) (name : List ℕ) (f : ChangeFault) (m : List ℕ) : Type 0 where
  pub text : List ℕ
  pub read : IsReadText (held name) text
  pub scope : Scope
  pub first : HasChangeFault scope text f
  pub message : IsMessageOnLine name (change_faults.line_of f) m

-- the text of an environment file, of a lattice or of a grid, has this first fault, under some limit of states
abbrev pub HasSomeEnvironmentFault : List ℕ → EnvFault → Type 0
HasSomeEnvironmentFault text f = (states : ℕ) × HasEnvironmentFault states text f

abbrev pub HasSomeGridFault : List ℕ → EnvFault → Type 0
HasSomeGridFault text f = (states : ℕ) × HasGridFault states text f

-- the text of a primitive file has this first fault, for some environment
abbrev pub HasSomePrimitiveFault : List ℕ → PrimFault → Type 0
HasSomePrimitiveFault text f = (e : Environment) × HasPrimitiveFault e text f

-- What is told of a refusal, where files have these names: the place of the fault in its file, and what stands there; or which file it is
-- on, or that it is on the words. Of a file that is too long nothing is told but its line in the report.
abbrev pub Explains : Told → (Input → List ℕ) → Refusal → List ℕ → Type 0
Explains held names (refusal.Environment f) m = IsOnFault HasSomeEnvironmentFault env_faults.place_of held (names input.Environment) f m
Explains held names (refusal.Grid f) m = IsOnFault HasSomeGridFault env_faults.place_of held (names input.Environment) f m
Explains held names (refusal.OffMap end) m = IsPlainMessage program m
Explains held names (refusal.Primitives f) m = IsOnFault HasSomePrimitiveFault prim_faults.place_of held (names input.Primitives) f m
Explains held names (refusal.TooWide i) m = IsPlainMessage (names input.Primitives) m
Explains held names (refusal.TooDear i) m = IsPlainMessage (names input.Primitives) m
Explains held names (refusal.Changes f) m = IsOnLine held (names input.Changes) f m
Explains held names (refusal.Read i) m = IsPlainMessage (names i) m
Explains held names (refusal.Length i) m = m ≡ []

-- what is told of a stop, where files have these names
abbrev pub ExplainsStop : Told → (Input → List ℕ) → JobStop → Type 0
ExplainsStop held names (stop.Refused r m) = Explains held names r m
ExplainsStop held names stop.NoMemory = Unit {0}

-- of a stop for the files of a lattice, whatever other files the job reads
abbrev pub ExplainsLattice : Told → Sources → JobStop → Type 0
ExplainsLattice held from s = (changes labels : Option (List ℕ)) → ExplainsStop held (file_name from.env (Some from.prims) changes labels) s

-- for these, or for the change file
abbrev pub ExplainsUpdates : Told → Sources → (changes : Option (List ℕ)) → JobStop → Type 0
ExplainsUpdates held from changes s = (labels : Option (List ℕ)) → ExplainsStop held (file_name from.env (Some from.prims) changes labels) s

-- for the change file
abbrev pub ExplainsChanges : Told → (changes : Option (List ℕ)) → JobStop → Type 0
ExplainsChanges held changes s = (env : List ℕ) (prims labels : Option (List ℕ)) → ExplainsStop held (file_name env prims changes labels) s

-- for the file of a grid
abbrev pub ExplainsGrid : Told → (env : List ℕ) → JobStop → Type 0
ExplainsGrid held env s = (changes labels : Option (List ℕ)) → ExplainsStop held (file_name env None changes labels) s

-- for it, or for its change file
abbrev pub ExplainsGridUpdates : Told → (env : List ℕ) → (changes : Option (List ℕ)) → JobStop → Type 0
ExplainsGridUpdates held env changes s = (labels : Option (List ℕ)) → ExplainsStop held (file_name env None changes labels) s

-- what is told where a write failed
abbrev pub unwritten_text : List ℕ
unwritten_text = codes "temjoask: a write failed: to the standard output, or to the file of --labels, --trace or --incumbent\n"

-- A fault of the file of labels was found, the line of the report says which, and the message has its place: that of the same fault in the
-- same text.
pub record IsFaultExplained {W : Type 0} (before after : DeskState) (f : WorldFiles W) (changes : Option (List ℕ)) (labels : List ℕ) (m : List ℕ) : Type 0 where
  pub fault : LabelFault
  pub judged : IsJudged before after (Some (section.Fault fault)) f changes labels
  pub message : IsMessageAt labels judged.checked.text (label_faults.place_of fault) m

-- the same of a job that checks labels
abbrev pub IsLabelFaultExplained : (before after : DeskState) → Job → List ℕ → Type 0
IsLabelFaultExplained before after (job.Check j) m = IsFaultExplained before after (check_files j) j.changes j.labels m
IsLabelFaultExplained before after (job.NavCheck j) m = IsFaultExplained before after (grid_files j.sources) j.changes j.labels m
IsLabelFaultExplained before after _ m = ⊥

-- a message on the file of labels of a job that checks them, where they have a flaw, which the report says
abbrev pub IsFlawExplained : Job → List ℕ → Type 0
IsFlawExplained (job.Check j) m = IsPlainMessage j.labels m
IsFlawExplained (job.NavCheck j) m = IsPlainMessage j.labels m
IsFlawExplained _ m = ⊥

-- Plans of these files were reported, and on the file of this name a line is told of each that has no path for a simple reason, in order.
pub record IsBlockExplained {W : Type 0} (before after : DeskState) (old : List Entry) (f : WorldFiles W) (changes : Option (List ℕ)) (search : SearchJob) (outputs : Outputs) (name m : List ℕ) : Type 0 where
  pub reported : IsReported before after old f changes search outputs
  pub message : m ≡ blocked_lines name reported.records

-- what is told of a job that was done: why plans have no path, on its environment file, where that is simple; and nothing of any other job
abbrev pub IsToldDone : (before after : DeskState) → (old : List Entry) → Job → List ℕ → Type 0
IsToldDone before after old (job.Plan j) m = IsBlockExplained before after old (plan_files j) j.changes j.search j.outputs j.sources.env m
IsToldDone before after old (job.Nav j) m = IsBlockExplained before after old (grid_files j.sources) j.changes j.search j.outputs j.sources.env m
IsToldDone before after old _ m = m ≡ []

-- What is told of a job that ended with a status: of its refusal, whose line the report has; of a flaw or a fault in its labels; that a write
-- failed; where it was done, why plans have no path, if that is simple; or nothing, where memory ran out. These entries were published before it.
pub data IsToldOf (before after : DeskState) (old : List Entry) (j : Job) (status : ℕ) (m : List ℕ) : Type 0 where
  of_refusal : (x : IsRefused before after status j) → Explains before.held (input_name j) x.refusal m → IsToldOf before after old j status m
  of_done : status ≡ 0 → IsToldDone before after old j m → IsToldOf before after old j status m
  of_flaw : status ≡ 1 → IsFlawExplained j m → IsToldOf before after old j status m
  of_labels : status ≡ 10 → IsLabelFaultExplained before after j m → IsToldOf before after old j status m
  of_write : status ≡ 7 → m ≡ unwritten_text → IsToldOf before after old j status m
  nothing : status ≡ 9 → m ≡ [] → IsToldOf before after old j status m

-- What is told of a run, whose words name a job or none: of the job; of the words; that a write failed; or nothing, where memory ran out.
pub data IsTold (named : Option Job) (before after : DeskState) (old : List Entry) (status : ℕ) (m : List ℕ) : Type 0 where
  by_job : AtJob named (λ j. IsToldOf before after old j status m) → IsTold named before after old status m
  of_words : named ≡ None → status ≡ 2 → IsPlainMessage program m → IsTold named before after old status m
  unwritten : status ≡ 7 → m ≡ unwritten_text → IsTold named before after old status m
  out_of_memory : status ≡ 9 → m ≡ [] → IsTold named before after old status m
