-- What the files that a world is made of say, and why a job on it is refused. `Reads..`: what a job read, which is what the desk
-- holds as far as it tells. That the desk tells it is `Tells..` of Promises.
use Rattle.std.specs.Prelude.{◌≡◌, ◌≢◌, ℕ, ◌^◌, ◌<◌, ◌≤◌, ◌⊎◌, Bool, false, List, [], length, slice_get, Option, Some, None, IfSome, codes}
use Rattle.sbpl_report.specs.sbpl_cfg.declared.fault.EnvFault.{EnvFault}
use Rattle.sbpl_report.specs.sbpl_cfg.Environment.{Environment}
use Rattle.sbpl_report.specs.sbpl_cfg.declared.pose.Place.{Place}
use Rattle.sbpl_report.specs.sbpl_mprim.declared.fault.PrimFault.{PrimFault}
use Rattle.sbpl_report.specs.sbpl_mprim.declared.prim.Primitive.{Primitive}
use Rattle.sbpl_report.specs.sbpl_mprim.Primitives.{Primitives}
use Rattle.sbpl_report.specs.sbpl_sweep.Swept.{AreSweepsOf}
use Rattle.sbpl_report.specs.sbpl_sweep.Widths.{IsFirstTooWide, NoneTooWide}
use Rattle.sbpl_report.specs.sbpl_map.ChangeText.{AreOnMap, ArePlacesOnMap}
use Rattle.sbpl_report.specs.sbpl_map.declared.fault.ChangeFault.{ChangeFault}
use Rattle.sbpl_report.specs.sbpl_map.declared.write.Write.{Write}
use Rattle.sbpl_demo.specs.Changes.{changes_drawn}
use Rattle.sbpl_demo.specs.Environment.{costs, environment}
use Rattle.sbpl_demo.specs.Primitives.{primitives}
use Rattle.sbpl_report.specs.sbpl_cost.PrimitiveCost.{IsFirstTooDear, most_cost, primitive_cost}
use Rattle.sbpl_report.specs.sbpl_cost.World.{World}
use Rattle.sbpl_report.specs.declared.refusal.Input.{Input}
use Rattle.sbpl_report.specs.declared.refusal.Input.TheVariants as input
use Rattle.sbpl_report.specs.declared.refusal.Refusal.{Refusal}
use Rattle.sbpl_report.specs.declared.refusal.Refusal.TheVariants as refusal
use Rattle.sbpl_report.specs.Refusals.{refusal_status}
use Rattle.sbpl_report.specs.declared.refusal.JobStop.{JobStop}
use Rattle.sbpl_report.specs.declared.refusal.JobStop.TheVariants as stop
use Rattle.sbpl_report.specs.sbpl_job.declared.job.Job.{Job}
use Rattle.sbpl_report.specs.sbpl_job.declared.job.Job.TheVariants as job
use Rattle.sbpl_report.specs.sbpl_job.Jobs.{may_move}
use Rattle.sbpl_report.specs.sbpl_job.declared.job.CheckJob.{CheckJob}
use Rattle.sbpl_report.specs.sbpl_job.declared.job.DemoJob.{DemoJob}
use Rattle.sbpl_report.specs.sbpl_job.declared.job.LabelForm.TheVariants as form
use Rattle.sbpl_report.specs.sbpl_job.declared.job.Outputs.{Outputs}
use Rattle.sbpl_report.specs.sbpl_job.declared.job.PlanJob.{PlanJob}
use Rattle.sbpl_report.specs.sbpl_job.declared.job.Planner.TheVariants as planner
use Rattle.sbpl_report.specs.sbpl_job.declared.job.SearchJob.{SearchJob}
use Rattle.sbpl_report.specs.sbpl_job.declared.job.GridSources.{GridSources}
use Rattle.sbpl_report.specs.sbpl_job.declared.job.Sources.{Sources}
use Rattle.sbpl_report.specs.declared.refusal.PathEnd.{PathEnd}
use Rattle.sbpl_report.specs.declared.record.PlanRecord.{PlanRecord}
use Rattle.sbpl_report.specs.sbpl_plan.declared.found.Found.{Found}
use Rattle.sbpl_promises.specs.Headline.{ArePlans}
use Rattle.sbpl_promises.specs.GridSite.{grid_site}
use Rattle.sbpl_promises.specs.LatticeSite.{lattice_site}
use Rattle.sbpl_nav2d.specs.World.{GridWorld}
use Rattle.sbpl_promises.specs.Sites.{Site}
use Rattle.sbpl_promises.specs.WorldFiles.{WorldFiles}
use Rattle.sbpl_promises.specs.Published.{Entry}
use Rattle.sbpl_promises.specs.Writing.{DeskState, IsNamed, Names, ReadFailed, Told}
use Rattle.sbpl_promises.specs.declared.updates.Updates.{Updates}
use Rattle.sbpl_report.specs.sbpl_cfg.Faults as env_faults
use Rattle.sbpl_report.specs.sbpl_lists.Messages.{IsMessageAt, IsMessageOnLine, IsPlainMessage}
use Rattle.sbpl_report.specs.sbpl_map.Faults as change_faults
use Rattle.sbpl_report.specs.sbpl_mprim.Faults as prim_faults
use Rattle.sbpl_promises.specs.Texts.{HasEndOff, HasGridEndOff, IsFirstOff, IsEnvironmentFor, HasEnvironmentFault, IsGridFor, HasGridFault, IsPrimitiveText, HasPrimitiveFault, IsChangeText, HasChangeFault, Scope, scope_for, still, still_scope}

-- these bytes were read of a file: the held ones, where the desk tells them, and at most 2 ^ 30
pub record IsReadText (held : Option (List ℕ)) (text : List ℕ) : Type 0 where
  pub told : IfSome held (λ bytes. text ≡ bytes)
  pub short : length text ≤ 2 ^ 30

-- more than 2 ^ 30 bytes are held, where the desk tells them
abbrev pub IsTooLong : Option (List ℕ) → Type 0
IsTooLong held = IfSome held (λ bytes. 2 ^ 30 < length bytes)

-- the environment file, with the start and the goal of the words, stands for an environment and the costs of its cells
pub record ReadsEnvironment (held : Told) (from : Sources) (e : Environment) (cells : List ℕ) : Type 0 where
  pub text : List ℕ
  pub read : IsReadText (held from.env) text
  pub stands : IsEnvironmentFor from text e cells

-- the primitive file stands for primitives, for this environment
pub record ReadsPrimitives (held : Told) (from : Sources) (e : Environment) (ps : Primitives) : Type 0 where
  pub text : List ℕ
  pub read : IsReadText (held from.prims) text
  pub stands : IsPrimitiveText e text ps

-- no primitive costs more than it may
abbrev pub NoneTooDear : Environment → Primitives → Type 0
NoneTooDear e ps = (i : ℕ) (p : Primitive) → slice_get ps.items i ≡ Some p → primitive_cost e p ≤ most_cost

-- the files stand for a world, for a robot of the radius that is given
pub record ReadsWorld (held : Told) (from : Sources) (w : World) : Type 0 where
  pub cells : List ℕ
  pub environment : ReadsEnvironment held from w.env cells
  pub primitives : ReadsPrimitives held from w.env w.prims
  pub sweeps : AreSweepsOf w.prims from.radius w.sweeps
  pub narrow : NoneTooWide w.prims from.radius
  pub map : w.map ≡ record { width = w.env.width; height = w.env.height; costs = cells }
  pub cheap : NoneTooDear w.env w.prims

-- what the change file of a job is read for in a world, under a planner with which the robot moves or not
abbrev pub scope_of : (states : ℕ) → (moving : Bool) → World → Scope
scope_of states moving w = scope_for states moving w.env w.map

-- the change file stands for map updates; where there is none, there are no batches
abbrev pub ReadsUpdates : Told → Option (List ℕ) → Scope → Updates → Type 0
ReadsUpdates held None s c = c ≡ still []
ReadsUpdates held (Some name) s c = (text : List ℕ) × IsReadText (held name) text × IsChangeText s text c

-- where the robot is, if that is said: on the map of a world, with one of its headings, a place or none for each batch
pub record AreMovesIn {W : Type 0} (on : Site W) (w : W) (batches : List (List Write)) (moves : List (Option Place)) : Type 0 where
  pub places : ArePlacesOnMap (on.cells.map w) (on.reporting.headings w) moves
  pub each : length moves ≡ length batches

-- the batches of map updates are on the map of a world, and the robot too, which stays where it may not move
pub record AreUpdatesIn {W : Type 0} (on : Site W) (moving : Bool) (w : W) (c : Updates) : Type 0 where
  pub on_map : AreOnMap (on.cells.map w) c.batches
  pub moves : IfSome c.moves (AreMovesIn on w c.batches)
  pub stays : moving ≡ false → c.moves ≡ None

-- a world and map updates that were read: the files stand for them
pub record AreRead {W : Type 0} (held : Told) (f : WorldFiles W) (changes : Option (List ℕ)) (w : W) (c : Updates) : Type 0 where
  pub says : f.stand_for held w
  pub is_world : f.on.cells.is_made w
  pub updates_are : ReadsUpdates held changes (f.scope w) c
  pub in_world : AreUpdatesIn f.on f.moves w c

-- The files stand for a world and map updates, and these are records of plans in it: all of them, or the first few, after which memory may
-- run out in a plan whose passes found this. These entries were published before them.
pub record ArePlanned {W : Type 0} (held : Told) (f : WorldFiles W) (changes : Option (List ℕ)) (search : SearchJob) (outputs : Outputs) (records : List PlanRecord) (all : Bool) (log : List Entry) (broken : List Found) : Type 0 where
  pub world : W
  pub updates : Updates
  pub says : f.stand_for held world
  pub changes_say : ReadsUpdates held changes (f.scope world) updates
  pub plans : ArePlans f.on world updates search outputs records all log broken

-- how a demonstration is planned: by Anytime D*, with the inflations 3.000, 2.500 and so on to 1.000
abbrev pub demo_search : SearchJob
demo_search = record { planner = planner.AdStar; workers = 1; first = 3000; step = 500; bound = 1000; budget = 2 ^ 30 }

-- what it writes besides its lines: nothing
abbrev pub no_outputs : Outputs
no_outputs = record { labels = None; form = form.Sparse; trace = None; incumbent = None }

-- the world that is drawn from a seed, for a point
pub record IsDrawn (job : DemoJob) (w : World) : Type 0 where
  pub env : w.env ≡ environment job.width job.height
  pub prims : w.prims ≡ primitives
  pub sweeps : AreSweepsOf primitives 0 w.sweeps
  pub map : w.map ≡ record { width = job.width; height = job.height; costs = costs job.width job.height job.seed }

-- the world and the batches of changes are those that are drawn, and these are records of plans in it, as of `ArePlanned`
pub record AreDemonstrated (job : DemoJob) (world : World) (batches : List (List Write)) (records : List PlanRecord) (all : Bool) (log : List Entry) (broken : List Found) : Type 0 where
  pub drawn : IsDrawn job world
  pub changes : batches ≡ changes_drawn job.width job.height job.seed
  pub plans : ArePlans lattice_site world (still batches) demo_search no_outputs records all log broken

-- the environment file has this first fault
pub record IsFaultyEnvironment (held : Told) (from : Sources) (f : EnvFault) : Type 0 where
  pub text : List ℕ
  pub read : IsReadText (held from.env) text
  pub faulty : HasEnvironmentFault from.states text f

-- it stands for an environment, and this end that the words give is off its map
pub record IsEndOff (held : Told) (from : Sources) (end : PathEnd) : Type 0 where
  pub text : List ℕ
  pub read : IsReadText (held from.env) text
  pub off : HasEndOff from text end

-- the primitive file has this first fault, for an environment
pub record IsFaultyFor (held : Told) (from : Sources) (e : Environment) (f : PrimFault) : Type 0 where
  pub text : List ℕ
  pub read : IsReadText (held from.prims) text
  pub faulty : HasPrimitiveFault e text f

-- the environment file stands for an environment, and the primitive file has this first fault for it
pub record IsFaultyPrimitives (held : Told) (from : Sources) (f : PrimFault) : Type 0 where
  pub env : Environment
  pub cells : List ℕ
  pub environment : ReadsEnvironment held from env cells
  pub primitives : IsFaultyFor held from env f

-- the files stand for an environment and primitives, and the one at this place is the first that is too wide
pub record IsTooWideJob (held : Told) (from : Sources) (place : ℕ) : Type 0 where
  pub env : Environment
  pub cells : List ℕ
  pub prims : Primitives
  pub environment : ReadsEnvironment held from env cells
  pub primitives : ReadsPrimitives held from env prims
  pub wide : IsFirstTooWide prims from.radius place

-- The files stand for an environment and primitives, of which none is too wide, and the one at this place is the first that
-- is too dear.
pub record IsTooDearJob (held : Told) (from : Sources) (place : ℕ) : Type 0 where
  pub env : Environment
  pub cells : List ℕ
  pub prims : Primitives
  pub environment : ReadsEnvironment held from env cells
  pub primitives : ReadsPrimitives held from env prims
  pub narrow : NoneTooWide prims from.radius
  pub dear : IsFirstTooDear env prims.items place

-- the environment file stands for an environment, and this holds of the primitive file
pub record IsSecond (held : Told) (from : Sources) (P : Type 0) : Type 0 where
  pub env : Environment
  pub cells : List ℕ
  pub environment : ReadsEnvironment held from env cells
  pub holds : P

-- why a job is refused: what the files hold, or the names of which a read failed
abbrev pub IsCause : Told → Names → Sources → Refusal → Type 0
IsCause held Failed from (refusal.Environment f) = IsFaultyEnvironment held from f
IsCause held Failed from (refusal.OffMap end) = IsEndOff held from end
IsCause held Failed from (refusal.Primitives f) = IsFaultyPrimitives held from f
IsCause held Failed from (refusal.TooWide place) = IsTooWideJob held from place
IsCause held Failed from (refusal.TooDear place) = IsTooDearJob held from place
IsCause held Failed from (refusal.Read input.Environment) = Failed from.env
IsCause held Failed from (refusal.Read input.Primitives) = IsSecond held from (Failed from.prims)
IsCause held Failed from (refusal.Length input.Environment) = IsTooLong (held from.env)
IsCause held Failed from (refusal.Length input.Primitives) = IsSecond held from (IsTooLong (held from.prims))
IsCause held Failed from _ = ⊥

-- the text of the change file has this first fault
pub record IsFaultyChanges (held : Told) (name : List ℕ) (s : Scope) (f : ChangeFault) : Type 0 where
  pub text : List ℕ
  pub read : IsReadText (held name) text
  pub faulty : HasChangeFault s text f

-- there is such a name, and this holds of it
abbrev pub AtName : Option (List ℕ) → (List ℕ → Type 0) → Type 0
AtName None P = ⊥
AtName (Some name) P = P name

-- the files stand for a world, and this holds of the change file and of what it is read for
abbrev pub AtChanges : {W : Type 0} → Told → WorldFiles W → Option (List ℕ) → (List ℕ → Scope → Type 0) → Type 0
AtChanges {W} held f changes P = (w : W) × f.stand_for held w × AtName changes (λ name. P name (f.scope w))

-- why a job is refused for its change file, once its world was made
abbrev pub IsChangesCause : {W : Type 0} → Told → Names → WorldFiles W → Option (List ℕ) → Refusal → Type 0
IsChangesCause held Failed f changes (refusal.Changes x) = AtChanges held f changes (λ name s. IsFaultyChanges held name s x)
IsChangesCause held Failed f changes (refusal.Read input.Changes) = AtChanges held f changes (λ name s. Failed name)
IsChangesCause held Failed f changes (refusal.Length input.Changes) = AtChanges held f changes (λ name s. IsTooLong (held name))
IsChangesCause held Failed f changes _ = ⊥

-- the files stand for a world and map updates, and this holds of the file of labels
abbrev pub AtLabels : {W : Type 0} → Told → WorldFiles W → Option (List ℕ) → Type 0 → Type 0
AtLabels {W} held f changes P = (w : W) × (c : Updates) × f.stand_for held w × ReadsUpdates held changes (f.scope w) c × P

-- why a job is refused for its file of labels: it was not read
abbrev pub IsLabelsCause : {W : Type 0} → Told → Names → WorldFiles W → Option (List ℕ) → (labels : List ℕ) → Refusal → Type 0
IsLabelsCause held Failed f changes labels (refusal.Read input.Labels) = AtLabels held f changes (Failed labels)
IsLabelsCause held Failed f changes labels (refusal.Length input.Labels) = AtLabels held f changes (IsTooLong (held labels))
IsLabelsCause held Failed f changes labels _ = ⊥

-- why the files of a world or the change file were refused
abbrev pub IsEarlyCause : {W : Type 0} → Told → Names → WorldFiles W → Option (List ℕ) → Refusal → Type 0
IsEarlyCause held Failed f changes r = f.refused held Failed r ⊎ IsChangesCause held Failed f changes r

-- or the file of labels
abbrev pub IsCheckCause : {W : Type 0} → Told → Names → WorldFiles W → Option (List ℕ) → (labels : List ℕ) → Refusal → Type 0
IsCheckCause held Failed f changes labels r = IsEarlyCause held Failed f changes r ⊎ IsLabelsCause held Failed f changes labels r

-- the name is that of a file of a world, or of the change file
abbrev pub IsEarlyInput : {W : Type 0} → WorldFiles W → Option (List ℕ) → Names
IsEarlyInput f changes name = f.names name ⊎ IsNamed changes name

-- the name is that of a file of a lattice
abbrev pub IsSource : Sources → Names
IsSource from name = (name ≡ from.env) ⊎ (name ≡ from.prims)

-- the files of a lattice, where the robot moves or not
abbrev pub lattice_files : Sources → (moving : Bool) → WorldFiles World
lattice_files from moving = record {
  on = lattice_site;
  moves = moving;
  names = IsSource from;
  stand_for = λ held w. ReadsWorld held from w;
  refused = λ held Failed r. IsCause held Failed from r;
  scope = scope_of from.states moving;
}

-- the files of the lattice of a plan, and of a check
abbrev pub plan_files : PlanJob → WorldFiles World
plan_files j = lattice_files j.sources (may_move j.search.planner)

abbrev pub check_files : CheckJob → WorldFiles World
check_files j = lattice_files j.sources j.back

-- the environment file of a grid, with the start and the goal of the words, stands for its world
pub record ReadsGrid (held : Told) (from : GridSources) (w : GridWorld) : Type 0 where
  pub text : List ℕ
  pub read : IsReadText (held from.env) text
  pub cells : List ℕ
  pub stands : IsGridFor from text w.env cells
  pub map : w.map ≡ record { width = w.env.width; height = w.env.height; costs = cells }

-- it has this first fault
pub record IsFaultyGrid (held : Told) (from : GridSources) (f : EnvFault) : Type 0 where
  pub text : List ℕ
  pub read : IsReadText (held from.env) text
  pub faulty : HasGridFault from.states text f

-- it stands for an environment, and this end that the words give is off its map
pub record IsGridEndOff (held : Told) (from : GridSources) (end : PathEnd) : Type 0 where
  pub text : List ℕ
  pub read : IsReadText (held from.env) text
  pub off : HasGridEndOff from text end

-- why a job on a grid is refused: what the environment file holds, or that it was not read
abbrev pub IsGridCause : Told → Names → GridSources → Refusal → Type 0
IsGridCause held Failed from (refusal.Grid f) = IsFaultyGrid held from f
IsGridCause held Failed from (refusal.OffMap end) = IsGridEndOff held from end
IsGridCause held Failed from (refusal.Read input.Environment) = Failed from.env
IsGridCause held Failed from (refusal.Length input.Environment) = IsTooLong (held from.env)
IsGridCause held Failed from _ = ⊥

-- for what the change file of a grid is read
abbrev pub grid_scope : (states : ℕ) → GridWorld → Scope
grid_scope states w = still_scope states w.map

-- the file of a grid
abbrev pub grid_files : GridSources → WorldFiles GridWorld
grid_files from = record {
  on = grid_site;
  moves = false;
  names = λ name. name ≡ from.env;
  stand_for = λ held w. ReadsGrid held from w;
  refused = λ held Failed r. IsGridCause held Failed from r;
  scope = grid_scope from.states;
}

-- why a job is refused: for the files of its world, for its change file, or for its file of labels
abbrev pub IsJobCause : Told → Names → Job → Refusal → Type 0
IsJobCause held Failed (job.Plan j) r = IsEarlyCause held Failed (plan_files j) j.changes r
IsJobCause held Failed (job.Check j) r = IsCheckCause held Failed (check_files j) j.changes j.labels r
IsJobCause held Failed (job.Sweep from) r = IsCause held Failed from r
IsJobCause held Failed (job.Demo d) r = ⊥
IsJobCause held Failed (job.Nav j) r = IsEarlyCause held Failed (grid_files j.sources) j.changes r
IsJobCause held Failed (job.NavCheck j) r = IsCheckCause held Failed (grid_files j.sources) j.changes j.labels r

-- a refusal with a cause; or memory ran out
abbrev pub StopsFor : (Refusal → Type 0) → JobStop → Type 0
StopsFor IsWhy (stop.Refused r m) = IsWhy r
StopsFor IsWhy stop.NoMemory = Unit {0}

-- why a job stopped before anything was written
abbrev pub JobStopsFor : (before after : DeskState) → Job → JobStop → Type 0
JobStopsFor before after j s = StopsFor (IsJobCause before.held (ReadFailed before after) j) s

-- why no lattice was made
abbrev pub LatticeStopsFor : (before after : DeskState) → Sources → JobStop → Type 0
LatticeStopsFor before after from s = StopsFor (IsCause before.held (ReadFailed before after) from) s

-- why no world with its changes was read
abbrev pub EarlyStopsFor : {W : Type 0} → (before after : DeskState) → WorldFiles W → Option (List ℕ) → JobStop → Type 0
EarlyStopsFor before after f changes s = StopsFor (IsEarlyCause before.held (ReadFailed before after) f changes) s

-- or the file of labels
abbrev pub CheckStopsFor : {W : Type 0} → (before after : DeskState) → WorldFiles W → Option (List ℕ) → (labels : List ℕ) → JobStop → Type 0
CheckStopsFor before after f changes labels s = StopsFor (IsCheckCause before.held (ReadFailed before after) f changes labels) s

-- why the file of a name was not read, and what is told of that
abbrev pub IsUnread : (before after : DeskState) → List ℕ → Input → JobStop → Type 0
IsUnread before after name i (stop.Refused (refusal.Read j) m) = (j ≡ i) × ReadFailed before after name × IsPlainMessage name m
IsUnread before after name i (stop.Refused (refusal.Length j) m) = (j ≡ i) × IsTooLong (before.held name) × (m ≡ [])
IsUnread before after name i (stop.Refused _ m) = ⊥
IsUnread before after name i stop.NoMemory = Unit {0}

-- why no grid was made
abbrev pub GridStopsFor : (before after : DeskState) → GridSources → JobStop → Type 0
GridStopsFor before after from s = StopsFor (IsGridCause before.held (ReadFailed before after) from) s

-- the program's name, which stands where a message is on no file
abbrev pub program : List ℕ
program = codes "temjoask"

-- this end, which is off the map, was refused, and what is told of that; or memory ran out
abbrev pub IsEndRefused : PathEnd → JobStop → Type 0
IsEndRefused end (stop.Refused (refusal.OffMap other) m) = (other ≡ end) × IsPlainMessage program m
IsEndRefused end (stop.Refused _ m) = ⊥
IsEndRefused end stop.NoMemory = Unit {0}

-- why a start and a goal that the words give were refused
pub record IsOffStop {P : Type 0} (IsOn : P → Type 0) (start goal : Option P) (s : JobStop) : Type 0 where
  pub end : PathEnd
  pub off : IsFirstOff IsOn start goal end
  pub refused : IsEndRefused end s

-- why the text of the environment file of a grid, of this name, was refused under a limit of states, and what is told of that
abbrev pub IsGridRefused : (states : ℕ) → (name text : List ℕ) → JobStop → Type 0
IsGridRefused states name text (stop.Refused (refusal.Grid f) m) = HasGridFault states text f × IsMessageAt name text (env_faults.place_of f) m
IsGridRefused states name text (stop.Refused _ m) = ⊥
IsGridRefused states name text stop.NoMemory = Unit {0}

-- why the text of an environment file was refused under a limit of states, and what is told of that
abbrev pub IsEnvironmentRefused : (states : ℕ) → (name text : List ℕ) → JobStop → Type 0
IsEnvironmentRefused states name text (stop.Refused (refusal.Environment f) m) = HasEnvironmentFault states text f × IsMessageAt name text (env_faults.place_of f) m
IsEnvironmentRefused states name text (stop.Refused _ m) = ⊥
IsEnvironmentRefused states name text stop.NoMemory = Unit {0}

-- why the text of a primitive file was refused, and what is told of that
abbrev pub IsPrimitivesRefused : Environment → (name text : List ℕ) → JobStop → Type 0
IsPrimitivesRefused e name text (stop.Refused (refusal.Primitives f) m) = HasPrimitiveFault e text f × IsMessageAt name text (prim_faults.place_of f) m
IsPrimitivesRefused e name text (stop.Refused _ m) = ⊥
IsPrimitivesRefused e name text stop.NoMemory = Unit {0}

-- why the primitive file, for an environment, was refused
abbrev pub PrimitivesStopFor : (before after : DeskState) → Sources → Environment → JobStop → Type 0
PrimitivesStopFor before after from e (stop.Refused (refusal.Primitives f) m) = IsFaultyFor before.held from e f
PrimitivesStopFor before after from e (stop.Refused (refusal.Read input.Primitives) m) = ReadFailed before after from.prims
PrimitivesStopFor before after from e (stop.Refused (refusal.Length input.Primitives) m) = IsTooLong (before.held from.prims)
PrimitivesStopFor before after from e (stop.Refused _ m) = ⊥
PrimitivesStopFor before after from e stop.NoMemory = Unit {0}

-- why the sweeps of primitives, of the file of this name, were not made, and what is told of that
abbrev pub IsWideStop : (name : List ℕ) → Primitives → ℕ → JobStop → Type 0
IsWideStop name prims radius (stop.Refused (refusal.TooWide place) m) = IsFirstTooWide prims radius place × IsPlainMessage name m
IsWideStop name prims radius (stop.Refused _ m) = ⊥
IsWideStop name prims radius stop.NoMemory = Unit {0}

-- the primitive of this place, of the file of this name, costs too much, and what is told of that
abbrev pub IsDearStop : (name : List ℕ) → (place : ℕ) → JobStop → Type 0
IsDearStop name place (stop.Refused (refusal.TooDear i) m) = (i ≡ place) × IsPlainMessage name m
IsDearStop name place (stop.Refused _ m) = ⊥
IsDearStop name place stop.NoMemory = Unit {0}

-- why the text of a change file was refused, and what is told of that
abbrev pub IsChangesRefused : Scope → (name text : List ℕ) → JobStop → Type 0
IsChangesRefused s name text (stop.Refused (refusal.Changes f) m) = HasChangeFault s text f × IsMessageOnLine name (change_faults.line_of f) m
IsChangesRefused s name text (stop.Refused _ m) = ⊥
IsChangesRefused s name text stop.NoMemory = Unit {0}

-- why no map updates were read
abbrev pub ChangesStopFor : (before after : DeskState) → Option (List ℕ) → Scope → JobStop → Type 0
ChangesStopFor before after changes s (stop.Refused (refusal.Changes f) m) = AtName changes (λ name. IsFaultyChanges before.held name s f)
ChangesStopFor before after changes s (stop.Refused (refusal.Read input.Changes) m) = AtName changes (ReadFailed before after)
ChangesStopFor before after changes s (stop.Refused (refusal.Length input.Changes) m) = AtName changes (λ name. IsTooLong (before.held name))
ChangesStopFor before after changes s (stop.Refused _ m) = ⊥
ChangesStopFor before after changes s stop.NoMemory = Unit {0}

-- where the refusal is for a failed read, what has failed by the one names has failed by the other
abbrev pub IsFailedOn : (F G : Names) → Refusal → Type 0
IsFailedOn F G r = refusal_status r ≡ 6 → (name : List ℕ) → F name → G name

-- the cause of a job's refusal stands where more reads have failed, and if it is no failed read where none has
pub record CausesStand : Type 0 where
  pub later : (held : Told) (s t u : DeskState) (j : Job) (r : Refusal) → IsFailedOn (ReadFailed s t) (ReadFailed s u) r → IsJobCause held (ReadFailed s t) j r → IsJobCause held (ReadFailed s u) j r
  pub unfailed : (held : Told) (s t : DeskState) (j : Job) (r : Refusal) → refusal_status r ≢ 6 → IsJobCause held (ReadFailed s t) j r → IsJobCause held (λ name. ⊥) j r
