-- Which status follows from what a desk tells of the files.
use Rattle.std.proofs.Common.{◌≡◌, ℕ, ◌^◌, ◌<◌, ◌≤◌, ◌⊎◌, Bool, false, List, [], Option, Some, None, length, sym, ◌∙◌}
use Rattle.std.proofs.Common.{ap, refl, subst, arith, inl, inr}
use Rattle.sbpl_promises.specs.sbpl_cfg.declared.fault.EnvFault.{EnvFault}
use Rattle.sbpl_promises.specs.sbpl_cfg.Environment.{Environment}
use Rattle.sbpl_promises.specs.sbpl_mprim.declared.fault.PrimFault.{PrimFault}
use Rattle.sbpl_promises.specs.sbpl_mprim.Primitives.{Primitives}
use Rattle.sbpl_promises.specs.sbpl_sweep.Widths.{IsFirstTooWide, NoneTooWide}
use Rattle.sbpl_promises.specs.sbpl_cost.PrimitiveCost.{IsFirstTooDear, most_cost, primitive_cost}
use Rattle.sbpl_promises.specs.sbpl_cost.World.{World}
use Rattle.sbpl_promises.specs.sbpl_map.CellMap.{CellMap}
use Rattle.sbpl_promises.specs.sbpl_map.declared.fault.ChangeFault.{ChangeFault}
use Rattle.sbpl_promises.specs.sbpl_job.declared.job.CheckJob.{CheckJob}
use Rattle.sbpl_promises.specs.sbpl_job.declared.job.Job.{Job}
use Rattle.sbpl_promises.specs.sbpl_job.declared.job.PlanJob.{PlanJob}
use Rattle.sbpl_promises.specs.sbpl_job.declared.job.NavJob.{NavJob}
use Rattle.sbpl_promises.specs.sbpl_job.declared.job.NavCheckJob.{NavCheckJob}
use Rattle.sbpl_promises.specs.sbpl_nav2d.World.{GridWorld}
use Rattle.sbpl_laws.proofs.SamePlanned.{grid_by}
use Rattle.sbpl_promises.specs.sbpl_job.declared.job.Job.TheVariants as job
use Rattle.sbpl_promises.specs.sbpl_job.declared.job.GridSources.{GridSources}
use Rattle.sbpl_promises.specs.sbpl_job.declared.job.Sources.{Sources}
use Rattle.sbpl_promises.specs.sbpl_report.declared.refusal.PathEnd.{PathEnd}
use Rattle.sbpl_promises.specs.sbpl_report.declared.refusal.Input.TheVariants as input
use Rattle.sbpl_promises.specs.sbpl_report.declared.refusal.Refusal.{Refusal}
use Rattle.sbpl_promises.specs.sbpl_report.declared.refusal.Refusal.TheVariants as refusal
use Rattle.sbpl_promises.specs.Causes.{AtName, IsCause, IsEndOff, IsChangesCause, IsEarlyCause, IsFaultyChanges, IsFaultyFor}
use Rattle.sbpl_promises.specs.Causes.{IsGridCause, IsJobCause, IsLabelsCause, IsReadText, IsTooLong, NoneTooDear}
use Rattle.sbpl_promises.specs.Causes.{ReadsUpdates, ReadsEnvironment, ReadsGrid, ReadsPrimitives, ReadsWorld}
use Rattle.sbpl_promises.specs.Causes.{check_files, grid_files, grid_scope, lattice_files, plan_files, scope_of}
use Rattle.sbpl_promises.specs.WorldFiles.{WorldFiles}
use Rattle.sbpl_promises.specs.declared.updates.Updates.{Updates}
use Rattle.sbpl_promises.specs.sbpl_job.Jobs.{may_move, moves_in}
use Rattle.sbpl_promises.specs.Intents.{Intent, Refused, Planned, Checked, Listed}
use Rattle.sbpl_promises.specs.Intents.{Demonstrated, OutOfMemory, intent_status}
use Rattle.sbpl_promises.specs.sbpl_report.Refusals.{refusal_status}
use Rattle.sbpl_promises.specs.Promises.{AreGood, GivesIntent, IsNoCheck, IsOrFailed, Tells, TellsChangeFault}
use Rattle.sbpl_promises.specs.Promises.{TellsEndOff, TellsGridEndOff, TellsUpdates, TellsEnvironment, TellsEnvironmentFault, TellsGrid}
use Rattle.sbpl_promises.specs.Promises.{TellsGridFault, TellsPrimitiveFault, TellsPrimitives, TellsScope, TellsTooMuch}
use Rattle.sbpl_promises.specs.Promises.{TellsWorld, changes_of, grid_of, sources_of}
use Rattle.sbpl_promises.specs.Texts.{HasChangeFault, HasEndOff, HasEnvironmentFault, HasGridEndOff, HasGridFault}
use Rattle.sbpl_promises.specs.Texts.{HasPrimitiveFault, IsChangeText, IsEnvironmentFor, IsGridFor}
use Rattle.sbpl_promises.specs.Texts.{IsPrimitiveText, Scope, scope_for, still}
use Rattle.sbpl_promises.specs.Writing.{Names, Told}
use Rattle.sbpl_promises.specs.Clear.{TextsAreClear}

-- ---- what was read is what the desk tells

pub told_is : (held : Option (List ℕ)) (text t : List ℕ) → held ≡ Some text → IsReadText held t → t ≡ text
told_is held text t tells read = let P : Option (List ℕ) → Type 0 = λ h. IsReadText h t in (subst P tells read).told

pub too_long_not_short : (held : Option (List ℕ)) (text : List ℕ) → Tells held text → IsTooLong held → ⊥
too_long_not_short held text tells long =
    let more : 2 ^ 30 < length text =
    (let P : Option (List ℕ) → Type 0 = λ h. IsTooLong h in subst P tells.held_bytes long) in
    let few : length text ≤ 2 ^ 30 = tells.short in omega arith

pub too_much_not_read : (held : Option (List ℕ)) (t : List ℕ) → TellsTooMuch held → IsReadText held t → ⊥
too_much_not_read held t (text, tells, long) read =
    let same : t ≡ text = told_is held text t tells read in
    let few : length t ≤ 2 ^ 30 = read.short in
    let few' : length text ≤ 2 ^ 30 = subst (λ l. length l ≤ 2 ^ 30) same few in omega arith

-- the environment that was read stands in the text that the desk tells
said_text : (held : Told) (from : Sources) (e : Environment) (cells text : List ℕ) → Tells (held from.env) text
    → ReadsEnvironment held from e cells → IsEnvironmentFor from text e cells
said_text held from e cells text tells says =
    subst (λ t. IsEnvironmentFor from t e cells) (told_is _ text says.text tells.held_bytes says.read) says.stands

-- where a fault is told, no environment was read
not_said : TextsAreClear → (held : Told) (from : Sources) (f : EnvFault) (e : Environment) (cells : List ℕ)
    → TellsEnvironmentFault held from f → ReadsEnvironment held from e cells → ⊥
not_said clear held from f e cells (text, tells, faulty) says =
    clear.environment_fault from text e cells f (said_text held from e cells text tells says) faulty

-- where too much is told, no environment was read
not_said_long : (held : Told) (from : Sources) (e : Environment) (cells : List ℕ) → TellsTooMuch (held from.env)
    → ReadsEnvironment held from e cells → ⊥
not_said_long held from e cells much says = too_much_not_read _ says.text much says.read

-- the environment that was read is the one that is told
pub same_environment : TextsAreClear → (held : Told) (from : Sources) (e d : Environment) (cells : List ℕ)
    → TellsEnvironment held from e → ReadsEnvironment held from d cells → d ≡ e
same_environment clear held from e d cells (text, others, tells, stands) says =
    (clear.environment from text d e cells others (said_text held from d cells text tells says) stands).0

-- the scope that a world which was read gives a change file is the one that is told
pub same_scope : TextsAreClear → (held : Told) (from : Sources) (moving : Bool) (s : Scope) (w : World)
    → TellsScope held from moving s → ReadsWorld held from w → scope_of from.states moving w ≡ s
same_scope clear held from moving s w (text, e, cells, tells, stands, is) says =
    let both =
    clear.environment from text w.env e says.cells cells
    (said_text held from w.env says.cells text tells says.environment) stands in
    ap (λ (m : CellMap). scope_for from.states moving w.env m) says.map
    ∙ ap (λ (d : Environment).
    scope_for from.states moving d (record { width = d.width; height = d.height; costs = says.cells })) both.0
    ∙ ap (λ (l : List ℕ).
    scope_for from.states moving e (record { width = e.width; height = e.height; costs = l })) both.1 ∙ sym is

-- where an environment is told, no fault of it was read
not_faulty : TextsAreClear → (held : Told) (from : Sources) (e : Environment) (f : EnvFault) (t : List ℕ)
    → TellsEnvironment held from e → IsReadText (held from.env) t → HasEnvironmentFault from.states t f → ⊥
not_faulty clear held from e f t (text, cells, tells, stands) read faulty =
    clear.environment_fault from text e cells f stands
    (subst (λ u. HasEnvironmentFault from.states u f) (told_is _ text t tells.held_bytes read) faulty)

-- where an environment is told, no end was off its map
not_off : TextsAreClear → (held : Told) (from : Sources) (e : Environment) (end : PathEnd)
    → TellsEnvironment held from e → IsEndOff held from end → ⊥
not_off clear held from e end (text, cells, tells, stands) off =
    clear.end_off from text e cells end stands
    (subst (λ u. HasEndOff from u end) (told_is _ text off.text tells.held_bytes off.read) off.off)

environment_not_long : (held : Told) (from : Sources) (e : Environment) → TellsEnvironment held from e
    → IsTooLong (held from.env) → ⊥
environment_not_long held from e (text, cells, tells, stands) long = too_long_not_short _ text tells long

-- the primitives that were read for an environment stand in the text that the desk tells
said_primitives : (held : Told) (from : Sources) (e : Environment) (ps : Primitives) (text : List ℕ)
    → Tells (held from.prims) text → ReadsPrimitives held from e ps → IsPrimitiveText e text ps
said_primitives held from e ps text tells says =
    subst (λ t. IsPrimitiveText e t ps) (told_is _ text says.text tells.held_bytes says.read) says.stands

-- where a fault of the primitives is told, none were read
faulty_not_said : TextsAreClear
    → (held : Told) (from : Sources) (env d : Environment) (cells : List ℕ) (ps : Primitives) (f : PrimFault)
    → TellsEnvironment held from env → TellsPrimitiveFault held from env f → ReadsEnvironment held from d cells
    → ReadsPrimitives held from d ps → ⊥
faulty_not_said clear held from env d cells ps f told (text, tells, faulty) first second =
    let same : d ≡ env = same_environment clear held from env d cells told first in
    let stands : IsPrimitiveText env text ps =
    subst (λ x. IsPrimitiveText x text ps) same (said_primitives held from d ps text tells second) in
    clear.primitive_fault text env ps f stands faulty

-- where primitives are told, no fault of them was read
primitives_not_faulty : TextsAreClear
    → (held : Told) (from : Sources) (env d : Environment) (cells : List ℕ) (ps : Primitives) (f : PrimFault)
    → TellsEnvironment held from env → TellsPrimitives held from env ps → ReadsEnvironment held from d cells
    → IsFaultyFor held from d f → ⊥
primitives_not_faulty clear held from env d cells ps f told (text, tells, stands) first faulty =
    let same : d ≡ env = same_environment clear held from env d cells told first in
    let here : HasPrimitiveFault d text f =
    subst (λ t. HasPrimitiveFault d t f) (told_is _ text faulty.text tells.held_bytes faulty.read) faulty.faulty in
    clear.primitive_fault text env ps f stands (subst (λ x. HasPrimitiveFault x text f) same here)

-- the primitives that were read are those that are told
pub same_primitives : TextsAreClear
    → (held : Told) (from : Sources) (env d : Environment) (cells : List ℕ) (ps qs : Primitives)
    → TellsEnvironment held from env → TellsPrimitives held from env ps → ReadsEnvironment held from d cells
    → ReadsPrimitives held from d qs → qs ≡ ps
same_primitives clear held from env d cells ps qs told (text, tells, stands) first second =
    let same : d ≡ env = same_environment clear held from env d cells told first in
    clear.primitives text env qs ps
    (subst (λ x. IsPrimitiveText x text qs) same (said_primitives held from d qs text tells second)) stands

-- where map updates are told, no fault of the changes was read
updates_not_faulty : TextsAreClear → (held : Told) (name : List ℕ) (s : Scope) (c : Updates) (f : ChangeFault)
    → TellsUpdates held (Some name) s c → IsFaultyChanges held name s f → ⊥
updates_not_faulty clear held name s c f (text, tells, stands) faulty =
    clear.change_fault s text c f stands
    (subst (λ t. HasChangeFault s t f) (told_is _ text faulty.text tells.held_bytes faulty.read) faulty.faulty)

updates_not_long : (held : Told) (name : List ℕ) (s : Scope) (c : Updates) → TellsUpdates held (Some name) s c
    → IsTooLong (held name) → ⊥
updates_not_long held name s c (text, tells, stands) long = too_long_not_short _ text tells long

-- the updates that were read are the ones that are told
pub same_updates : TextsAreClear → (held : Told) (changes : Option (List ℕ)) (s : Scope) (c d : Updates)
    → TellsUpdates held changes s c → ReadsUpdates held changes s d → d ≡ c
same_updates clear held None s c d told says = says ∙ sym told
same_updates clear held (Some name) s c d (text, tells, stands) (t, read, also) =
    clear.changes s text d c (subst (λ u. IsChangeText s u d) (told_is _ text t tells.held_bytes read) also) stands

-- where no primitive is too dear, the first one that is has no place
pub none_is_first : (e : Environment) (ps : Primitives) (i : ℕ) → NoneTooDear e ps → IsFirstTooDear e ps.items i → ⊥
none_is_first e ps i cheap dear =
    let above : most_cost < primitive_cost e dear.here.0 = dear.here.2 in
    let below : primitive_cost e dear.here.0 ≤ most_cost = cheap i dear.here.0 dear.here.1 in omega arith

-- where no primitive is too wide, the first one that is has no place
pub none_is_widest : (ps : Primitives) (radius i : ℕ) → NoneTooWide ps radius → IsFirstTooWide ps radius i → ⊥
none_is_widest ps radius i narrow wide = narrow i wide.here

-- ---- the statuses

pub failed_read : (wanted : ℕ) → IsOrFailed wanted 6
failed_read wanted = inr (inl refl)

pub no_memory : (wanted : ℕ) → IsOrFailed wanted 9
no_memory wanted = inr (inr (inr refl))

-- ---- what was read where a job got this far

-- the files stand for a world and map updates
pub record HasRead {W : Type 0} (held : Told) (f : WorldFiles W) (changes : Option (List ℕ)) : Type 0 where
  pub world : W
  pub updates : Updates
  pub says : f.stand_for held world
  pub stands : ReadsUpdates held changes (f.scope world) updates

-- the file of labels is tried after the others
labels_updates : {W : Type 0} (held : Told) (Failed : Names) (f : WorldFiles W) (changes : Option (List ℕ))
    (labels : List ℕ) (r : Refusal) → IsLabelsCause held Failed f changes labels r → HasRead held f changes
labels_updates held Failed f changes labels (refusal.Read input.Labels) (w, updates, says, stands, at) =
    record { world = w; updates = updates; says = says; stands = stands }
labels_updates held Failed f changes labels (refusal.Length input.Labels) (w, updates, says, stands, at) =
    record { world = w; updates = updates; says = says; stands = stands }
labels_updates held Failed f changes labels _ cause = absurd cause

-- a file of labels was not read: the reading failed, or it is too long
pub labels_refused : {W : Type 0} (held : Told) (Failed : Names) (f : WorldFiles W) (changes : Option (List ℕ))
    (labels : List ℕ) (wanted : ℕ) (r : Refusal) → (IsTooLong (held labels) → IsOrFailed wanted 8)
    → IsLabelsCause held Failed f changes labels r
    → IsOrFailed wanted (refusal_status r)
labels_refused held Failed f changes labels wanted (refusal.Read x) long cause = failed_read wanted
labels_refused held Failed f changes labels wanted (refusal.Length input.Labels) long (w, updates, says, stands, at) =
    long at
labels_refused held Failed f changes labels wanted _ long cause = absurd cause

-- the change file is tried where the others stand for a world
pub changes_world : {W : Type 0} (held : Told) (Failed : Names) (f : WorldFiles W) (changes : Option (List ℕ))
    (r : Refusal) → IsChangesCause held Failed f changes r → (w : W) × f.stand_for held w
changes_world held Failed f changes (refusal.Changes x) (w, says, at) = (w, says)
changes_world held Failed f changes (refusal.Read input.Changes) (w, says, at) = (w, says)
changes_world held Failed f changes (refusal.Length input.Changes) (w, says, at) = (w, says)
changes_world held Failed f changes _ cause = absurd cause

-- what a job means to do besides being refused, unless memory runs out
abbrev pub IsMore : Intent → Type 0
IsMore (Refused r) = ⊥
IsMore OutOfMemory = ⊥
IsMore _ = Unit {0}

-- A job reads a world and map updates of these files: it is refused for
-- one of them, or it is a check and they were read; and what else it
-- means to do, it does after it read them.
pub record IsReadFrom {W : Type 0} (j : Job) (f : WorldFiles W) (changes : Option (List ℕ)) : Type 1 where
  pub cause : (held : Told) (Failed : Names) (r : Refusal) → IsJobCause held Failed j r
      → IsEarlyCause held Failed f changes r ⊎ (HasRead held f changes × (IsNoCheck j → ⊥))
  pub more : (held : Told) (Failed : Names) (i : Intent) → IsMore i → GivesIntent held Failed j i
      → HasRead held f changes

same_sources : (s t : Sources) → ◌≡◌ {A = Option Sources} (Some s) (Some t) → s ≡ t
same_sources s t is = cc

plan_reads : (p : PlanJob) → IsReadFrom (job.Plan p) (plan_files p) p.changes
plan_reads p = record { cause = λ held Failed r cause. inl cause; more = more }
  where
    more : (held : Told) (Failed : Names) (i : Intent) → IsMore i → GivesIntent held Failed (job.Plan p) i
        → HasRead held (plan_files p) p.changes
    more held Failed (Planned records all log broken) is gives =
        record { world = gives.world; updates = gives.updates; says = gives.says; stands = gives.changes_say }
    more held Failed (Refused r) is gives = absurd is
    more held Failed OutOfMemory is gives = absurd is
    more held Failed _ is gives = absurd gives

pub check_reads : (c : CheckJob) → IsReadFrom (job.Check c) (check_files c) c.changes
check_reads c = record { cause = cause; more = more }
  where
    cause : (held : Told) (Failed : Names) (r : Refusal) → IsJobCause held Failed (job.Check c) r
        → IsEarlyCause held Failed (check_files c) c.changes r
        ⊎ (HasRead held (check_files c) c.changes × (IsNoCheck (job.Check c) → ⊥))
    cause held Failed r (inl x) = inl x
    cause held Failed r (inr x) = inr (labels_updates held Failed (check_files c) c.changes c.labels r x, λ none. none)

    more : (held : Told) (Failed : Names) (i : Intent) → IsMore i → GivesIntent held Failed (job.Check c) i
        → HasRead held (check_files c) c.changes
    more held Failed (Checked goals os end) is gives =
        record { world = gives.world; updates = gives.updates; says = gives.says; stands = gives.changes_say }
    more held Failed (Refused r) is gives = absurd is
    more held Failed OutOfMemory is gives = absurd is
    more held Failed _ is gives = absurd gives

sweep_reads : (from : Sources) → IsReadFrom (job.Sweep from) (lattice_files from false) None
sweep_reads from = record { cause = λ held Failed r cause. inl (inl cause); more = more }
  where
    more : (held : Told) (Failed : Names) (i : Intent) → IsMore i → GivesIntent held Failed (job.Sweep from) i
        → HasRead held (lattice_files from false) None
    more held Failed (Listed w) is gives = record { world = w; updates = still []; says = gives.0; stands = refl }
    more held Failed (Refused r) is gives = absurd is
    more held Failed OutOfMemory is gives = absurd is
    more held Failed _ is gives = absurd gives

nav_reads : (n : NavJob) → IsReadFrom (job.Nav n) (grid_files n.sources) n.changes
nav_reads n = record { cause = λ held Failed r cause. inl cause; more = more }
  where
    more : (held : Told) (Failed : Names) (i : Intent) → IsMore i → GivesIntent held Failed (job.Nav n) i
        → HasRead held (grid_files n.sources) n.changes
    more held Failed (Planned records all log broken) is gives =
        record { world = gives.world; updates = gives.updates; says = gives.says; stands = gives.changes_say }
    more held Failed (Refused r) is gives = absurd is
    more held Failed OutOfMemory is gives = absurd is
    more held Failed _ is gives = absurd gives

nav_check_reads : (n : NavCheckJob) → IsReadFrom (job.NavCheck n) (grid_files n.sources) n.changes
nav_check_reads n = record { cause = cause; more = more }
  where
    cause : (held : Told) (Failed : Names) (r : Refusal) → IsJobCause held Failed (job.NavCheck n) r
        → IsEarlyCause held Failed (grid_files n.sources) n.changes r
        ⊎ (HasRead held (grid_files n.sources) n.changes × (IsNoCheck (job.NavCheck n) → ⊥))
    cause held Failed r (inl x) = inl x
    cause held Failed r (inr x) =
        inr (labels_updates held Failed (grid_files n.sources) n.changes n.labels r x, λ none. none)

    more : (held : Told) (Failed : Names) (i : Intent) → IsMore i → GivesIntent held Failed (job.NavCheck n) i
        → HasRead held (grid_files n.sources) n.changes
    more held Failed (Checked goals os end) is gives =
        record { world = gives.world; updates = gives.updates; says = gives.says; stands = gives.changes_say }
    more held Failed (Refused r) is gives = absurd is
    more held Failed OutOfMemory is gives = absurd is
    more held Failed _ is gives = absurd gives

same_grid_sources : (s t : GridSources) → ◌≡◌ {A = Option GridSources} (Some s) (Some t) → s ≡ t
same_grid_sources s t is = cc

-- a job on a grid reads its file
pub grid_reads : (j : Job) (from : GridSources) → grid_of j ≡ Some from → IsReadFrom j (grid_files from) (changes_of j)
grid_reads (job.Nav n) from is =
    subst (λ (s : GridSources). IsReadFrom (job.Nav n) (grid_files s) n.changes)
    (same_grid_sources n.sources from is) (nav_reads n)
grid_reads (job.NavCheck n) from is =
    subst (λ (s : GridSources). IsReadFrom (job.NavCheck n) (grid_files s) n.changes)
    (same_grid_sources n.sources from is) (nav_check_reads n)
grid_reads (job.Plan p) from is = absurd cc
grid_reads (job.Check c) from is = absurd cc
grid_reads (job.Sweep s) from is = absurd cc
grid_reads (job.Demo d) from is = absurd cc

-- a job on a lattice reads its files
pub lattice_reads : (j : Job) (from : Sources) → sources_of j ≡ Some from
    → IsReadFrom j (lattice_files from (moves_in j)) (changes_of j)
lattice_reads (job.Plan p) from is =
    subst (λ (s : Sources). IsReadFrom (job.Plan p) (lattice_files s (may_move p.search.planner)) p.changes)
    (same_sources p.sources from is) (plan_reads p)
lattice_reads (job.Check c) from is =
    subst (λ (s : Sources). IsReadFrom (job.Check c) (lattice_files s c.back) c.changes)
    (same_sources c.sources from is) (check_reads c)
lattice_reads (job.Sweep s) from is =
    subst (λ (t : Sources). IsReadFrom (job.Sweep s) (lattice_files t false) None)
    (same_sources s from is) (sweep_reads s)
lattice_reads (job.Demo d) from is = absurd cc
lattice_reads (job.Nav n) from is = absurd cc
lattice_reads (job.NavCheck n) from is = absurd cc

-- A job whose files stand for no world and updates means nothing but a refusal, or memory runs out.
pub by_intent : {W : Type 0} (held : Told) (Failed : Names) (wanted : ℕ) (j : Job) (f : WorldFiles W)
    (changes : Option (List ℕ)) (i : Intent) → IsReadFrom j f changes
    → ((r : Refusal) → IsJobCause held Failed j r → IsOrFailed wanted (refusal_status r))
    → (HasRead held f changes → ⊥) → GivesIntent held Failed j i → IsOrFailed wanted (intent_status i)
by_intent held Failed wanted j f changes (Refused r) reads refused none gives = refused r gives
by_intent held Failed wanted j f changes OutOfMemory reads refused none gives = no_memory wanted
by_intent held Failed wanted j f changes (Planned records all log broken) reads refused none gives =
    absurd (none (reads.more held Failed (Planned records all log broken) tt gives))
by_intent held Failed wanted j f changes (Checked goals os end) reads refused none gives =
    absurd (none (reads.more held Failed (Checked goals os end) tt gives))
by_intent held Failed wanted j f changes (Listed w) reads refused none gives =
    absurd (none (reads.more held Failed (Listed w) tt gives))
by_intent held Failed wanted j f changes (Demonstrated w count records all log broken) reads refused none gives =
    absurd (none (reads.more held Failed (Demonstrated w count records all log broken) tt gives))

same_name : (a b : List ℕ) → ◌≡◌ {A = Option (List ℕ)} (Some a) (Some b) → a ≡ b
same_name a b is = cc

-- a name that there is
named : (changes : Option (List ℕ)) (P : List ℕ → Type 0) → AtName changes P
    → (name : List ℕ) × (changes ≡ Some name) × P name
named None P at = absurd at
named (Some name) P at = (name, refl, at)

-- good files of a world are refused where a read failed alone, and give a change file this scope
pub record AreGoodFiles {W : Type 0} (held : Told) (Failed : Names) (f : WorldFiles W) (s : Scope) : Type 0 where
  pub refused : (wanted : ℕ) (r : Refusal) → f.refused held Failed r → IsOrFailed wanted (refusal_status r)
  pub scope : (w : W) → f.stand_for held w → f.scope w ≡ s

module _ (clear : TextsAreClear) (held : Told) (Failed : Names) {W : Type 0} (f : WorldFiles W)
    (changes : Option (List ℕ)) (s : Scope) (good : AreGoodFiles held Failed f s) where
  -- where the files are good, a job is refused for the change file alone
  good_refused : (wanted : ℕ)
      → ((name : List ℕ) (x : ChangeFault) → changes ≡ Some name → IsFaultyChanges held name s x → IsOrFailed wanted 5)
      → ((name : List ℕ) → changes ≡ Some name → IsTooLong (held name) → IsOrFailed wanted 8)
      → (r : Refusal) → IsEarlyCause held Failed f changes r → IsOrFailed wanted (refusal_status r)
  good_refused wanted faulty long r (inl cause) = good.refused wanted r cause
  good_refused wanted faulty long r (inr cause) = by_changes r cause
    where
      by_changes : (r : Refusal) → IsChangesCause held Failed f changes r → IsOrFailed wanted (refusal_status r)
      by_changes (refusal.Changes x) (w, says, at) =
          let found = named changes (λ name. IsFaultyChanges held name (f.scope w) x) at in
          faulty found.0 x found.1 (subst (λ (t : Scope). IsFaultyChanges held found.0 t x) (good.scope w says) found.2)
      by_changes (refusal.Read x) p = failed_read wanted
      by_changes (refusal.Length input.Changes) (w, says, at) =
          let found = named changes (λ name. IsTooLong (held name)) at in long found.0 found.1 found.2
      by_changes _ p = absurd p

  -- and not even for that, where it stands for map updates: then only a failed read is left
  pub all_good : (c : Updates) (wanted : ℕ) → TellsUpdates held changes s c → (r : Refusal)
      → IsEarlyCause held Failed f changes r → IsOrFailed wanted (refusal_status r)
  all_good c wanted told =
      good_refused wanted
      (λ name x is faulty. absurd (updates_not_faulty clear held name s c x
      (subst (λ (o : Option (List ℕ)). TellsUpdates held o s c) is told) faulty))
      (λ name is long.
      absurd (updates_not_long held name s c (subst (λ (o : Option (List ℕ)). TellsUpdates held o s c) is told) long))

  -- a change file that is too long
  pub changes_long : (name : List ℕ) → changes ≡ Some name → TellsTooMuch (held name) → (r : Refusal)
      → IsEarlyCause held Failed f changes r → IsOrFailed 8 (refusal_status r)
  changes_long name is much =
      good_refused 8
      (λ other x also faulty. absurd (too_much_not_read (held name) faulty.text much
      (subst (λ (n : List ℕ). IsReadText (held n) faulty.text) (same_name other name (sym also ∙ is)) faulty.read)))
      (λ other also long. inl refl)

  pub changes_long_none : (name : List ℕ) → changes ≡ Some name → TellsTooMuch (held name) → HasRead held f changes → ⊥
  changes_long_none name is much c =
      let said = subst (λ (o : Option (List ℕ)). ReadsUpdates held o (f.scope c.world) c.updates) is c.stands in
      too_much_not_read (held name) said.0 much said.1

  -- a faulty change file
  pub changes_faulty : (x : ChangeFault) → TellsChangeFault held changes s x → (r : Refusal)
      → IsEarlyCause held Failed f changes r → IsOrFailed 5 (refusal_status r)
  changes_faulty x (name, text, is, tells, faulty) =
      good_refused 5
      (λ other y also p. inl refl)
      (λ other also long. absurd (too_long_not_short (held name) text tells
      (subst (λ (n : List ℕ). IsTooLong (held n)) (same_name other name (sym also ∙ is)) long)))

  pub changes_faulty_none : (x : ChangeFault) → TellsChangeFault held changes s x → HasRead held f changes → ⊥
  changes_faulty_none x (name, text, is, tells, faulty) c =
      let said = subst (λ (o : Option (List ℕ)). ReadsUpdates held o (f.scope c.world) c.updates) is c.stands in
      let here : IsChangeText (f.scope c.world) text c.updates =
      subst (λ (t : List ℕ). IsChangeText (f.scope c.world) t c.updates)
      (told_is (held name) text said.0 tells.held_bytes said.1) said.2 in
      clear.change_fault s text c.updates x
      (subst (λ (t : Scope). IsChangeText t text c.updates) (good.scope c.world c.says) here) faulty

module _ (clear : TextsAreClear) (held : Told) (Failed : Names) (from : Sources) where
  -- where an end is told to be off the map, no environment was read
  off_not_said : (end : PathEnd) (e : Environment) (cells : List ℕ) → TellsEndOff held from end
      → ReadsEnvironment held from e cells → ⊥
  off_not_said end e cells (text, tells, off) says =
      clear.end_off from text e cells end (said_text held from e cells text tells says) off

  -- a faulty environment
  pub environment_faulty : (f : EnvFault) → TellsEnvironmentFault held from f → (r : Refusal)
      → IsCause held Failed from r → IsOrFailed 3 (refusal_status r)
  environment_faulty f tells (refusal.Environment x) p = inl refl
  environment_faulty f (text, tells, faulty) (refusal.OffMap x) p =
      absurd (clear.end_fault from text x f (subst (λ (t : List ℕ). HasEndOff from t x)
      (told_is _ text p.text tells.held_bytes p.read) p.off) faulty)
  environment_faulty f tells (refusal.Primitives x) p = absurd (not_said clear held from f _ _ tells p.environment)
  environment_faulty f tells (refusal.TooWide x) p = absurd (not_said clear held from f _ _ tells p.environment)
  environment_faulty f tells (refusal.TooDear x) p = absurd (not_said clear held from f _ _ tells p.environment)
  environment_faulty f tells (refusal.Read x) p = failed_read 3
  environment_faulty f tells (refusal.Length input.Environment) p = absurd (too_long_not_short _ tells.0 tells.1 p)
  environment_faulty f tells (refusal.Length input.Primitives) p =
      absurd (not_said clear held from f _ _ tells p.environment)
  environment_faulty f tells _ p = absurd p

  pub environment_faulty_none : (f : EnvFault) → TellsEnvironmentFault held from f → (w : World)
      → ReadsWorld held from w → ⊥
  environment_faulty_none f tells w p = not_said clear held from f _ _ tells p.environment

  -- an environment file that is too long
  pub environment_long : TellsTooMuch (held from.env) → (r : Refusal) → IsCause held Failed from r
      → IsOrFailed 8 (refusal_status r)
  environment_long much (refusal.Environment x) p = absurd (too_much_not_read _ p.text much p.read)
  environment_long much (refusal.OffMap x) p = absurd (too_much_not_read _ p.text much p.read)
  environment_long much (refusal.Primitives x) p = absurd (not_said_long held from _ _ much p.environment)
  environment_long much (refusal.TooWide x) p = absurd (not_said_long held from _ _ much p.environment)
  environment_long much (refusal.TooDear x) p = absurd (not_said_long held from _ _ much p.environment)
  environment_long much (refusal.Read x) p = failed_read 8
  environment_long much (refusal.Length x) p = inl refl
  environment_long much _ p = absurd p

  pub environment_long_none : TellsTooMuch (held from.env) → (w : World) → ReadsWorld held from w → ⊥
  environment_long_none much w p = not_said_long held from _ _ much p.environment

  -- an end that is off the map
  pub end_off : (end : PathEnd) → TellsEndOff held from end → (r : Refusal) → IsCause held Failed from r
      → IsOrFailed 2 (refusal_status r)
  end_off end tells (refusal.Environment x) p =
      absurd (clear.end_fault from tells.0 end x tells.2 (subst (λ (t : List ℕ). HasEnvironmentFault from.states t x)
      (told_is _ tells.0 p.text tells.1.held_bytes p.read) p.faulty))
  end_off end tells (refusal.OffMap x) p = inl refl
  end_off end tells (refusal.Primitives x) p = absurd (off_not_said end p.env p.cells tells p.environment)
  end_off end tells (refusal.TooWide x) p = absurd (off_not_said end p.env p.cells tells p.environment)
  end_off end tells (refusal.TooDear x) p = absurd (off_not_said end p.env p.cells tells p.environment)
  end_off end tells (refusal.Read x) p = failed_read 2
  end_off end tells (refusal.Length input.Environment) p = absurd (too_long_not_short _ tells.0 tells.1 p)
  end_off end tells (refusal.Length input.Primitives) p =
      absurd (off_not_said end p.env p.cells tells p.environment)
  end_off end tells _ p = absurd p

  pub end_off_none : (end : PathEnd) → TellsEndOff held from end → (w : World) → ReadsWorld held from w → ⊥
  end_off_none end tells w p = off_not_said end w.env p.cells tells p.environment

  -- a primitive file that is too long
  pub primitives_long : (env : Environment) → TellsEnvironment held from env → TellsTooMuch (held from.prims)
      → (r : Refusal) → IsCause held Failed from r → IsOrFailed 8 (refusal_status r)
  primitives_long env told much (refusal.Environment x) p =
      absurd (not_faulty clear held from env x p.text told p.read p.faulty)
  primitives_long env told much (refusal.OffMap x) p = absurd (not_off clear held from env x told p)
  primitives_long env told much (refusal.Primitives x) p =
      absurd (too_much_not_read _ p.primitives.text much p.primitives.read)
  primitives_long env told much (refusal.TooWide x) p =
      absurd (too_much_not_read _ p.primitives.text much p.primitives.read)
  primitives_long env told much (refusal.TooDear x) p =
      absurd (too_much_not_read _ p.primitives.text much p.primitives.read)
  primitives_long env told much (refusal.Read x) p = failed_read 8
  primitives_long env told much (refusal.Length x) p = inl refl
  primitives_long env told much _ p = absurd p

  pub primitives_long_none : (env : Environment) → TellsEnvironment held from env → TellsTooMuch (held from.prims)
      → (w : World) → ReadsWorld held from w → ⊥
  primitives_long_none env told much w p = too_much_not_read _ p.primitives.text much p.primitives.read

  -- faulty primitives
  pub primitives_faulty : (env : Environment) (f : PrimFault) → TellsEnvironment held from env
      → TellsPrimitiveFault held from env f → (r : Refusal) → IsCause held Failed from r
      → IsOrFailed 4 (refusal_status r)
  primitives_faulty env f told tells (refusal.Environment x) p =
      absurd (not_faulty clear held from env x p.text told p.read p.faulty)
  primitives_faulty env f told tells (refusal.OffMap x) p = absurd (not_off clear held from env x told p)
  primitives_faulty env f told tells (refusal.Primitives x) p = inl refl
  primitives_faulty env f told tells (refusal.TooWide x) p = inl refl
  primitives_faulty env f told tells (refusal.TooDear x) p = inl refl
  primitives_faulty env f told tells (refusal.Read x) p = failed_read 4
  primitives_faulty env f told tells (refusal.Length input.Environment) p =
      absurd (environment_not_long held from env told p)
  primitives_faulty env f told tells (refusal.Length input.Primitives) p =
      absurd (too_long_not_short _ tells.0 tells.1 p.holds)
  primitives_faulty env f told tells _ p = absurd p

  pub primitives_faulty_none : (env : Environment) (f : PrimFault) → TellsEnvironment held from env
      → TellsPrimitiveFault held from env f → (w : World) → ReadsWorld held from w → ⊥
  primitives_faulty_none env f told tells w p =
      faulty_not_said clear held from env _ _ _ f told tells p.environment p.primitives

  -- good primitives, of which none, or one, passes a limit
  pub primitives_good : (env : Environment) (ps : Primitives) → TellsEnvironment held from env
      → TellsPrimitives held from env ps → (wanted : ℕ)
      → ((i : ℕ) → IsFirstTooWide ps from.radius i → IsOrFailed wanted 4)
      → ((i : ℕ) → NoneTooWide ps from.radius → IsFirstTooDear env ps.items i → IsOrFailed wanted 4) → (r : Refusal)
      → IsCause held Failed from r → IsOrFailed wanted (refusal_status r)
  primitives_good env ps told tells wanted wide dear (refusal.Environment x) p =
      absurd (not_faulty clear held from env x p.text told p.read p.faulty)
  primitives_good env ps told tells wanted wide dear (refusal.OffMap x) p =
      absurd (not_off clear held from env x told p)
  primitives_good env ps told tells wanted wide dear (refusal.Primitives x) p =
      absurd (primitives_not_faulty clear held from env _ _ ps x told tells p.environment p.primitives)
  primitives_good env ps told tells wanted wide dear (refusal.TooWide x) p =
      wide x (subst (λ (qs : Primitives). IsFirstTooWide qs from.radius x)
      (same_primitives clear held from env _ _ ps _ told tells p.environment p.primitives) p.wide)
  primitives_good env ps told tells wanted wide dear (refusal.TooDear x) p =
      let same = same_primitives clear held from env _ _ ps _ told tells p.environment p.primitives in
      dear x (subst (λ (qs : Primitives). NoneTooWide qs from.radius) same p.narrow)
      (subst (λ (e : Environment). IsFirstTooDear e ps.items x) (same_environment clear held from env _ _ told
      p.environment) (subst (λ (qs : Primitives). IsFirstTooDear p.env qs.items x) same p.dear))
  primitives_good env ps told tells wanted wide dear (refusal.Read x) p = failed_read wanted
  primitives_good env ps told tells wanted wide dear (refusal.Length input.Environment) p =
      absurd (environment_not_long held from env told p)
  primitives_good env ps told tells wanted wide dear (refusal.Length input.Primitives) p =
      absurd (too_long_not_short _ tells.0 tells.1 p.holds)
  primitives_good env ps told tells wanted wide dear _ p = absurd p

  -- a primitive that is too wide
  pub too_wide_none : (env : Environment) (ps : Primitives) (i : ℕ) → TellsEnvironment held from env
      → TellsPrimitives held from env ps → IsFirstTooWide ps from.radius i → (w : World) → ReadsWorld held from w → ⊥
  too_wide_none env ps i told tells wide w p =
      let same = same_primitives clear held from env _ _ ps _ told tells p.environment p.primitives in
      none_is_widest ps from.radius i (subst (λ (qs : Primitives). NoneTooWide qs from.radius) same p.narrow) wide

  -- a primitive that is too dear
  pub too_dear_none : (env : Environment) (ps : Primitives) (i : ℕ) → TellsEnvironment held from env
      → TellsPrimitives held from env ps → IsFirstTooDear env ps.items i → (w : World) → ReadsWorld held from w → ⊥
  too_dear_none env ps i told tells dear w p =
      let same = same_primitives clear held from env _ _ ps _ told tells p.environment p.primitives in
      let like = same_environment clear held from env _ _ told p.environment in
      none_is_first env ps i (subst (λ (e : Environment). NoneTooDear e ps) like
      (subst (λ (qs : Primitives). NoneTooDear w.env qs) same p.cheap)) dear

  -- good files of a lattice are
  pub good_files : (moving : Bool) (s : Scope) → AreGood held from moving s
      → AreGoodFiles held Failed (lattice_files from moving) s
  good_files moving s good = record {
    refused = λ wanted. primitives_good good.env good.prims good.environment good.primitives wanted
        (λ k h. absurd (none_is_widest good.prims from.radius k good.narrow h))
        (λ k n h. absurd (none_is_first good.env good.prims k good.cheap h));
    scope = λ w says. same_scope clear held from moving s w good.scope says;
  }

  -- files that stand for a world are good ones
  pub world_good : (moving : Bool) (w : World) → TellsWorld held from w → AreGood held from moving (scope_of from.states moving w)
  world_good moving w tells = record {
    env = w.env;
    prims = w.prims;
    environment = tells.environment;
    primitives = tells.primitives;
    narrow = tells.says.narrow;
    cheap = tells.says.cheap;
    scope = by_text tells.environment;
  }
    where
      by_text : TellsEnvironment held from w.env → TellsScope held from moving (scope_of from.states moving w)
      by_text (text, cells, told, stands) = (
        text,
        w.env,
        tells.says.cells,
        told,
        said_text held from w.env tells.says.cells text told tells.says.environment,
        ap (λ (m : CellMap). scope_for from.states moving w.env m) tells.says.map,
      )

-- ---- grids

module _ (clear : TextsAreClear) (held : Told) (Failed : Names) (from : GridSources) where
  -- a faulty environment file
  pub grid_faulty : (f : EnvFault) → TellsGridFault held from f → (r : Refusal) → IsGridCause held Failed from r
      → IsOrFailed 3 (refusal_status r)
  grid_faulty f tells (refusal.Grid x) p = inl refl
  grid_faulty f tells (refusal.OffMap x) p =
      absurd (clear.grid_end_fault from tells.0 x f (subst (λ (t : List ℕ). HasGridEndOff from t x)
      (told_is _ tells.0 p.text tells.1.held_bytes p.read) p.off) tells.2)
  grid_faulty f tells (refusal.Read x) p = failed_read 3
  grid_faulty f tells (refusal.Length input.Environment) p = absurd (too_long_not_short _ tells.0 tells.1 p)
  grid_faulty f tells _ p = absurd p

  pub grid_faulty_none : (f : EnvFault) → TellsGridFault held from f → (w : GridWorld) → ReadsGrid held from w → ⊥
  grid_faulty_none f (text, tells, faulty) w says =
      clear.grid_fault from text w.env says.cells f (subst (λ (t : List ℕ). IsGridFor from t w.env says.cells)
      (told_is (held from.env) text says.text tells.held_bytes says.read) says.stands) faulty

  -- one that is too long
  pub grid_long : TellsTooMuch (held from.env) → (r : Refusal) → IsGridCause held Failed from r
      → IsOrFailed 8 (refusal_status r)
  grid_long much (refusal.Grid x) p = absurd (too_much_not_read _ p.text much p.read)
  grid_long much (refusal.OffMap x) p = absurd (too_much_not_read _ p.text much p.read)
  grid_long much (refusal.Read x) p = failed_read 8
  grid_long much (refusal.Length x) p = inl refl
  grid_long much _ p = absurd p

  pub grid_long_none : TellsTooMuch (held from.env) → (w : GridWorld) → ReadsGrid held from w → ⊥
  grid_long_none much w says = too_much_not_read _ says.text much says.read

  -- an end that is off the map
  grid_off_not_said : (end : PathEnd) (w : GridWorld) → TellsGridEndOff held from end → ReadsGrid held from w → ⊥
  grid_off_not_said end w (text, tells, off) says =
      clear.grid_end_off from text w.env says.cells end (subst (λ (t : List ℕ). IsGridFor from t w.env says.cells)
      (told_is (held from.env) text says.text tells.held_bytes says.read) says.stands) off

  pub grid_end_off : (end : PathEnd) → TellsGridEndOff held from end → (r : Refusal) → IsGridCause held Failed from r
      → IsOrFailed 2 (refusal_status r)
  grid_end_off end tells (refusal.Grid x) p =
      absurd (clear.grid_end_fault from tells.0 end x tells.2 (subst (λ (t : List ℕ). HasGridFault from.states t x)
      (told_is _ tells.0 p.text tells.1.held_bytes p.read) p.faulty))
  grid_end_off end tells (refusal.OffMap x) p = inl refl
  grid_end_off end tells (refusal.Read x) p = failed_read 2
  grid_end_off end tells (refusal.Length input.Environment) p = absurd (too_long_not_short _ tells.0 tells.1 p)
  grid_end_off end tells _ p = absurd p

  pub grid_end_off_none : (end : PathEnd) → TellsGridEndOff held from end → (w : GridWorld) → ReadsGrid held from w → ⊥
  grid_end_off_none end tells w says = grid_off_not_said end w tells says

  -- where a world is told, it is the one that is read
  pub same_grid : (w v : GridWorld) → TellsGrid held from w → ReadsGrid held from v → v ≡ w
  same_grid w v tells says =
      let own : IsGridFor from tells.text v.env says.cells =
      subst (λ (t : List ℕ). IsGridFor from t v.env says.cells)
      (told_is (held from.env) tells.text says.text tells.told.held_bytes says.read) says.stands in
      let both = clear.grid from tells.text v.env w.env says.cells tells.cells own tells.stands in
      grid_by v w says.cells tells.cells both.0 both.1 says.map tells.map

  told_grid_refused : (w : GridWorld) → TellsGrid held from w → (wanted : ℕ) (r : Refusal)
      → IsGridCause held Failed from r → IsOrFailed wanted (refusal_status r)
  told_grid_refused w tells wanted (refusal.OffMap x) p =
      absurd (clear.grid_end_off from tells.text w.env tells.cells x tells.stands (subst (λ (t : List ℕ).
      HasGridEndOff from t x) (told_is (held from.env) tells.text p.text tells.told.held_bytes p.read) p.off))
  told_grid_refused w tells wanted (refusal.Grid x) p =
      absurd (clear.grid_fault from tells.text w.env tells.cells x tells.stands (subst (λ (t : List ℕ).
      HasGridFault from.states t x) (told_is (held from.env) tells.text p.text tells.told.held_bytes p.read) p.faulty))
  told_grid_refused w tells wanted (refusal.Read x) p = failed_read wanted
  told_grid_refused w tells wanted (refusal.Length input.Environment) p =
      absurd (too_long_not_short _ tells.text tells.told p)
  told_grid_refused w tells wanted _ p = absurd p

  -- such a file is a good one
  pub good_grid : (w : GridWorld) → TellsGrid held from w → AreGoodFiles held Failed (grid_files from) (grid_scope from.states w)
  good_grid w tells =
      record { refused = told_grid_refused w tells; scope = λ v says. ap (grid_scope from.states) (same_grid w v tells says) }
