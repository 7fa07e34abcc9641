-- The files of a job stand for one world and one list of batches, and its plans have one list of records.
use Rattle.std.proofs.Common.{◌≡◌, ℕ, Bool, true, Option, Some, None, List, ◌++◌, IsSome, IfSome, sym, ap, subst, ◌∙◌}
use Rattle.std.proofs.lemmas.Bool.{false≢true}
use Rattle.sbpl_promises.specs.sbpl_cfg.Environment.{Environment}
use Rattle.sbpl_promises.specs.sbpl_map.CellMap.{CellMap}
use Rattle.sbpl_promises.specs.sbpl_cost.World.{World}
use Rattle.sbpl_promises.specs.sbpl_job.declared.job.Outputs.{Outputs}
use Rattle.sbpl_promises.specs.sbpl_job.declared.job.SearchJob.{SearchJob}
use Rattle.sbpl_promises.specs.sbpl_job.declared.job.GridSources.{GridSources}
use Rattle.sbpl_promises.specs.sbpl_job.declared.job.Sources.{Sources}
use Rattle.sbpl_promises.specs.sbpl_report.declared.record.PlanRecord.{PlanRecord}
use Rattle.sbpl_promises.specs.Asked.{is_determined}
use Rattle.sbpl_promises.specs.Causes.{ArePlanned, IsReadText, ReadsUpdates, ReadsWorld, grid_files}
use Rattle.sbpl_promises.specs.Causes.{grid_scope, lattice_files, scope_of}
use Rattle.sbpl_promises.specs.declared.updates.Updates.{Updates}
use Rattle.sbpl_promises.specs.Determined.{AreAlikeWorlds, FewAreFirst, RecordsAreOne}
use Rattle.sbpl_promises.specs.sbpl_plan.declared.found.Found.{Found}
use Rattle.sbpl_promises.specs.Headline.{ArePlans}
use Rattle.sbpl_promises.specs.WorldFiles.{WorldFiles}
use Rattle.sbpl_promises.specs.Published.{Entry}
use Rattle.sbpl_promises.specs.Texts.{IsChangeText, IsEnvironmentFor, IsGridFor, IsPrimitiveText, Scope, scope_for}
use Rattle.sbpl_promises.specs.Writing.{Told}
use Rattle.sbpl_promises.specs.Clear.{TextsAreClear}
use Rattle.sbpl_promises.specs.sbpl_nav2d.World.{GridWorld}
use Rattle.sbpl_laws.proofs.GridAlike.{AreOneGrid}

-- what is read of a file that the desk tells is determined
pub read_once : (held : Option (List ℕ)) (t u : List ℕ) → IsSome held → IsReadText held t → IsReadText held u → t ≡ u
read_once None t u told x y = absurd (false≢true told)
read_once (Some text) t u told x y = x.told ∙ sym y.told

-- alike worlds give a change file one scope
pub alike_scopes : (states : ℕ) (moving : Bool) (w v : World) → AreAlikeWorlds w v
    → scope_of states moving v ≡ scope_of states moving w
alike_scopes states moving w v alike =
    let env = alike.env in
    let map = alike.map in
    λ i. scope_for states moving (env i) (map i)

module _ (clear : TextsAreClear) (held : Told) where
  -- the files stand for one world except for how cells stand in the tables of sweeps
  pub one_world : (from : Sources) (w v : World) → IsSome (held from.env) → IsSome (held from.prims)
      → ReadsWorld held from w → ReadsWorld held from v → AreAlikeWorlds w v
  one_world from w v told_env told_prims x y =
      let text : y.environment.text ≡ x.environment.text =
      read_once (held from.env) y.environment.text x.environment.text told_env y.environment.read x.environment.read in
      let stands : IsEnvironmentFor from x.environment.text v.env y.cells =
      subst (λ (t : List ℕ). IsEnvironmentFor from t v.env y.cells) text y.environment.stands in
      let envs = clear.environment from x.environment.text v.env w.env y.cells x.cells stands x.environment.stands in
      let file : y.primitives.text ≡ x.primitives.text =
      read_once (held from.prims) y.primitives.text x.primitives.text told_prims y.primitives.read x.primitives.read in
      let said : IsPrimitiveText v.env x.primitives.text v.prims =
      subst (λ (t : List ℕ). IsPrimitiveText v.env t v.prims) file y.primitives.stands in
      let own : IsPrimitiveText w.env x.primitives.text v.prims =
      subst (λ (e : Environment). IsPrimitiveText e x.primitives.text v.prims) envs.0 said in
      let env = envs.0 in
      let cells = envs.1 in
      let maps : ◌≡◌ {A = CellMap} (record { width = v.env.width; height = v.env.height; costs = y.cells })
      (record { width = w.env.width; height = w.env.height; costs = x.cells }) =
      λ i. record { width = (env i).width; height = (env i).height; costs = cells i }
      in
      record {
        env = env;
        prims = clear.primitives x.primitives.text w.env v.prims w.prims own x.primitives.stands;
        map = y.map ∙ maps ∙ sym x.map;
        radius = y.sweeps.radius_is ∙ sym x.sweeps.radius_is;
      }

  -- and for the same map updates
  pub updates_once : (changes : Option (List ℕ)) (s : Scope) (c d : Updates) → IfSome changes (λ name. IsSome (held name))
      → ReadsUpdates held changes s c → ReadsUpdates held changes s d → c ≡ d
  updates_once None s c d told x y = x ∙ sym y
  updates_once (Some name) s c d told x y =
      let text : y.0 ≡ x.0 = read_once (held name) y.0 x.0 told y.1 x.1 in
      let own : IsChangeText s x.0 d = subst (λ (t : List ℕ). IsChangeText s t d) text y.2 in
      clear.changes s x.0 c d x.2 own

-- a grid's world comes of its environment and its cells
pub grid_by : (w v : GridWorld) (cells others : List ℕ) → w.env ≡ v.env → cells ≡ others
    → w.map ≡ record { width = w.env.width; height = w.env.height; costs = cells }
    → v.map ≡ record { width = v.env.width; height = v.env.height; costs = others } → w ≡ v
grid_by w v cells others env same x y =
    let maps : ◌≡◌ {A = CellMap} (record { width = w.env.width; height = w.env.height; costs = cells })
    (record { width = v.env.width; height = v.env.height; costs = others }) =
    λ i. record { width = (env i).width; height = (env i).height; costs = same i }
    in
    let map : w.map ≡ v.map = x ∙ maps ∙ sym y in
    λ i. record { env = env i; map = map i }

-- as far as they are told, the files stand for alike worlds, which give a change file one scope
pub record StandForOne {W : Type 0} (held : Told) (f : WorldFiles W) (Alike : W → W → Type 0) : Type 0 where
  pub one : (w v : W) → f.stand_for held w → f.stand_for held v → Alike w v
  pub scope : (w v : W) → Alike w v → f.scope v ≡ f.scope w

module _ (clear : TextsAreClear) (held : Told) {W : Type 0} (f : WorldFiles W) (Alike : W → W → Type 0)
    (stand : StandForOne held f Alike) where
  -- records of plans are the first few of any records of all of them
  pub few_planned : FewAreFirst f.on Alike
      → (changes : Option (List ℕ)) (search : SearchJob) (outputs : Outputs) (log : List Entry)
      (rs us : List PlanRecord) (all : Bool) (broken also : List Found) → IfSome changes (λ name. IsSome (held name))
      → is_determined search.planner ≡ true → ArePlanned held f changes search outputs rs all log broken
      → ArePlanned held f changes search outputs us true log also → (rest : List PlanRecord) × (us ≡ rs ++ rest)
  few_planned first changes search outputs log rs us all broken also told_changes determined x y =
      let alike = stand.one x.world y.world x.says y.says in
      let read : ReadsUpdates held changes (f.scope x.world) y.updates =
      subst (λ (s : Scope). ReadsUpdates held changes s y.updates) (stand.scope x.world y.world alike) y.changes_say in
      let updates : x.updates ≡ y.updates =
      updates_once clear held changes (f.scope x.world) x.updates y.updates told_changes x.changes_say read in
      let plans : ArePlans f.on y.world x.updates search outputs us true log also =
      subst (λ (c : Updates). ArePlans f.on y.world c search outputs us true log also) (sym updates) y.plans in
      first x.world y.world x.updates search outputs log rs us all broken also determined alike x.plans plans

  pub one_planned : RecordsAreOne f.on Alike
      → (changes : Option (List ℕ)) (search : SearchJob) (outputs : Outputs) (log : List Entry)
      (rs us : List PlanRecord) (broken also : List Found) → IfSome changes (λ name. IsSome (held name))
      → is_determined search.planner ≡ true → ArePlanned held f changes search outputs rs true log broken
      → ArePlanned held f changes search outputs us true log also → rs ≡ us
  one_planned one changes search outputs log rs us broken also told_changes determined x y =
      let alike = stand.one x.world y.world x.says y.says in
      let read : ReadsUpdates held changes (f.scope x.world) y.updates =
      subst (λ (s : Scope). ReadsUpdates held changes s y.updates) (stand.scope x.world y.world alike) y.changes_say in
      let updates : x.updates ≡ y.updates =
      updates_once clear held changes (f.scope x.world) x.updates y.updates told_changes x.changes_say read in
      let plans : ArePlans f.on y.world x.updates search outputs us true log also =
      subst (λ (c : Updates). ArePlans f.on y.world c search outputs us true log also) (sym updates) y.plans in
      one x.world y.world x.updates search outputs log rs us broken also determined alike x.plans plans

-- those of a lattice do
pub lattices_stand_for_one : (clear : TextsAreClear) (held : Told) (from : Sources) (moving : Bool)
    → IsSome (held from.env) → IsSome (held from.prims) → StandForOne held (lattice_files from moving) AreAlikeWorlds
lattices_stand_for_one clear held from moving told_env told_prims = record {
  one = λ w v. one_world clear held from w v told_env told_prims;
  scope = alike_scopes from.states moving;
}

-- those of a grid stand for one world
pub grids_stand_for_one : (clear : TextsAreClear) (held : Told) (from : GridSources) → IsSome (held from.env)
    → StandForOne held (grid_files from) AreOneGrid
grids_stand_for_one clear held from told = record {
  one = λ w v x y.
      let text : y.text ≡ x.text = read_once (held from.env) y.text x.text told y.read x.read in
      let own : IsGridFor from x.text v.env y.cells =
      subst (λ (t : List ℕ). IsGridFor from t v.env y.cells) text y.stands in
      let both = clear.grid from x.text w.env v.env x.cells y.cells x.stands own in
      grid_by w v x.cells y.cells both.0 both.1 x.map y.map;
  scope = λ w v same. ap (grid_scope from.states) (sym same);
}
