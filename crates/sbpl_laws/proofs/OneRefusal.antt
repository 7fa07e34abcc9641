-- The files of a job call for one refusal, or for none.
use Rattle.std.proofs.Common.{◌≡◌, ◌⊎◌, ℕ, ◌^◌, ◌<◌, ◌≤◌, Bool, Option, Some, None, List, IsSome, IfSome, length, refl}
use Rattle.std.proofs.Common.{sym, ap, subst, ◌∙◌, arith, inl, inr}
use Rattle.std.proofs.lemmas.Bool.{cases_lt, false≢true}
use Rattle.sbpl_promises.specs.sbpl_cfg.declared.fault.EnvFault.{EnvFault}
use Rattle.sbpl_promises.specs.sbpl_cfg.Environment.{Environment}
use Rattle.sbpl_promises.specs.sbpl_mprim.declared.fault.PrimFault.{PrimFault}
use Rattle.sbpl_promises.specs.sbpl_mprim.declared.prim.Primitive.{Primitive}
use Rattle.sbpl_promises.specs.sbpl_mprim.Primitives.{Primitives}
use Rattle.sbpl_promises.specs.sbpl_sweep.Widths.{IsFirstTooWide, NoneTooWide}
use Rattle.sbpl_promises.specs.sbpl_cost.PrimitiveCost.{IsFirstTooDear, most_cost, primitive_cost}
use Rattle.sbpl_promises.specs.sbpl_cost.World.{World}
use Rattle.sbpl_promises.specs.sbpl_map.declared.fault.ChangeFault.{ChangeFault}
use Rattle.sbpl_promises.specs.sbpl_job.declared.job.GridSources.{GridSources}
use Rattle.sbpl_promises.specs.sbpl_job.declared.job.Sources.{Sources}
use Rattle.sbpl_promises.specs.sbpl_report.declared.refusal.PathEnd.{PathEnd}
use Rattle.sbpl_promises.specs.sbpl_report.declared.refusal.Input.{Input}
use Rattle.sbpl_promises.specs.sbpl_report.declared.refusal.Input.TheVariants as input
use Rattle.sbpl_promises.specs.sbpl_report.declared.refusal.Refusal.{Refusal}
use Rattle.sbpl_promises.specs.sbpl_report.declared.refusal.Refusal.TheVariants as refusal
use Rattle.sbpl_promises.specs.Causes.{AtName, IsCause, IsChangesCause, IsCheckCause, IsEarlyCause, IsEarlyInput}
use Rattle.sbpl_promises.specs.Causes.{IsEndOff, IsFaultyChanges, IsFaultyEnvironment, IsFaultyFor, IsFaultyGrid, IsGridCause, IsGridEndOff}
use Rattle.sbpl_promises.specs.Causes.{IsLabelsCause, IsReadText, IsSource, IsTooLong, ReadsUpdates, ReadsEnvironment}
use Rattle.sbpl_promises.specs.Causes.{ReadsGrid, ReadsPrimitives, ReadsWorld, grid_files, lattice_files}
use Rattle.sbpl_promises.specs.sbpl_nav2d.World.{GridWorld}
use Rattle.sbpl_promises.specs.declared.updates.Updates.{Updates}
use Rattle.sbpl_promises.specs.Clear.{TextsAreClear}
use Rattle.sbpl_promises.specs.WorldFiles.{WorldFiles}
use Rattle.sbpl_promises.specs.Texts.{HasChangeFault, HasEndOff, HasEnvironmentFault, HasGridEndOff, HasGridFault, HasPrimitiveFault}
use Rattle.sbpl_promises.specs.Texts.{IsChangeText, IsEnvironmentFor, IsGridFor, IsPrimitiveText, Scope}
use Rattle.sbpl_promises.specs.Writing.{IsNamed, Names, Told}
use Rattle.sbpl_laws.proofs.Converse.{none_is_first, none_is_widest}
use Rattle.sbpl_laws.proofs.SamePlanned.{StandForOne, read_once}

-- a file that was read is not too long
read_is_short : (held : Option (List ℕ)) (text : List ℕ) → IsSome held → IsReadText held text → IsTooLong held → ⊥
read_is_short None text told read long = false≢true told
read_is_short (Some bytes) text told read long =
    let short : length text ≤ 2 ^ 30 = read.short in
    let same : length text ≡ length bytes = ap (λ (l : List ℕ). length l) read.told in
    omega arith

-- of two first ones neither comes before the other
one_widest : (ps : Primitives) (radius i j : ℕ) → IsFirstTooWide ps radius i → IsFirstTooWide ps radius j → i ≡ j
one_widest ps radius i j x y = elim (cases_lt i j) [
  | inl less ↦ absurd (y.before i less x.here)
  | inr most ↦ elim (cases_lt j i) [ inl less ↦ absurd (x.before j less y.here) | inr least ↦ omega arith ]
]

one_dearest : (e : Environment) (ps : List Primitive) (i j : ℕ) → IsFirstTooDear e ps i → IsFirstTooDear e ps j → i ≡ j
one_dearest e ps i j x y = elim (cases_lt i j) [
  | inl less ↦
      absurd (let cheap = y.before i x.here.0 less x.here.1 in
      let dear : most_cost < primitive_cost e x.here.0 = x.here.2 in omega arith)
  | inr most ↦ elim (cases_lt j i) [
    | inl less ↦
        absurd (let cheap = x.before j y.here.0 less y.here.1 in
        let dear : most_cost < primitive_cost e y.here.0 = y.here.2 in omega arith)
    | inr least ↦ omega arith
  ]
]

-- ---- the causes in the order in which the files are judged

-- the environment file is faulty or too long, or an end is off its map
abbrev IsBadEnvironment : Told → Sources → Refusal → Type 0
IsBadEnvironment held from r =
    ((f : EnvFault) × (r ≡ refusal.Environment f) × IsFaultyEnvironment held from f)
    ⊎ (((r ≡ refusal.Length input.Environment) × IsTooLong (held from.env))
    ⊎ ((end : PathEnd) × (r ≡ refusal.OffMap end) × IsEndOff held from end))

-- the primitive file is, for this environment
abbrev AreBadPrimitives : Told → Sources → Environment → Refusal → Type 0
AreBadPrimitives held from e r =
    ((f : PrimFault) × (r ≡ refusal.Primitives f) × IsFaultyFor held from e f)
    ⊎ ((r ≡ refusal.Length input.Primitives) × IsTooLong (held from.prims))

-- a primitive is too wide, or none is and one is too dear
abbrev AreUnfit : Sources → Environment → Primitives → Refusal → Type 0
AreUnfit from e ps r =
    ((i : ℕ) × (r ≡ refusal.TooWide i) × IsFirstTooWide ps from.radius i)
    ⊎ ((i : ℕ) × (r ≡ refusal.TooDear i) × NoneTooWide ps from.radius × IsFirstTooDear e ps.items i)

abbrev IsSecondBad : Told → Sources → Environment → Refusal → Type 0
IsSecondBad held from e r =
    AreBadPrimitives held from e r ⊎ ((ps : Primitives) × ReadsPrimitives held from e ps × AreUnfit from e ps r)

-- the files of a lattice call for this refusal
abbrev pub AreBadSources : Told → Sources → Refusal → Type 0
AreBadSources held from r =
    IsBadEnvironment held from r
    ⊎ ((e : Environment) × (cells : List ℕ) × ReadsEnvironment held from e cells × IsSecondBad held from e r)

-- the change file is faulty or too long
abbrev AreBadChanges : Told → Scope → Refusal → List ℕ → Type 0
AreBadChanges held s r name =
    ((f : ChangeFault) × (r ≡ refusal.Changes f) × IsFaultyChanges held name s f)
    ⊎ ((r ≡ refusal.Length input.Changes) × IsTooLong (held name))

abbrev pub AreBadUpdates : {W : Type 0} → Told → WorldFiles W → Option (List ℕ) → Refusal → Type 0
AreBadUpdates {W} held f changes r = (w : W) × f.stand_for held w × AtName changes (AreBadChanges held (f.scope w) r)

-- the file of labels is too long
abbrev pub AreBadLabels : {W : Type 0} → Told → WorldFiles W → Option (List ℕ) → (labels : List ℕ) → Refusal → Type 0
AreBadLabels {W} held f changes labels r =
    (w : W) × (c : Updates) × f.stand_for held w × ReadsUpdates held changes (f.scope w) c
    × ((r ≡ refusal.Length input.Labels) × IsTooLong (held labels))

-- a read of a file with this property failed, and this says so
abbrev pub IsFailedRead : (IsOne Failed : Names) → Refusal → Type 0
IsFailedRead IsOne Failed r = (i : Input) × (r ≡ refusal.Read i) × ((name : List ℕ) × IsOne name × Failed name)

-- a name with a property of which something holds
named_at : (o : Option (List ℕ)) (P : List ℕ → Type 0) → AtName o P → (name : List ℕ) × (o ≡ Some name) × P name
named_at None P at = absurd at
named_at (Some name) P at = (name, refl, at)

at_name_on : (o : Option (List ℕ)) (P Q : List ℕ → Type 0) → ((name : List ℕ) → P name → Q name)
    → AtName o P → AtName o Q
at_name_on None P Q on at = at
at_name_on (Some name) P Q on at = on name at

-- why a job is refused for the files of its lattice is one of these, or a read failed
pub source_cause : (held : Told) (Failed : Names) (from : Sources) (r : Refusal) → IsCause held Failed from r
    → AreBadSources held from r ⊎ IsFailedRead (IsSource from) Failed r
source_cause held Failed from (refusal.Environment x) c = inl (inl (inl (x, refl, c)))
source_cause held Failed from (refusal.OffMap x) c = inl (inl (inr (inr (x, refl, c))))
source_cause held Failed from (refusal.Primitives x) c =
    inl (inr (c.env, c.cells, c.environment, inl (inl (x, refl, c.primitives))))
source_cause held Failed from (refusal.TooWide i) c =
    inl (inr (c.env, c.cells, c.environment, inr (c.prims, c.primitives, inl (i, refl, c.wide))))
source_cause held Failed from (refusal.TooDear i) c =
    inl (inr (c.env, c.cells, c.environment, inr (c.prims, c.primitives, inr (i, refl, c.narrow, c.dear))))
source_cause held Failed from (refusal.Read input.Environment) c =
    inr (input.Environment, refl, (from.env, inl refl, c))
source_cause held Failed from (refusal.Read input.Primitives) c =
    inr (input.Primitives, refl, (from.prims, inr refl, c.holds))
source_cause held Failed from (refusal.Length input.Environment) c = inl (inl (inr (inl (refl, c))))
source_cause held Failed from (refusal.Length input.Primitives) c =
    inl (inr (c.env, c.cells, c.environment, inl (inr (refl, c.holds))))
source_cause held Failed from _ c = absurd c

updates_cause : {W : Type 0} (held : Told) (Failed : Names) (f : WorldFiles W) (changes : Option (List ℕ)) (r : Refusal)
    → IsChangesCause held Failed f changes r → AreBadUpdates held f changes r ⊎ IsFailedRead (IsNamed changes) Failed r
updates_cause held Failed f changes (refusal.Changes x) (w, says, at) =
    inl (
      w,
      says,
      at_name_on changes (λ name. IsFaultyChanges held name (f.scope w) x)
          (AreBadChanges held (f.scope w) (refusal.Changes x)) (λ name faulty. inl (x, refl, faulty)) at,
    )
updates_cause held Failed f changes (refusal.Read input.Changes) (w, says, at) =
    let found = named_at changes Failed at in
    inr (input.Changes, refl, (found.0, found.1, found.2))
updates_cause held Failed f changes (refusal.Length input.Changes) (w, says, at) =
    inl (
      w,
      says,
      at_name_on changes (λ name. IsTooLong (held name)) (AreBadChanges held (f.scope w) (refusal.Length input.Changes))
          (λ name long. inr (refl, long)) at,
    )
updates_cause held Failed f changes _ c = absurd c

labels_cause : {W : Type 0} (held : Told) (Failed : Names) (f : WorldFiles W) (changes : Option (List ℕ))
    (labels : List ℕ) (r : Refusal) → IsLabelsCause held Failed f changes labels r
    → AreBadLabels held f changes labels r ⊎ IsFailedRead (λ name. name ≡ labels) Failed r
labels_cause held Failed f changes labels (refusal.Read input.Labels) (w, updates, says, changes_say, rose) =
    inr (input.Labels, refl, (labels, refl, rose))
labels_cause held Failed f changes labels (refusal.Length input.Labels) (w, updates, says, changes_say, long) =
    inl (w, updates, says, changes_say, (refl, long))
labels_cause held Failed f changes labels _ c = absurd c

-- a read that failed of a file with one property failed of one with another that follows
failed_on : (P Q Failed : Names) (r : Refusal) → ((name : List ℕ) → P name → Q name) → IsFailedRead P Failed r
    → IsFailedRead Q Failed r
failed_on P Q Failed r on (i, is, (name, one, failed)) = (i, is, (name, on name one, failed))

-- ---- two of them are the same

module _ (clear : TextsAreClear) (held : Told) where
  module _ (from : Sources) (told_env : IsSome (held from.env)) (told_prims : IsSome (held from.prims)) where
    -- the environment

    off_not_faulty : (end : PathEnd) (f : EnvFault) → IsEndOff held from end → IsFaultyEnvironment held from f → ⊥
    off_not_faulty end f x y =
        let text : y.text ≡ x.text = read_once (held from.env) y.text x.text told_env y.read x.read in
        clear.end_fault from x.text end f x.off (subst (λ (t : List ℕ). HasEnvironmentFault from.states t f) text y.faulty)

    one_environment : (r u : Refusal) → IsBadEnvironment held from r → IsBadEnvironment held from u → r ≡ u
    one_environment r u (inl (f, is, x)) (inl (g, also, y)) =
        let text : y.text ≡ x.text = read_once (held from.env) y.text x.text told_env y.read x.read in
        let own : HasEnvironmentFault from.states x.text g =
        subst (λ (t : List ℕ). HasEnvironmentFault from.states t g) text y.faulty in
        is ∙ ap (λ (e : EnvFault). refusal.Environment e) (clear.one_environment_fault from.states x.text f g x.faulty own)
        ∙ sym also
    one_environment r u (inl (f, is, x)) (inr (inl (also, long))) =
        absurd (read_is_short (held from.env) x.text told_env x.read long)
    one_environment r u (inl (f, is, x)) (inr (inr (end, also, y))) = absurd (off_not_faulty end f y x)
    one_environment r u (inr (inl (is, long))) (inl (g, also, y)) =
        absurd (read_is_short (held from.env) y.text told_env y.read long)
    one_environment r u (inr (inl (is, long))) (inr (inl (also, too))) = is ∙ sym also
    one_environment r u (inr (inl (is, long))) (inr (inr (end, also, y))) =
        absurd (read_is_short (held from.env) y.text told_env y.read long)
    one_environment r u (inr (inr (end, is, x))) (inl (g, also, y)) = absurd (off_not_faulty end g x y)
    one_environment r u (inr (inr (end, is, x))) (inr (inl (also, long))) =
        absurd (read_is_short (held from.env) x.text told_env x.read long)
    one_environment r u (inr (inr (end, is, x))) (inr (inr (other, also, y))) =
        let text : y.text ≡ x.text = read_once (held from.env) y.text x.text told_env y.read x.read in
        let own : HasEndOff from x.text other = subst (λ (t : List ℕ). HasEndOff from t other) text y.off in
        is ∙ ap (λ (e : PathEnd). refusal.OffMap e) (clear.one_end from x.text end other x.off own) ∙ sym also

    not_environment : (r : Refusal) (e : Environment) (cells : List ℕ) → IsBadEnvironment held from r
        → ReadsEnvironment held from e cells → ⊥
    not_environment r e cells (inl (f, is, x)) says =
        let text : says.text ≡ x.text = read_once (held from.env) says.text x.text told_env says.read x.read in
        let own : IsEnvironmentFor from x.text e cells =
        subst (λ (t : List ℕ). IsEnvironmentFor from t e cells) text says.stands in
        clear.environment_fault from x.text e cells f own x.faulty
    not_environment r e cells (inr (inr (end, is, x))) says =
        let text : says.text ≡ x.text = read_once (held from.env) says.text x.text told_env says.read x.read in
        let own : IsEnvironmentFor from x.text e cells =
        subst (λ (t : List ℕ). IsEnvironmentFor from t e cells) text says.stands in
        clear.end_off from x.text e cells end own x.off
    not_environment r e cells (inr (inl (is, long))) says = read_is_short (held from.env) says.text told_env says.read long

    same_said : (e d : Environment) (cells others : List ℕ) → ReadsEnvironment held from e cells
        → ReadsEnvironment held from d others → d ≡ e
    same_said e d cells others x y =
        let text : y.text ≡ x.text = read_once (held from.env) y.text x.text told_env y.read x.read in
        let own : IsEnvironmentFor from x.text d others =
        subst (λ (t : List ℕ). IsEnvironmentFor from t d others) text y.stands in
        (clear.environment from x.text d e others cells own x.stands).0

    -- the primitives, for an environment

    one_primitives : (e : Environment) (r u : Refusal) → AreBadPrimitives held from e r
        → AreBadPrimitives held from e u → r ≡ u
    one_primitives e r u (inl (f, is, x)) (inl (g, also, y)) =
        let text : y.text ≡ x.text = read_once (held from.prims) y.text x.text told_prims y.read x.read in
        let own : HasPrimitiveFault e x.text g = subst (λ (t : List ℕ). HasPrimitiveFault e t g) text y.faulty in
        is ∙ ap (λ (p : PrimFault). refusal.Primitives p) (clear.one_primitive_fault x.text e f g x.faulty own)
        ∙ sym also
    one_primitives e r u (inl (f, is, x)) (inr (also, long)) =
        absurd (read_is_short (held from.prims) x.text told_prims x.read long)
    one_primitives e r u (inr (is, long)) (inl (g, also, y)) =
        absurd (read_is_short (held from.prims) y.text told_prims y.read long)
    one_primitives e r u (inr (is, long)) (inr (also, too)) = is ∙ sym also

    not_primitives : (e : Environment) (r : Refusal) (ps : Primitives) → AreBadPrimitives held from e r
        → ReadsPrimitives held from e ps → ⊥
    not_primitives e r ps (inl (f, is, x)) says =
        let text : says.text ≡ x.text = read_once (held from.prims) says.text x.text told_prims says.read x.read in
        let own : IsPrimitiveText e x.text ps = subst (λ (t : List ℕ). IsPrimitiveText e t ps) text says.stands in
        clear.primitive_fault x.text e ps f own x.faulty
    not_primitives e r ps (inr (is, long)) says = read_is_short (held from.prims) says.text told_prims says.read long

    same_listed : (e : Environment) (ps qs : Primitives) → ReadsPrimitives held from e ps
        → ReadsPrimitives held from e qs → qs ≡ ps
    same_listed e ps qs x y =
        let text : y.text ≡ x.text = read_once (held from.prims) y.text x.text told_prims y.read x.read in
        let own : IsPrimitiveText e x.text qs = subst (λ (t : List ℕ). IsPrimitiveText e t qs) text y.stands in
        clear.primitives x.text e qs ps own x.stands

    one_unfit : (e : Environment) (ps : Primitives) (r u : Refusal) → AreUnfit from e ps r
        → AreUnfit from e ps u → r ≡ u
    one_unfit e ps r u (inl (i, is, x)) (inl (j, also, y)) =
        is ∙ ap (λ (n : ℕ). refusal.TooWide n) (one_widest ps from.radius i j x y) ∙ sym also
    one_unfit e ps r u (inl (i, is, x)) (inr (j, also, narrow, y)) = absurd (none_is_widest ps from.radius i narrow x)
    one_unfit e ps r u (inr (i, is, narrow, x)) (inl (j, also, y)) = absurd (none_is_widest ps from.radius j narrow y)
    one_unfit e ps r u (inr (i, is, narrow, x)) (inr (j, also, too, y)) =
        is ∙ ap (λ (n : ℕ). refusal.TooDear n) (one_dearest e ps.items i j x y) ∙ sym also

    one_second : (e : Environment) (r u : Refusal) → IsSecondBad held from e r → IsSecondBad held from e u → r ≡ u
    one_second e r u (inl x) (inl y) = one_primitives e r u x y
    one_second e r u (inl x) (inr (qs, says, y)) = absurd (not_primitives e r qs x says)
    one_second e r u (inr (ps, says, x)) (inl y) = absurd (not_primitives e u ps y says)
    one_second e r u (inr (ps, says, x)) (inr (qs, also, y)) =
        one_unfit e ps r u x (subst (λ (l : Primitives). AreUnfit from e l u) (same_listed e ps qs says also) y)

    pub one_source : (r u : Refusal) → AreBadSources held from r → AreBadSources held from u → r ≡ u
    one_source r u (inl x) (inl y) = one_environment r u x y
    one_source r u (inl x) (inr (d, others, says, y)) = absurd (not_environment r d others x says)
    one_source r u (inr (e, cells, says, x)) (inl y) = absurd (not_environment u e cells y says)
    one_source r u (inr (e, cells, says, x)) (inr (d, others, also, y)) =
        one_second e r u x
        (subst (λ (v : Environment). IsSecondBad held from v u) (same_said e d cells others says also) y)

    -- where the files stand for a world there is none

    fits_world : (w : World) (e : Environment) (ps : Primitives) (r : Refusal) → ReadsWorld held from w → w.env ≡ e
        → w.prims ≡ ps → AreUnfit from e ps r → ⊥
    fits_world w e ps r says env prims (inl (i, is, x)) =
        none_is_widest w.prims from.radius i says.narrow
        (subst (λ (l : Primitives). IsFirstTooWide l from.radius i) (sym prims) x)
    fits_world w e ps r says env prims (inr (i, is, narrow, x)) =
        let own : IsFirstTooDear w.env w.prims.items i = rw (env, prims) x in
        none_is_first w.env w.prims i says.cheap own

    second_world : (w : World) (e : Environment) (r : Refusal) → ReadsWorld held from w → w.env ≡ e
        → IsSecondBad held from e r → ⊥
    second_world w e r says env (inl x) =
        not_primitives e r w.prims x
        (subst (λ (d : Environment). ReadsPrimitives held from d w.prims) env says.primitives)
    second_world w e r says env (inr (ps, also, x)) =
        let own : ReadsPrimitives held from e w.prims =
        subst (λ (d : Environment). ReadsPrimitives held from d w.prims) env says.primitives in
        fits_world w e ps r says env (same_listed e ps w.prims also own) x

    pub not_world : (w : World) (r : Refusal) → AreBadSources held from r → ReadsWorld held from w → ⊥
    not_world w r (inl x) says = not_environment r w.env says.cells x says.environment
    not_world w r (inr (e, cells, also, x)) says =
        second_world w e r says (same_said e w.env cells says.cells also says.environment) x

  -- ---- the changes, in a world that the files stand for

  one_changes : (s : Scope) (r u : Refusal) (name : List ℕ) → IsSome (held name) → AreBadChanges held s r name
      → AreBadChanges held s u name → r ≡ u
  one_changes s r u name told (inl (f, is, x)) (inl (g, also, y)) =
      let text : y.text ≡ x.text = read_once (held name) y.text x.text told y.read x.read in
      let own : HasChangeFault s x.text g = subst (λ (t : List ℕ). HasChangeFault s t g) text y.faulty in
      is ∙ ap (λ (c : ChangeFault). refusal.Changes c) (clear.one_change_fault s x.text f g x.faulty own) ∙ sym also
  one_changes s r u name told (inl (f, is, x)) (inr (also, long)) =
      absurd (read_is_short (held name) x.text told x.read long)
  one_changes s r u name told (inr (is, long)) (inl (g, also, y)) =
      absurd (read_is_short (held name) y.text told y.read long)
  one_changes s r u name told (inr (is, long)) (inr (also, too)) = is ∙ sym also

  not_changes : (s : Scope) (r : Refusal) (c : Updates) (name : List ℕ) → IsSome (held name)
      → AreBadChanges held s r name → ReadsUpdates held (Some name) s c → ⊥
  not_changes s r c name told (inl (f, is, x)) (t, read, stands) =
      let text : t ≡ x.text = read_once (held name) t x.text told read x.read in
      let own : IsChangeText s x.text c = subst (λ (l : List ℕ). IsChangeText s l c) text stands in
      clear.change_fault s x.text c f own x.faulty
  not_changes s r c name told (inr (is, long)) (t, read, stands) = read_is_short (held name) t told read long

  at_updates : (s : Scope) (o : Option (List ℕ)) (r u : Refusal) → IfSome o (λ name. IsSome (held name))
      → AtName o (AreBadChanges held s r) → AtName o (AreBadChanges held s u) → r ≡ u
  at_updates s None r u told x y = absurd x
  at_updates s (Some name) r u told x y = one_changes s r u name told x y

  off_updates : (s : Scope) (o : Option (List ℕ)) (r : Refusal) (c : Updates) → IfSome o (λ name. IsSome (held name))
      → AtName o (AreBadChanges held s r) → ReadsUpdates held o s c → ⊥
  off_updates s None r c told x says = x
  off_updates s (Some name) r c told x says = not_changes s r c name told x says

-- as far as they are told, the files of a world call for one refusal of these, or stand for a world
pub record CallForOne {W : Type 0} (held : Told) (f : WorldFiles W) (Bad : Refusal → Type 0) : Type 1 where
  pub cause : (Failed : Names) (r : Refusal) → f.refused held Failed r → Bad r ⊎ IsFailedRead f.names Failed r
  pub one : (r u : Refusal) → Bad r → Bad u → r ≡ u
  pub none : (w : W) (r : Refusal) → Bad r → f.stand_for held w → ⊥

-- those of a lattice do
pub lattices_call_for_one : (clear : TextsAreClear) (held : Told) (from : Sources) (moving : Bool)
    → IsSome (held from.env) → IsSome (held from.prims)
    → CallForOne held (lattice_files from moving) (AreBadSources held from)
lattices_call_for_one clear held from moving told_env told_prims = record {
  cause = λ Failed r. source_cause held Failed from r;
  one = one_source clear held from told_env told_prims;
  none = not_world clear held from told_env told_prims;
}

-- the environment file of a grid is faulty or too long, or an end is off its map
abbrev pub IsBadGrid : Told → GridSources → Refusal → Type 0
IsBadGrid held from r =
    ((f : EnvFault) × (r ≡ refusal.Grid f) × IsFaultyGrid held from f)
    ⊎ (((r ≡ refusal.Length input.Environment) × IsTooLong (held from.env))
    ⊎ ((end : PathEnd) × (r ≡ refusal.OffMap end) × IsGridEndOff held from end))

grid_cause : (held : Told) (Failed : Names) (from : GridSources) (r : Refusal) → IsGridCause held Failed from r
    → IsBadGrid held from r ⊎ IsFailedRead (λ name. name ≡ from.env) Failed r
grid_cause held Failed from (refusal.Grid x) c = inl (inl (x, refl, c))
grid_cause held Failed from (refusal.OffMap x) c = inl (inr (inr (x, refl, c)))
grid_cause held Failed from (refusal.Read input.Environment) c = inr (input.Environment, refl, (from.env, refl, c))
grid_cause held Failed from (refusal.Length input.Environment) c = inl (inr (inl (refl, c)))
grid_cause held Failed from _ c = absurd c

module _ (clear : TextsAreClear) (held : Told) (from : GridSources) (told : IsSome (held from.env)) where
  off_grid_not_faulty : (end : PathEnd) (f : EnvFault) → IsGridEndOff held from end → IsFaultyGrid held from f → ⊥
  off_grid_not_faulty end f x y =
      let text : y.text ≡ x.text = read_once (held from.env) y.text x.text told y.read x.read in
      clear.grid_end_fault from x.text end f x.off (subst (λ (t : List ℕ). HasGridFault from.states t f) text y.faulty)

  one_grid : (r u : Refusal) → IsBadGrid held from r → IsBadGrid held from u → r ≡ u
  one_grid r u (inl (f, is, x)) (inl (g, also, y)) =
      let text : y.text ≡ x.text = read_once (held from.env) y.text x.text told y.read x.read in
      let own : HasGridFault from.states x.text g =
      subst (λ (t : List ℕ). HasGridFault from.states t g) text y.faulty in
      is ∙ ap (λ (e : EnvFault). refusal.Grid e) (clear.one_grid_fault from.states x.text f g x.faulty own) ∙ sym also
  one_grid r u (inl (f, is, x)) (inr (inl (also, long))) =
      absurd (read_is_short (held from.env) x.text told x.read long)
  one_grid r u (inl (f, is, x)) (inr (inr (end, also, y))) = absurd (off_grid_not_faulty end f y x)
  one_grid r u (inr (inl (is, long))) (inl (g, also, y)) =
      absurd (read_is_short (held from.env) y.text told y.read long)
  one_grid r u (inr (inl (is, long))) (inr (inl (also, too))) = is ∙ sym also
  one_grid r u (inr (inl (is, long))) (inr (inr (end, also, y))) =
      absurd (read_is_short (held from.env) y.text told y.read long)
  one_grid r u (inr (inr (end, is, x))) (inl (g, also, y)) = absurd (off_grid_not_faulty end g x y)
  one_grid r u (inr (inr (end, is, x))) (inr (inl (also, long))) =
      absurd (read_is_short (held from.env) x.text told x.read long)
  one_grid r u (inr (inr (end, is, x))) (inr (inr (other, also, y))) =
      let text : y.text ≡ x.text = read_once (held from.env) y.text x.text told y.read x.read in
      let own : HasGridEndOff from x.text other = subst (λ (t : List ℕ). HasGridEndOff from t other) text y.off in
      is ∙ ap (λ (e : PathEnd). refusal.OffMap e) (clear.one_grid_end from x.text end other x.off own) ∙ sym also

  not_grid : (w : GridWorld) (r : Refusal) → IsBadGrid held from r → ReadsGrid held from w → ⊥
  not_grid w r (inl (f, is, x)) says =
      let text : says.text ≡ x.text = read_once (held from.env) says.text x.text told says.read x.read in
      let own : IsGridFor from x.text w.env says.cells =
      subst (λ (t : List ℕ). IsGridFor from t w.env says.cells) text says.stands in
      clear.grid_fault from x.text w.env says.cells f own x.faulty
  not_grid w r (inr (inr (end, is, x))) says =
      let text : says.text ≡ x.text = read_once (held from.env) says.text x.text told says.read x.read in
      let own : IsGridFor from x.text w.env says.cells =
      subst (λ (t : List ℕ). IsGridFor from t w.env says.cells) text says.stands in
      clear.grid_end_off from x.text w.env says.cells end own x.off
  not_grid w r (inr (inl (is, long))) says = read_is_short (held from.env) says.text told says.read long

  -- those of a grid do
  pub grids_call_for_one : CallForOne held (grid_files from) (IsBadGrid held from)
  grids_call_for_one = record { cause = λ Failed r. grid_cause held Failed from r; one = one_grid; none = not_grid }

module _ (clear : TextsAreClear) (held : Told) {W : Type 0} (f : WorldFiles W) (Alike : W → W → Type 0)
    (stand : StandForOne held f Alike) (Bad : Refusal → Type 0) (calls : CallForOne held f Bad)
    (changes : Option (List ℕ)) (told_changes : IfSome changes (λ name. IsSome (held name))) where
  one_bad_updates : (r u : Refusal) → AreBadUpdates held f changes r → AreBadUpdates held f changes u → r ≡ u
  one_bad_updates r u (w, says, x) (v, also, y) =
      at_updates clear held (f.scope w) changes r u told_changes x
      (subst (λ (s : Scope). AtName changes (AreBadChanges held s u)) (stand.scope w v (stand.one w v says also)) y)

  not_updates : (w : W) (c : Updates) (r : Refusal) → AreBadUpdates held f changes r → f.stand_for held w
      → ReadsUpdates held changes (f.scope w) c → ⊥
  not_updates w c r (v, also, x) says updates =
      off_updates clear held (f.scope w) changes r c told_changes (subst (λ (s : Scope).
      AtName changes (AreBadChanges held s r)) (stand.scope w v (stand.one w v says also)) x) updates

  -- what calls for a refusal before a plan is made
  abbrev pub IsEarlyBad : Refusal → Type 0
  IsEarlyBad r = Bad r ⊎ AreBadUpdates held f changes r

  pub early_bad : (Failed : Names) (r : Refusal) → IsEarlyCause held Failed f changes r
      → IsEarlyBad r ⊎ IsFailedRead (IsEarlyInput f changes) Failed r
  early_bad Failed r (inl c) = elim (calls.cause Failed r c) [
    | inl bad ↦ inl (inl bad)
    | inr out ↦ inr (failed_on f.names (IsEarlyInput f changes) Failed r (λ name is. inl is) out)
  ]
  early_bad Failed r (inr c) = elim (updates_cause held Failed f changes r c) [
    | inl bad ↦ inl (inr bad)
    | inr out ↦ inr (failed_on (IsNamed changes) (IsEarlyInput f changes) Failed r (λ name is. inr is) out)
  ]

  pub one_early : (r u : Refusal) → IsEarlyBad r → IsEarlyBad u → r ≡ u
  one_early r u (inl x) (inl y) = calls.one r u x y
  one_early r u (inl x) (inr y) = absurd (calls.none y.0 r x y.1)
  one_early r u (inr x) (inl y) = absurd (calls.none x.0 u y x.1)
  one_early r u (inr x) (inr y) = one_bad_updates r u x y

  pub not_early : (w : W) (c : Updates) (r : Refusal) → IsEarlyBad r → f.stand_for held w
      → ReadsUpdates held changes (f.scope w) c → ⊥
  not_early w c r (inl x) says updates = calls.none w r x says
  not_early w c r (inr x) says updates = not_updates w c r x says updates

  -- and before labels are checked
  module _ (labels : List ℕ) where
    abbrev pub IsCheckBad : Refusal → Type 0
    IsCheckBad r = IsEarlyBad r ⊎ AreBadLabels held f changes labels r

    pub check_bad : (Failed : Names) (r : Refusal) → IsCheckCause held Failed f changes labels r
        → IsCheckBad r ⊎ IsFailedRead (λ name. IsEarlyInput f changes name ⊎ (name ≡ labels)) Failed r
    check_bad Failed r (inl c) = elim (early_bad Failed r c) [
      | inl bad ↦ inl (inl bad)
      | inr out ↦
          inr (failed_on (IsEarlyInput f changes) (λ name. IsEarlyInput f changes name ⊎ (name ≡ labels)) Failed r
          (λ name is. inl is) out)
    ]
    check_bad Failed r (inr c) = elim (labels_cause held Failed f changes labels r c) [
      | inl bad ↦ inl (inr bad)
      | inr out ↦
          inr (failed_on (λ name. name ≡ labels) (λ name. IsEarlyInput f changes name ⊎ (name ≡ labels)) Failed r
          (λ name is. inr is) out)
    ]

    pub one_check : (r u : Refusal) → IsCheckBad r → IsCheckBad u → r ≡ u
    one_check r u (inl x) (inl y) = one_early r u x y
    one_check r u (inl x) (inr (w, c, says, updates, y)) = absurd (not_early w c r x says updates)
    one_check r u (inr (w, c, says, updates, x)) (inl y) = absurd (not_early w c u y says updates)
    one_check r u (inr (w, c, says, updates, x)) (inr (v, d, also, too, y)) = x.0 ∙ sym y.0

    pub not_check : IsSome (held labels) → (w : W) (c : Updates) (text : List ℕ) (r : Refusal) → IsCheckBad r
        → f.stand_for held w → ReadsUpdates held changes (f.scope w) c → IsReadText (held labels) text → ⊥
    not_check told w c text r (inl x) says updates read = not_early w c r x says updates
    not_check told w c text r (inr (v, d, also, too, x)) says updates read =
        read_is_short (held labels) text told read x.1
