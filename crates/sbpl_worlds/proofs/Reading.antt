-- What a desk keeps over two readings, and stops that are handed on.
use Rattle.std.proofs.Common.{◌≡◌, ℕ, List, Option, Some, None, Result, Ok, Err, IfErr, ◌∙◌, sym, subst, arith, inl, inr}
use Rattle.sbpl_promises.specs.sbpl_cfg.Environment.{Environment, IsPoseOnMap}
use Rattle.sbpl_promises.specs.sbpl_desk.Desk.{NoneFalls, Stays}
use Rattle.sbpl_promises.specs.sbpl_mprim.Primitives.{Primitives}
use Rattle.sbpl_promises.specs.sbpl_job.declared.job.Sources.{Sources}
use Rattle.sbpl_promises.specs.sbpl_report.declared.refusal.PathEnd.{PathEnd}
use Rattle.sbpl_promises.specs.sbpl_report.declared.refusal.Input.TheVariants as input
use Rattle.sbpl_promises.specs.sbpl_report.declared.refusal.Refusal.{Refusal}
use Rattle.sbpl_promises.specs.sbpl_report.declared.refusal.Refusal.TheVariants as refusal
use Rattle.sbpl_promises.specs.sbpl_report.declared.refusal.JobStop.{JobStop}
use Rattle.sbpl_promises.specs.sbpl_report.declared.refusal.JobStop.TheVariants as stop
use Rattle.sbpl_promises.specs.Causes.{AtName, ChangesStopFor, EarlyStopsFor, IsCause, IsChangesCause, IsChangesRefused, IsDearStop}
use Rattle.sbpl_promises.specs.Causes.{IsFaultyChanges, IsReadText, IsTooDearJob, IsTooLong, IsWideStop, LatticeStopsFor, PrimitivesStopFor}
use Rattle.sbpl_promises.specs.Causes.{IsEndRefused, IsOffStop, ReadsUpdates, ReadsEnvironment, ReadsPrimitives}
use Rattle.sbpl_promises.specs.WorldFiles.{WorldFiles}
use Rattle.sbpl_promises.specs.Texts.{IsEnvironmentText, IsFirstOff, Scope}
use Rattle.sbpl_promises.specs.declared.updates.Updates.{Updates}
use Rattle.sbpl_promises.specs.Writing.{DeskState, Names, ReadFailed, ReadsOnly, Told}

-- what a desk keeps over two calls that read it keeps over both
pub reads_on : (s t u : DeskState) → ReadsOnly s t → ReadsOnly t u → ReadsOnly s u
reads_on s t u p q = record {
  held = λ name. q.held name ∙ p.held name;
  written = λ name. q.written name ∙ p.written name;
  reads = λ name. let a = p.reads name in let b = q.reads name in omega arith;
  writes = λ name. let a = p.writes name in let b = q.writes name in omega arith;
  heard = q.heard ∙ p.heard;
  over = q.over ∙ p.over;
}

-- a read that failed later had failed before
pub failed_since : (s t u : DeskState) → NoneFalls s.read_faults t.read_faults → (name : List ℕ)
    → ReadFailed t u name → ReadFailed s u name
failed_since s t u low name (inl more) = let below = low name in inl (omega arith)
failed_since s t u low name (inr most) = inr most

-- what holds at a name, if there is one
at_name_on : (changes : Option (List ℕ)) (P Q : Names) → ((name : List ℕ) → P name → Q name)
    → AtName changes P → AtName changes Q
at_name_on None P Q on at = at
at_name_on (Some name) P Q on at = on name at

-- the primitive file said before what it said later
pub primitives_before : (held held' : Told) (from : Sources) (e : Environment) (ps : Primitives) → Stays held held'
    → ReadsPrimitives held' from e ps → ReadsPrimitives held from e ps
primitives_before held held' from e ps same says = record {
  text = says.text;
  read = subst (λ (o : Option (List ℕ)). IsReadText o says.text) (same from.prims) says.read;
  stands = says.stands;
}

-- a stop for the primitive file is one, where an environment was read before
pub primitives_stop : (s t u : DeskState) (from : Sources) (e : Environment) (cells : List ℕ) (x : JobStop)
    → ReadsEnvironment s.held from e cells → ReadsOnly s t → PrimitivesStopFor t u from e x → LatticeStopsFor s u from x
primitives_stop s t u from e cells stop.NoMemory says same cause = tt
primitives_stop s t u from e cells (stop.Refused r m) says same cause = by_refusal r cause
  where
    by_refusal : (r : Refusal) → PrimitivesStopFor t u from e (stop.Refused r m) → IsCause s.held (ReadFailed s u) from r
    by_refusal (refusal.Primitives f) faulty = record {
      env = e;
      cells = cells;
      environment = says;
      primitives = record {
        text = faulty.text;
        read = subst (λ (o : Option (List ℕ)). IsReadText o faulty.text) (same.held from.prims) faulty.read;
        faulty = faulty.faulty;
      };
    }
    by_refusal (refusal.Read input.Primitives) failed =
        record { env = e; cells = cells; environment = says; holds = failed_since s t u same.reads from.prims failed }
    by_refusal (refusal.Length input.Primitives) long = record {
      env = e;
      cells = cells;
      environment = says;
      holds = subst (λ (o : Option (List ℕ)). IsTooLong o) (same.held from.prims) long;
    }
    by_refusal _ none = absurd none

-- a stop for an end that is off the map is one, where the environment file was read before
pub end_stop : (s u : DeskState) (from : Sources) (text : List ℕ) (file : Environment) (cells : List ℕ) (x : JobStop)
    → IsReadText (s.held from.env) text → IsEnvironmentText from.states text file cells
    → IsOffStop (IsPoseOnMap file) from.start from.goal x → LatticeStopsFor s u from x
end_stop s u from text file cells x read stands off = by_stop x off.refused
  where
    by_stop : (x : JobStop) → IsEndRefused off.end x → LatticeStopsFor s u from x
    by_stop stop.NoMemory refused = tt
    by_stop (stop.Refused (refusal.OffMap e) m) (is, plain) = record {
      text = text;
      read = read;
      off = (
        file,
        cells,
        stands,
        subst (λ (o : PathEnd). IsFirstOff (IsPoseOnMap file) from.start from.goal o) (sym is)
            off.off,
      );
    }
    by_stop (stop.Refused _ m) refused = absurd refused

-- a stop for primitives that are too wide is one, where an environment and these primitives were read before
pub wide_stop : (s u : DeskState) (from : Sources) (e : Environment) (cells : List ℕ) (ps : Primitives) (x : JobStop)
    → ReadsEnvironment s.held from e cells → ReadsPrimitives s.held from e ps → IsWideStop from.prims ps from.radius x
    → LatticeStopsFor s u from x
wide_stop s u from e cells ps stop.NoMemory says stand cause = tt
wide_stop s u from e cells ps (stop.Refused (refusal.TooWide place) m) says stand (wide, plain) =
    record { env = e; cells = cells; prims = ps; environment = says; primitives = stand; wide = wide }
wide_stop s u from e cells ps (stop.Refused _ m) says stand cause = absurd cause

-- a stop for primitives that are too dear is one, where this was read before
pub dear_stop : (s u : DeskState) (from : Sources) (place : ℕ) (x : JobStop) → IsDearStop from.prims place x
    → IsTooDearJob s.held from place → LatticeStopsFor s u from x
dear_stop s u from place stop.NoMemory dear so = tt
dear_stop s u from place (stop.Refused (refusal.TooDear i) m) (same, plain) so =
    subst (λ (k : ℕ). IsTooDearJob s.held from k) (sym same) so
dear_stop s u from place (stop.Refused _ m) dear so = absurd dear

-- a change file whose text was read and refused
pub changes_refused : {A : Type 0} (s t : DeskState) (changes : Option (List ℕ)) (name : List ℕ) (scope : Scope)
    (text : List ℕ) (r : Result A JobStop) → changes ≡ Some name → IsReadText (s.held name) text
    → IfErr r (IsChangesRefused scope name text) → IfErr r (ChangesStopFor s t changes scope)
changes_refused s t changes name scope text (Ok x) is read faulty = tt
changes_refused s t changes name scope text (Err stop.NoMemory) is read faulty = tt
changes_refused s t changes name scope text (Err (stop.Refused (refusal.Changes f) m)) is read (first, message) =
    subst (λ (o : Option (List ℕ)). AtName o (λ n. IsFaultyChanges s.held n scope f)) (sym is)
    (record { text = text; read = read; faulty = first })
changes_refused s t changes name scope text (Err (stop.Refused _ m)) is read faulty = absurd faulty

-- what a desk held later it held before
pub updates_since : (held later : Told) (changes : Option (List ℕ)) (s : Scope) (c : Updates) → Stays held later
    → ReadsUpdates later changes s c → ReadsUpdates held changes s c
updates_since held later None s c stays is = is
updates_since held later (Some name) s c stays (text, read, is) =
    (text, subst (λ (held_bytes : Option (List ℕ)). IsReadText held_bytes text) (stays name) read, is)

-- a stop for the change file, where a world was read before, is an early stop of the job
pub updates_stop : {W : Type 0} (s t u : DeskState) (f : WorldFiles W) (changes : Option (List ℕ)) (w : W) (e : JobStop)
    → f.stand_for s.held w → ReadsOnly s t → ChangesStopFor t u changes (f.scope w) e → EarlyStopsFor s u f changes e
updates_stop s t u f changes w stop.NoMemory says same cause = tt
updates_stop s t u f changes w (stop.Refused r m) says same cause = inr (by_refusal r cause)
  where
    by_refusal : (r : Refusal) → ChangesStopFor t u changes (f.scope w) (stop.Refused r m)
        → IsChangesCause s.held (ReadFailed s u) f changes r
    by_refusal (refusal.Changes x) cause = (
      w,
      says,
      at_name_on changes (λ name. IsFaultyChanges t.held name (f.scope w) x)
          (λ name. IsFaultyChanges s.held name (f.scope w) x) (λ name faulty. record {
            text = faulty.text;
            read = subst (λ (o : Option (List ℕ)). IsReadText o faulty.text) (same.held name) faulty.read;
            faulty = faulty.faulty;
          }) cause,
    )
    by_refusal (refusal.Read input.Changes) cause =
        (w, says, at_name_on changes (ReadFailed t u) (ReadFailed s u) (failed_since s t u same.reads) cause)
    by_refusal (refusal.Length input.Changes) cause = (
      w,
      says,
      at_name_on changes (λ name. IsTooLong (t.held name)) (λ name. IsTooLong (s.held name))
          (λ name long. subst (λ (o : Option (List ℕ)). IsTooLong o) (same.held name) long) cause,
    )
    by_refusal _ cause = absurd cause
