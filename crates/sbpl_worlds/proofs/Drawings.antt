-- What is drawn has no fault.
use Rattle.std.proofs.Common.{◌≡◌, Result, Ok, sym, subst, refl}
use Rattle.sbpl_promises.specs.sbpl_mprim.Primitives.{Primitives}
use Rattle.sbpl_promises.specs.sbpl_sweep.declared.fault.SweepFault.{SweepFault}
use Rattle.sbpl_promises.specs.sbpl_sweep.declared.fault.SweepFault.TheVariants as sweep
use Rattle.sbpl_promises.specs.sbpl_sweep.Widths.{IsCause, NoneTooWide}

abbrev pub read_as : {X E : Type 0} → X → Result X E
read_as x = Ok x

pub same_ok : {X E : Type 0} (x y : X) → read_as {E = E} y ≡ read_as x → x ≡ y
same_ok x y h = cc

pub only_memory : (ps qs : Primitives) (e : SweepFault) → NoneTooWide qs 0 → ps ≡ qs
    → IsCause ps 0 e → e ≡ sweep.NoMemory
only_memory ps qs (sweep.TooWide i) none same cause =
    absurd (subst (λ (rs : Primitives). NoneTooWide rs 0) (sym same) none i cause.here)
only_memory ps qs sweep.NoMemory none same cause = refl
