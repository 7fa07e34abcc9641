-- What an observer is told of the passes of a plan.
use Rattle.std.specs.Prelude.{◌≡◌, ℕ, ◌+◌, List, [], ◌∷◌}
use Rattle.sbpl_plan.specs.declared.found.Found.{Found}
use Rattle.sbpl_plan.specs.declared.found.Found.TheVariants as found
use Rattle.sbpl_plan.specs.declared.passes.PassRecord.{PassRecord}

module _ {O : Type 0} (told : O → (pass cost bound : ℕ) → O → Type 0) where
  -- an observer is told what a pass found, where it is a path, and else it stays as it is
  abbrev pub IsTold : (pass : ℕ) → Found → (old new : O) → Type 0
  IsTold pass (found.Path cost bound) old new = told old pass cost bound new
  IsTold pass _ old new = new ≡ old

  -- an observer is told what these passes found, in turn, the first of which has this number
  abbrev pub AreTold : {Action : Type 0} → (pass : ℕ) → List (PassRecord Action) → (old new : O) → Type 0
  AreTold pass [] old new = new ≡ old
  AreTold pass (p ∷ ps) old new = (mid : O) × IsTold pass p.found old mid × AreTold (pass + 1) ps mid new
