-- What taking a state does to a search.
use Rattle.std.specs.Prelude.{◌≡◌, ℕ, Bool, [], ◌∷◌, ◌++◌}
use Rattle.sbpl_search.specs.sbpl_graph.Network.{Network}
use Rattle.sbpl_serial.specs.declared.step.Step.{Step}
use Rattle.sbpl_serial.specs.Run.{IsExpansion}
use Rattle.sbpl_serial.specs.Serial.{SerialState}

-- the step of s, raised or not
abbrev pub step_of : ℕ → Bool → Step
step_of s raised = record { state = s; raised = raised }

-- the labels make this step, and the trace has it at its end
pub record IsTaken (n : Network) (old new : SerialState) (s : ℕ) (raised : Bool) : Type 0 where
  pub step : IsExpansion n old.labels (step_of s raised) new.labels
  pub traced : new.trace ≡ old.trace ++ step_of s raised ∷ []
