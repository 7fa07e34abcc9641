-- How often a run takes a state.
use Rattle.std.specs.Prelude.{ℕ, ◌+◌, cond, nat_eq, List, [], ◌∷◌}
use Rattle.sbpl_serial.specs.declared.step.Step.{Step}

-- how many of the steps take this state
abbrev pub times : ℕ → List Step → ℕ
times s [] = 0
times s (step ∷ rest) = cond (nat_eq step.state s) 1 0 + times s rest
