-- The list of states while some are raised.
use Rattle.std.specs.Prelude.{◌≡◌, ◌≢◌, ℕ, ◌<◌, ◌⊎◌, List, ◌++◌}
use Rattle.std.specs.List.{All, AllPairs, Contains}
use Rattle.sbpl_ara.specs.sbpl_graph.declared.TheConstants.{FAR}
use Rattle.sbpl_ara.specs.sbpl_labels.Marks.{Marks, states_of, v_of}
use Rattle.sbpl_ara.specs.sbpl_serial.Run.{IsUnder}
use Rattle.sbpl_adstar.specs.Raised.{BecomeUnder}

-- the list has each underconsistent state, and otherwise only states whose v is infinite, each once
pub record AreListed (m : Marks) (list : List ℕ) : Type 0 where
  pub inside : (s : ℕ) → Contains list s → s < states_of m
  pub all : (s : ℕ) → s < states_of m → IsUnder m s → Contains list s
  pub only : (s : ℕ) → Contains list s → IsUnder m s ⊎ (v_of m s ≡ FAR)
  pub once : AllPairs (λ s t. s ≢ t) list

-- only underconsistent states were appended
pub record AddsUnder (m : Marks) (old new : List ℕ) : Type 0 where
  pub more : List ℕ
  pub added : new ≡ old ++ more
  pub under : All (IsUnder m) more

-- the states were appended that became underconsistent where s was raised
pub record AddsBecome (old new : Marks) (s : ℕ) (list longer : List ℕ) : Type 0 where
  pub more : List ℕ
  pub added : longer ≡ list ++ more
  pub become : BecomeUnder old new s more
