-- The low of labels, over those states that are looked at.
use Rattle.std.specs.Prelude.{◌≡◌, ◌≢◌, ℕ, ◌+◌, ◌<◌, ◌≤◌, ◌⊎◌, true, IsSome, List}
use Rattle.sbpl_search.specs.sbpl_labels.Marks.{Marks, states_of, g_of, v_of}
use Rattle.sbpl_open.specs.OpenList.{OpenList}
use Rattle.sbpl_open.specs.OpenList as open_list
use Rattle.sbpl_serial.specs.declared.step.Step.{Step}
use Rattle.sbpl_serial.specs.Queue.{is_among}

-- low is at most g of the goal and g + h of each of these states whose g and v differ; a number for which this holds over all states is at most low
pub record IsLowOf (m : Marks) (goal : ℕ) (h : ℕ → ℕ) (among : ℕ → Type 0) (low : ℕ) : Type 0 where
  pub at_goal : low ≤ g_of m goal
  pub unsettled : (s : ℕ) → among s → v_of m s ≢ g_of m s → low ≤ g_of m s + h s
  pub greatest : (x : ℕ) → x ≤ g_of m goal → ((s : ℕ) → s < states_of m → v_of m s ≢ g_of m s → x ≤ g_of m s + h s) → x ≤ low

-- a state is in the queue
abbrev pub IsInQueue : OpenList → ℕ → Type 0
IsInQueue f s = IsSome (open_list.key_at f s)

-- a state is in the queue or among those of the steps
abbrev pub IsInEither : OpenList → List Step → ℕ → Type 0
IsInEither f steps s = IsInQueue f s ⊎ (is_among steps s ≡ true)
