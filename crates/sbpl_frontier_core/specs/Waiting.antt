-- Where open states may be found.
use Rattle.std.specs.Prelude.{◌≡◌, ℕ, ◌<◌, ◌⊎◌, Bool, List, Some, IsSome}
use Rattle.std.specs.List.{Contains}
use Rattle.sbpl_frontier_rules.specs.sbpl_labels.Marks.{Marks, states_of}
use Rattle.sbpl_frontier_rules.specs.sbpl_open.OpenList.{OpenList}
use Rattle.sbpl_frontier_rules.specs.sbpl_open.OpenList as open_list
use Rattle.sbpl_frontier_rules.specs.sbpl_serial.Run.{IsOpen, IsOver, key_at, none_closed}

-- marks of the opened states, the queue, and the states that were expanded
pub record Waiting : Type 0 where
  pub marks : List Bool
  pub queue : OpenList
  pub expanded : List ℕ

-- a state is in the queue or was expanded
abbrev pub Waits : Waiting → ℕ → Type 0
Waits w s = IsSome (open_list.key_at w.queue s) ⊎ Contains w.expanded s

-- each overconsistent state is there
pub record HoldsOver (w : Waiting) (m : Marks) : Type 0 where
  pub states : open_list.states_of w.queue ≡ states_of m
  pub over : (s : ℕ) → s < states_of m → IsOver m s → Waits w s

-- the queue holds only open states, each with its key, and all overconsistent ones of these states
pub record AreFilled (eps : ℕ) (h : ℕ → ℕ) (m : Marks) (states : List ℕ) (f : OpenList) : Type 0 where
  pub size : open_list.states_of f ≡ states_of m
  pub right : (s : ℕ) (key : ℕ × ℕ) → open_list.key_at f s ≡ Some key → IsOpen none_closed m s × (key ≡ key_at eps h m s)
  pub there : (s : ℕ) → Contains states s → IsOver m s → open_list.key_at f s ≡ Some (key_at eps h m s)
