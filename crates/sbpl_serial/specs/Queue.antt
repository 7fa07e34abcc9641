-- The queue of a pass, which holds the open states with their keys.
use Rattle.std.specs.Prelude.{◌≡◌, ◌≢◌, ℕ, ◌<◌, Bool, true, false, ◌||◌, nat_eq, Option, Some, None, List, [], ◌∷◌, ◌++◌, IsSome}
use Rattle.std.specs.List.{All}
use Rattle.sbpl_open.specs.OpenList.{OpenList}
use Rattle.sbpl_open.specs.OpenList as open_list
use Rattle.sbpl_open.specs.KeyOrder.{IsBelow}
use Rattle.sbpl_search.specs.sbpl_labels.Marks.{Marks, states_of}
use Rattle.sbpl_serial.specs.declared.step.Step.{Step}
use Rattle.sbpl_serial.specs.Run.{IsOpen, key_at, none_closed}

-- a state is in the queue with its present key, or is not in it and not open
abbrev pub IsQueued : (eps : ℕ) (h : ℕ → ℕ) (closed : ℕ → Bool) (m : Marks) (s : ℕ) → Option (ℕ × ℕ) → Type 0
IsQueued eps h closed m s None = IsOpen closed m s → ⊥
IsQueued eps h closed m s (Some key) = IsOpen closed m s × (key ≡ key_at eps h m s)

-- the queue holds just the open states, each with its present key
pub record AreQueued (eps : ℕ) (h : ℕ → ℕ) (closed : ℕ → Bool) (m : Marks) (f : OpenList) : Type 0 where
  pub states : open_list.states_of f ≡ states_of m
  pub each : (s : ℕ) → IsQueued eps h closed m s (open_list.key_at f s)

-- the same for all states but t
pub record AreQueuedBut (eps : ℕ) (h : ℕ → ℕ) (closed : ℕ → Bool) (m : Marks) (f : OpenList) (t : ℕ) : Type 0 where
  pub inside : t < states_of m
  pub states : open_list.states_of f ≡ states_of m
  pub others : (s : ℕ) → s ≢ t → IsQueued eps h closed m s (open_list.key_at f s)

-- the queue before the state whose labels have changed is placed, if one has
abbrev pub IsUnplaced : (eps : ℕ) (h : ℕ → ℕ) (closed : ℕ → Bool) (m : Marks) (f : OpenList) → Option ℕ → Type 0
IsUnplaced eps h closed m f None = AreQueued eps h closed m f
IsUnplaced eps h closed m f (Some t) = AreQueuedBut eps h closed m f t

-- whether a state is among those of the steps
abbrev pub is_among : List Step → ℕ → Bool
is_among [] s = false
is_among (step ∷ rest) s = nat_eq step.state s || is_among rest s

-- after the old steps, which stay as they are, only steps of open states are added, none of them raised
pub record AddsOpen (f : OpenList) (old new : List Step) : Type 0 where
  pub more : List Step
  pub added : new ≡ old ++ more
  pub are_open : All (λ step. IsSome (open_list.key_at f step.state)) more
  pub none_raised : All (λ step. step.raised ≡ false) more

-- with no state closed, the queue holds those open states that are among those of the steps
pub record AreRefilled (eps : ℕ) (h : ℕ → ℕ) (steps : List Step) (m : Marks) (f : OpenList) : Type 0 where
  pub states : open_list.states_of f ≡ states_of m
  pub among : (s : ℕ) → is_among steps s ≡ true → IsQueued eps h none_closed m s (open_list.key_at f s)
  pub absent : (s : ℕ) → is_among steps s ≡ false → open_list.key_at f s ≡ None

-- the least state of the queue where its key is below the goal's, or none where no key is
abbrev pub IsFirstBelow : OpenList → (goal : ℕ × ℕ) → Option ℕ → Type 0
IsFirstBelow f goal None = (s : ℕ) (key : ℕ × ℕ) → open_list.key_at f s ≡ Some key → IsBelow key goal → ⊥
IsFirstBelow f goal (Some s) = (key : ℕ × ℕ) × open_list.IsLeast f s key × IsBelow key goal
