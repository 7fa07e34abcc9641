-- The open states of a search and their keys, as a finite map.
use Rattle.std.specs.Prelude.{◌≡◌, ◌≢◌, ℕ, ◌<◌, Option, Some, None, List, length, slice_index_or}
use Rattle.sbpl_open.specs.KeyOrder.{ComesBefore}

-- the key of each state in order, or none where the state is not open
pub record OpenList : Type 0 where
  pub keys : List (Option (ℕ × ℕ))

-- how many states there are, and the key of a state
abbrev pub states_of : OpenList → ℕ
states_of f = length f.keys

abbrev pub key_at : OpenList → ℕ → Option (ℕ × ℕ)
key_at f s = slice_index_or f.keys s None

-- no state is open
pub record IsEmpty (f : OpenList) : Type 0 where
  pub none : (s : ℕ) → key_at f s ≡ None

-- the key of s becomes this one, or s leaves, and all others stay
pub record ChangesKey (old new : OpenList) (s : ℕ) (key : Option (ℕ × ℕ)) : Type 0 where
  pub states : states_of new ≡ states_of old
  pub at : key_at new s ≡ key
  pub others : (u : ℕ) → u ≢ s → key_at new u ≡ key_at old u

-- s is open with this key, and comes before every other open state
pub record IsLeast (f : OpenList) (s : ℕ) (key : ℕ × ℕ) : Type 0 where
  pub inside : s < states_of f
  pub there : key_at f s ≡ Some key
  pub first : (u : ℕ) (other : ℕ × ℕ) → key_at f u ≡ Some other → u ≢ s → ComesBefore key s other u
