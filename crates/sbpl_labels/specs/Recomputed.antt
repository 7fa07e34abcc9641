-- What recomputing a state gives it.
use Rattle.std.specs.Prelude.{◌≡◌, ◌≢◌, ℕ, ◌+◌, ◌<◌, ◌≤◌, Option, Some, None}
use Rattle.sbpl_graph.specs.declared.TheConstants.{FAR}
use Rattle.sbpl_graph.specs.Network.{Network, IsFreeArc}
use Rattle.sbpl_graph.specs.Laws.{IsTail}
use Rattle.sbpl_labels.specs.Marks.{Marks, states_of, g_of, v_of, back_of, row_at}

-- tail j of t is arc k of s, which is free, costs c and comes from a finite v
pub record IsWay (n : Network) (v : ℕ → ℕ) (t j s k c : ℕ) : Type 0 where
  pub tail : IsTail n t j s k
  pub free : IsFreeArc n s k t c
  pub near : v s < FAR

-- way j gives t the label g; no way gives less, and none before it gives as little
pub record IsFirstWay (n : Network) (v : ℕ → ℕ) (t g j s k c : ℕ) : Type 0 where
  pub way : IsWay n v t j s k c
  pub gives : g ≡ v s + c
  pub least : (i a l d : ℕ) → IsWay n v t i a l d → g ≤ v a + d
  pub first : (i a l d : ℕ) → i < j → IsWay n v t i a l d → g < v a + d

-- g is the least over all ways to t and back is the first tail that gives it, or g is infinite where there is no way
abbrev pub IsRecomputed : Network → (ℕ → ℕ) → ℕ → ℕ → Option (ℕ × ℕ) → Type 0
IsRecomputed n v t g None = (g ≡ FAR) × ((j s k c : ℕ) → IsWay n v t j s k c → ⊥)
IsRecomputed n v t g (Some (s, k)) = (j : ℕ) × (c : ℕ) × IsFirstWay n v t g j s k c

-- t, which is not the start, is recomputed, and all else stays
pub record Recomputes (n : Network) (old new : Marks) (t : ℕ) : Type 0 where
  pub same_start : new.start ≡ old.start
  pub same_states : states_of new ≡ states_of old
  pub recomputed : IsRecomputed n (v_of old) t (g_of new t) (back_of new t)
  pub same_v : v_of new t ≡ v_of old t
  pub others : (u : ℕ) → u ≢ t → row_at new u ≡ row_at old u
