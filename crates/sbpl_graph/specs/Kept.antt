-- Labels while some arcs are pending: their source was opened, and their effect on the head's label is still to come.
use Rattle.std.specs.Prelude.{◌≡◌, ◌≢◌, ℕ, ◌+◌, ◌<◌, ◌≤◌, ◌&&◌, Option, Some, None, Bool, false, nat_eq, nat_le}
use Rattle.sbpl_graph.specs.declared.TheConstants.{FAR}
use Rattle.sbpl_graph.specs.Network.{Network, IsFreeArc}

-- arc k of state s is free, leads to t from a finite v, and the label of t is no less than the way over it
pub record SupportsLabel (n : Network) (g v : ℕ → ℕ) (s k t c : ℕ) : Type 0 where
  pub free : IsFreeArc n s k t c
  pub near : v s < FAR
  pub sum : v s + c ≤ g t

-- over each free arc that is not pending g of the head is at most v + cost, and each finite label has a back arc that supports it
pub record AreKept (n : Network) (start : ℕ) (g v : ℕ → ℕ) (back : ℕ → Option (ℕ × ℕ)) (pending : ℕ → ℕ → Bool) : Type 0 where
  pub from_start : g start ≡ 0
  pub none_at_start : back start ≡ None
  pub used : (s k t c : ℕ) → pending s k ≡ false → IsFreeArc n s k t c → v s < FAR → g t ≤ v s + c
  pub supports : (t s k : ℕ) → t < n.states → t ≢ start → back t ≡ Some (s, k) → (c : ℕ) × SupportsLabel n g v s k t c
  pub far_without_arc : (t : ℕ) → t < n.states → t ≢ start → back t ≡ None → g t ≡ FAR
  pub no_arc_where_far : (t : ℕ) → t < n.states → g t ≡ FAR → back t ≡ None

-- no state is underconsistent
pub record NoneUnder (states : ℕ) (g v : ℕ → ℕ) : Type 0 where
  pub at : (s : ℕ) → s < states → g s ≤ v s

-- no arc is pending
abbrev pub none_pending : ℕ → ℕ → Bool
none_pending _ _ = false

-- the arcs of s from number k on are pending
abbrev pub pending_from : ℕ → ℕ → ℕ → ℕ → Bool
pending_from s k a j = nat_eq a s && nat_le k j

-- v of s becomes its g, and nothing else changes
pub record SettlesState (g v : ℕ → ℕ) (back : ℕ → Option (ℕ × ℕ)) (g' v' : ℕ → ℕ) (back' : ℕ → Option (ℕ × ℕ)) (s : ℕ) : Type 0 where
  pub settled : v' s ≡ g s
  pub other_v : (u : ℕ) → u ≢ s → v' u ≡ v u
  pub same_g : (u : ℕ) → g' u ≡ g u
  pub same_back : (u : ℕ) → back' u ≡ back u

-- g of t becomes this value and its back arc (s, k), and nothing else changes
pub record LowersState (g v : ℕ → ℕ) (back : ℕ → Option (ℕ × ℕ)) (g' v' : ℕ → ℕ) (back' : ℕ → Option (ℕ × ℕ)) (t s k value : ℕ) : Type 0 where
  pub lowered : g' t ≡ value
  pub by : back' t ≡ Some (s, k)
  pub other_g : (u : ℕ) → u ≢ t → g' u ≡ g u
  pub other_back : (u : ℕ) → u ≢ t → back' u ≡ back u
  pub same_v : (u : ℕ) → v' u ≡ v u
