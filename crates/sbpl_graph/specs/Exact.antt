-- Labels that are exact on a graph.
use Rattle.std.specs.Prelude.{◌≡◌, ◌≢◌, ℕ, ◌+◌, ◌<◌, ◌≤◌, Option, Some, None}
use Rattle.sbpl_graph.specs.declared.TheConstants.{FAR}
use Rattle.sbpl_graph.specs.Network.{Network, IsFreeArc}

-- arc k of state s is free, leads to t from a finite v, and gives t its label
pub record GivesLabel (n : Network) (g v : ℕ → ℕ) (s k t c : ℕ) : Type 0 where
  pub free : IsFreeArc n s k t c
  pub near : v s < FAR
  pub sum : g t ≡ v s + c

-- each g but the start's is the least v + cost over the free arcs from states of finite v, and the back arc gives it
pub record AreExact (n : Network) (start : ℕ) (g v : ℕ → ℕ) (back : ℕ → Option (ℕ × ℕ)) : Type 0 where
  pub from_start : g start ≡ 0
  pub none_at_start : back start ≡ None
  pub least : (s k t c : ℕ) → IsFreeArc n s k t c → v s < FAR → g t ≤ v s + c
  pub gives : (t s k : ℕ) → t < n.states → t ≢ start → back t ≡ Some (s, k) → (c : ℕ) × GivesLabel n g v s k t c
  pub far_without_arc : (t : ℕ) → t < n.states → t ≢ start → back t ≡ None → g t ≡ FAR
  pub no_arc_where_far : (t : ℕ) → t < n.states → g t ≡ FAR → back t ≡ None
