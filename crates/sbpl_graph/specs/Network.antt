-- A graph as plain functions, and its free arcs.
use Rattle.std.specs.Prelude.{◌≡◌, ℕ, ◌<◌, Option, Some}

-- states and arcs are numbers; a tail of a state is an incoming arc, as its source and its number there
pub record Network : Type 0 where
  pub states : ℕ
  pub fan : ℕ → ℕ
  pub head : ℕ → ℕ → Option ℕ
  pub cost : ℕ → ℕ → Option ℕ
  pub tail_fan : ℕ → ℕ
  pub tail : ℕ → ℕ → Option (ℕ × ℕ)
  pub gap : ℕ → ℕ → ℕ

-- arc k of state s leads to t, free or not
pub record IsArc (n : Network) (s k t : ℕ) : Type 0 where
  pub source : s < n.states
  pub number : k < n.fan s
  pub head : n.head s k ≡ Some t

-- arc k of state s is free, leads to t and costs c
pub record IsFreeArc (n : Network) (s k t c : ℕ) : Type 0 where
  pub source : s < n.states
  pub number : k < n.fan s
  pub head : n.head s k ≡ Some t
  pub cost : n.cost s k ≡ Some c

-- t has the same free arcs into it on both graphs, at the same costs
pub record HasSameArcs (n n' : Network) (t : ℕ) : Type 0 where
  pub kept : (s k c : ℕ) → IsFreeArc n s k t c → IsFreeArc n' s k t c
  pub none_new : (s k c : ℕ) → IsFreeArc n' s k t c → IsFreeArc n s k t c
