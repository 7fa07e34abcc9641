-- What holds of every graph, and of every guide.
use Rattle.std.specs.Prelude.{◌≡◌, ℕ, ◌+◌, ◌^◌, ◌<◌, ◌≤◌, Some, IsSome}
use Rattle.sbpl_graph.specs.Network.{Network, IsArc, IsFreeArc}

-- the laws of a graph's states, arcs and costs
pub record IsSound (n : Network) : Type 0 where
  pub some_state : 1 ≤ n.states
  pub few_states : n.states ≤ 2 ^ 28
  pub few_arcs : (s : ℕ) → s < n.states → n.fan s ≤ 4096
  pub head_is_state : (s k t : ℕ) → s < n.states → k < n.fan s → n.head s k ≡ Some t → t < n.states
  pub cost_at_least_one : (s k c : ℕ) → s < n.states → k < n.fan s → n.cost s k ≡ Some c → 1 ≤ c
  pub cost_fits : (s k c : ℕ) → s < n.states → k < n.fan s → n.cost s k ≡ Some c → c < 2 ^ 32
  pub free_has_head : (s k c : ℕ) → s < n.states → k < n.fan s → n.cost s k ≡ Some c → IsSome (n.head s k)

-- tail j of state t is arc k of state s
pub record IsTail (n : Network) (t j s k : ℕ) : Type 0 where
  pub target : t < n.states
  pub number : j < n.tail_fan t
  pub tail : n.tail t j ≡ Some (s, k)

-- the tails of a state are exactly the arcs with that head, each once
pub record HasExactTails (n : Network) : Type 0 where
  pub few_tails : (t : ℕ) → t < n.states → n.tail_fan t ≤ 4096
  pub tails_are_arcs : (t j s k : ℕ) → IsTail n t j s k → IsArc n s k t
  pub arcs_are_tails : (t s k : ℕ) → IsArc n s k t → ∥ ((j : ℕ) × IsTail n t j s k) ∥₁
  pub tails_differ : (t i j s k : ℕ) → IsTail n t i s k → IsTail n t j s k → i ≡ j

-- the gaps are lower bounds on what it costs to go from one state to another
pub record HasGaps (n : Network) : Type 0 where
  pub small : (a b : ℕ) → a < n.states → b < n.states → n.gap a b < 2 ^ 55
  pub to_itself : (a : ℕ) → a < n.states → n.gap a a ≡ 0
  pub along : (s k t c b : ℕ) → IsFreeArc n s k t c → b < n.states → n.gap s b ≤ c + n.gap t b

-- the guide h is 0 at the goal, and never falls along a free arc by more than the arc costs
pub record IsConsistent (n : Network) (goal : ℕ) (h : ℕ → ℕ) : Type 0 where
  pub at_goal : h goal ≡ 0
  pub along : (s k t c : ℕ) → IsFreeArc n s k t c → h s ≤ c + h t
