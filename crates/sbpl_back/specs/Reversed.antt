-- The reversed graph of a graph.
use Rattle.std.specs.Prelude.{◌≡◌, ℕ, ◌<◌, ◌&&◌, ◌==◌, Bool, false, List, [], ◌∷◌, ◌++◌, Option, Some, None, option_and_then}
use Rattle.std.specs.List.{find, range_with_len}
use Rattle.std.specs.Option.{option_map}
use Rattle.sbpl_cost.specs.sbpl_graph.Laws.{HasExactTails, HasGaps, IsSound, IsTail}
use Rattle.sbpl_cost.specs.sbpl_graph.Network.{Network, IsFreeArc}
use Rattle.sbpl_cost.specs.sbpl_graph.Path.{IsFreePath}

-- a tail is arc k of state s
abbrev pub is_arc : ℕ → ℕ → Option (ℕ × ℕ) → Bool
is_arc s k None = false
is_arc s k (Some tail) = (tail.0 == s) && (tail.1 == k)

-- the number that arc k of state s has among the tails of state t
unfoldable pub tail_number : Network → ℕ → ℕ → ℕ → Option ℕ
tail_number n s k t = find (λ j. is_arc s k (n.tail t j)) (range_with_len 0 (n.tail_fan t))

-- The reversed graph has the states of the graph. Arc j of t is tail j of t, with its source as the head and the same cost, and
-- tail k of s is arc k of s, turned round.
abbrev pub reversed : Network → Network
reversed n = record {
  states = n.states;
  fan = n.tail_fan;
  head = λ t j. option_map (λ (arc : ℕ × ℕ). arc.0) (n.tail t j);
  cost = λ t j. option_and_then (λ (arc : ℕ × ℕ). n.cost arc.0 arc.1) (n.tail t j);
  tail_fan = n.fan;
  tail = λ s k. option_and_then (λ t. option_map (λ (j : ℕ). (t, j)) (tail_number n s k t)) (n.head s k);
  gap = λ _ _. 0;
}

-- From state t the arcs of the reversed graph lead to s, and turned round they are these arcs of the graph from s to t: the first of
-- the one is the last of the other.
abbrev pub AreTurned : Network → (t : ℕ) → (turned : List ℕ) → (s : ℕ) → (arcs : List ℕ) → Type 0
AreTurned n t [] s arcs = (t ≡ s) × (arcs ≡ [])
AreTurned n t (j ∷ js) s arcs = (u : ℕ) × (k : ℕ) × (before : List ℕ) × (n.tail t j ≡ Some (u, k)) × AreTurned n u js s before × (arcs ≡ before ++ k ∷ [])

-- These arcs are a path of the reversed graph from t to s, turned round, and a free path of the graph from s to t that costs c.
pub record IsPathTurned (n : Network) (t : ℕ) (path : List ℕ) (s c : ℕ) (arcs : List ℕ) : Type 0 where
  pub turned : AreTurned n t path s arcs
  pub free : IsFreePath n s arcs t c

-- a free path of the reversed graph is one of the graph, turned round, at the same cost
abbrev pub PathsTurnRound : Type 0
PathsTurnRound = (n : Network) (t s c : ℕ) (turned : List ℕ) → HasExactTails n → t < n.states → IsFreePath (reversed n) t turned s c
    → (arcs : List ℕ) × AreTurned n t turned s arcs × IsFreePath n s arcs t c

-- and a free path of the graph is one of the reversed graph
abbrev pub PathsTurnBack : Type 0
PathsTurnBack = (n : Network) (s t c : ℕ) (arcs : List ℕ) → IsSound n → HasExactTails n → IsFreePath n s arcs t c
    → (turned : List ℕ) × AreTurned n t turned s arcs × IsFreePath (reversed n) t turned s c

-- arcs have one way to be turned round
abbrev pub PathsTurnOnce : Type 0
PathsTurnOnce = (n : Network) (t s : ℕ) (turned arcs others : List ℕ) → AreTurned n t turned s arcs → AreTurned n t turned s others → arcs ≡ others

-- a free arc of the reversed graph is one of the graph, turned round, at the same cost; and where a tail is a free arc of the graph, it
-- is one of the reversed graph
abbrev pub ArcsTurnRound : Type 0
ArcsTurnRound = (n : Network) (t j s c : ℕ) → HasExactTails n → IsFreeArc (reversed n) t j s c → (k : ℕ) × IsTail n t j s k × IsFreeArc n s k t c

abbrev pub ArcsTurnBack : Type 0
ArcsTurnBack = (n : Network) (t j s k c : ℕ) → HasExactTails n → IsTail n t j s k → IsFreeArc n s k t c → IsFreeArc (reversed n) t j s c

-- the reversed graph of one that keeps the laws of graphs keeps them
pub record KeepsLaws (n : Network) : Type 0 where
  pub sound : IsSound n
  pub tails : HasExactTails n
  pub gaps : HasGaps n

abbrev pub ReversedKeepsLaws : Type 0
ReversedKeepsLaws = (n : Network) → IsSound n → HasExactTails n → KeepsLaws (reversed n)
