-- The ready arcs, which are those of one state from one number on.
use Rattle.std.specs.Prelude.{◌≡◌, ℕ, zero, suc, ◌+◌, ◌-◌, ◌<◌, List, [], ◌∷◌, ◌++◌}
use Rattle.sbpl_frontier_rules.specs.sbpl_graph.Network.{Network}
use Rattle.sbpl_frontier_rules.specs.Frontier.{with_head}

-- the arcs of s that have a head, over this many numbers from k on
abbrev pub arcs_within : Network → (s k count : ℕ) → List (ℕ × ℕ)
arcs_within n s k zero = []
arcs_within n s k (suc count) = with_head (n.head s k) (s, k) ++ arcs_within n s (k + 1) count

-- the arcs of s that have a head, from number k on
abbrev pub arcs_from : Network → (s k : ℕ) → List (ℕ × ℕ)
arcs_from n s k = arcs_within n s k (n.fan s - k)

-- arc k of s is the first from this number on that has a head
pub record IsFirstHead (n : Network) (s from k : ℕ) : Type 0 where
  pub number : k < n.fan s
  pub first : arcs_from n s from ≡ (s, k) ∷ arcs_from n s (k + 1)
