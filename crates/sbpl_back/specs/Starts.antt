-- The guide of a search over the reversed graph.
use Rattle.std.specs.Prelude.{◌≡◌, ℕ, ◌^◌, ◌<◌}
use Rattle.std.proofs.Common.{subst}
use Rattle.sbpl_cost.specs.sbpl_graph.Laws.{IsConsistent}
use Rattle.sbpl_cost.specs.sbpl_graph.Network.{Network}
use Rattle.sbpl_cost.specs.Lattices.{network_of}
use Rattle.sbpl_cost.specs.Rates.{GapTable, state_gap}
use Rattle.sbpl_cost.specs.States.{state_count}
use Rattle.sbpl_cost.specs.World.{World}
use Rattle.sbpl_back.specs.Reversed.{reversed}

-- what gaps are computed from, and the state where a robot is
pub record StartIn : Type 0 where
  pub gaps : GapTable
  pub start : ℕ

-- the gap from there to each state
abbrev pub from_start : StartIn → ℕ → ℕ
from_start f s = state_gap f.gaps f.start s

-- at each state the guide says the gap from a state
abbrev pub IsGapFrom : Network → (start : ℕ) → (guide : ℕ → ℕ) → Type 0
IsGapFrom n start guide = (s : ℕ) → s < n.states → guide s ≡ n.gap start s

-- it guides to this goal in this graph
pub record IsGuideFrom (f : StartIn) (n : Network) (goal : ℕ) : Type 0 where
  pub states : n.states ≡ state_count f.gaps.env
  pub small : (s : ℕ) → s < n.states → from_start f s < 2 ^ 55
  pub consistent : IsConsistent n goal (from_start f)

-- it is made for the reversed lattice of a world, and for a state
pub record IsMadeFrom (f : StartIn) (w : World) (goal : ℕ) : Type 0 where
  pub start : f.start ≡ goal
  pub gaps : IsGapFrom (network_of w) goal (from_start f)
  pub guides : IsGuideFrom f (reversed (network_of w)) goal

pub guide_covers : (f : StartIn) (n : Network) (goal s : ℕ) → IsGuideFrom f n goal → s < n.states → s < state_count f.gaps.env
guide_covers f n goal s guide state = subst (λ (count : ℕ). s < count) guide.states state
