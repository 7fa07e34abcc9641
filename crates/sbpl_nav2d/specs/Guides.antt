-- Guides by octile distances.
use Rattle.std.specs.Prelude.{◌≡◌, ℕ, ◌*◌, ◌^◌, ◌<◌}
use Rattle.sbpl_terrain.specs.sbpl_graph.Network.{Network}
use Rattle.sbpl_terrain.specs.sbpl_graph.Laws.{IsConsistent}
use Rattle.sbpl_nav2d.specs.Gap.{gap_of}
use Rattle.sbpl_nav2d.specs.Grids.{network_of}
use Rattle.sbpl_nav2d.specs.World.{GridWorld}

-- the width of a grid, and the state to reach
pub record OctileTo : Type 0 where
  pub width : ℕ
  pub goal : ℕ

-- the octile distance from a state to the goal
abbrev pub distance_to : OctileTo → ℕ → ℕ
distance_to o s = gap_of o.width s o.goal

-- the distances guide to a goal of a graph: they are the graph's gaps to it, and consistent
pub record IsGuideTo (o : OctileTo) (n : Network) (goal : ℕ) : Type 0 where
  pub gaps : (s : ℕ) → distance_to o s ≡ n.gap s goal
  pub consistent : IsConsistent n goal (distance_to o)
  pub bounded : (s : ℕ) → s < n.states → distance_to o s < 2 ^ 55

-- at each state the guide says the gap to the goal
abbrev pub IsOctile : GridWorld → (goal : ℕ) → (guide : ℕ → ℕ) → Type 0
IsOctile w goal guide = (s : ℕ) → s < (network_of w).states → guide s ≡ (network_of w).gap s goal

-- octile distances to a goal of a world
pub record IsOctileFor (o : OctileTo) (w : GridWorld) (goal : ℕ) : Type 0 where
  pub goal_is : o.goal ≡ goal
  pub inside : goal < w.env.width * w.env.height
  pub width_is : o.width ≡ w.env.width
  pub guides : IsGuideTo o (network_of w) goal
