-- Which arcs of a grid read a cell.
use Rattle.std.specs.Prelude.{◌≡◌, ◌≢◌, ℕ, ℤ, ◌≤◌, ◌⊎◌, List, [], ◌∷◌, length}
use Rattle.std.specs.List.{AllPairs}
use Rattle.sbpl_terrain.specs.sbpl_graph.Network.{Network, IsArc}
use Rattle.sbpl_terrain.specs.Ends.{at_end}
use Rattle.sbpl_terrain.specs.Reading.{AddsEnds}
use Rattle.sbpl_terrain.specs.declared.arc_end.ArcEnd.{ArcEnd}
use Rattle.sbpl_nav2d.specs.Cells.{grid_cells}
use Rattle.sbpl_nav2d.specs.Grids.{network_of}
use Rattle.sbpl_nav2d.specs.Reads.{ReadsCell}
use Rattle.sbpl_nav2d.specs.World.{GridWorld}

-- ---- ends of arcs

-- these states are, in turn, at this end of these arcs, which are given by their sources and their numbers
abbrev pub AreAtEnd : ArcEnd → Network → List (ℕ × ℕ) → List ℕ → Type 0
AreAtEnd end n [] [] = Unit {0}
AreAtEnd end n (a ∷ arcs) (t ∷ ts) = ((head : ℕ) × IsArc n a.0 a.1 head × (t ≡ at_end end (a.0, head))) × AreAtEnd end n arcs ts
AreAtEnd end n _ _ = ⊥

-- arc k of state s is one of these
abbrev pub IsAmong : ℕ → ℕ → List (ℕ × ℕ) → Type 0
IsAmong s k [] = ⊥
IsAmong s k (a ∷ arcs) = ((s ≡ a.0) × (k ≡ a.1)) ⊎ IsAmong s k arcs

-- The states at this end of all arcs that read cell (x, y), and no other states, were appended to a list: one for each of these
-- arcs, none of which is counted twice, and at most 24 in all.
pub record AddsFewEnds (end : ArcEnd) (w : GridWorld) (x y : ℤ) (old new : List ℕ) : Type 0 where
  pub adds : AddsEnds network_of grid_cells end w x y old new
  pub arcs : List (ℕ × ℕ)
  pub ends : AreAtEnd end (network_of w) arcs adds.added
  pub each : (s k t : ℕ) → IsArc (network_of w) s k t → ReadsCell w s k x y → IsAmong s k arcs
  pub apart : AllPairs (λ (a b : ℕ × ℕ). a ≢ b) arcs
  pub few : length adds.added ≤ 24

-- ---- costs

-- each arc that does not read cell (x, y) costs the same in two worlds
abbrev pub UnreadCostTheSame : GridWorld → GridWorld → ℤ → ℤ → Type 0
UnreadCostTheSame old new x y =
    (s k : ℕ) → (ReadsCell old s k x y → ⊥) → (network_of new).cost s k ≡ (network_of old).cost s k
