-- The states that a change of the map affects.
use Rattle.std.specs.Prelude.{◌≢◌, ℕ, ℤ, ◌<◌, ◌↔◌, List}
use Rattle.std.specs.List.{Contains}
use Rattle.sbpl_graph.specs.Network.{Network, IsFreeArc}
use Rattle.sbpl_map.specs.CellMap.{CellMap, cost_at}
use Rattle.sbpl_terrain.specs.Cells.{Cells}
use Rattle.sbpl_terrain.specs.Ends.{at_end}
use Rattle.sbpl_terrain.specs.Reading.{IsEndReading}
use Rattle.sbpl_terrain.specs.declared.arc_end.ArcEnd.{ArcEnd}

-- an arc with state t at this end reads a cell that has another cost on the new map
pub record IsAffected {W : Type 0} (network : W → Network) (cells : Cells W) (end : ArcEnd) (w : W) (new : CellMap) (t : ℕ) : Type 0 where
  pub x : ℤ
  pub y : ℤ
  pub changed : cost_at new x y ≢ cost_at (cells.map w) x y
  pub reads : IsEndReading network cells end w x y t

-- these are all states that the change from one map to the other affects
abbrev pub AreAffected : {W : Type 0} → (W → Network) → Cells W → ArcEnd → W → CellMap → List ℕ → Type 0
AreAffected network cells end w new touched = (t : ℕ) → Contains touched t ↔ IsAffected network cells end w new t

-- each arc with another state at this end is free on the one graph where it is on the other, and costs the same
abbrev pub KeepArcsElsewhere : ArcEnd → Network → Network → List ℕ → Type 0
KeepArcsElsewhere end n n' touched = (s k t c : ℕ) → (Contains touched (at_end end (s, t)) → ⊥) → IsFreeArc n s k t c ↔ IsFreeArc n' s k t c

-- they are states
abbrev pub AreStates : Network → List ℕ → Type 0
AreStates n touched = (t : ℕ) → Contains touched t → t < n.states
