-- States at an end of the arcs that read cells whose costs are not those that were noted.
use Rattle.std.specs.Prelude.{◌≡◌, ◌≢◌, ℕ, pos, ◌<◌, ◌⊎◌, List, Some}
use Rattle.std.specs.List.{Contains}
use Rattle.std.specs.BTreeMap.{BTreeMap, get}
use Rattle.sbpl_map.specs.CellMap.{cost_at}
use Rattle.sbpl_graph.specs.Network.{Network}
use Rattle.sbpl_terrain.specs.Cells.{Cells}
use Rattle.sbpl_terrain.specs.Reading.{IsEndReading}
use Rattle.sbpl_terrain.specs.declared.arc_end.ArcEnd.{ArcEnd}
use Rattle.sbpl_terrain.specs.Noted.{cell_cmp}

-- cell (x, y) costs something other than c, and some arc with state t at this end reads it
pub record IsChangedEnd {W : Type 0} (network : W → Network) (cells : Cells W) (end : ArcEnd) (w : W) (x y c t : ℕ) : Type 0 where
  pub changed : cost_at (cells.map w) (pos x) (pos y) ≢ Some c
  pub reads : IsEndReading network cells end w (pos x) (pos y) t

-- where cell (x, y) costs something other than c, the states at this end of the arcs that read it were added, and nothing else
pub record AddsEndsOf {W : Type 0} (network : W → Network) (cells : Cells W) (end : ArcEnd) (w : W) (x y c : ℕ) (old new : List ℕ) : Type 0 where
  pub kept : (t : ℕ) → Contains old t → Contains new t
  pub sound : (t : ℕ) → Contains new t → Contains old t ⊎ IsChangedEnd network cells end w x y c t
  pub complete : (t : ℕ) → IsChangedEnd network cells end w x y c t → Contains new t
  pub states : (t : ℕ) → Contains new t → Contains old t ⊎ (t < (network w).states)

-- a cell costs something other than what is noted, and some arc with state t at this end reads it
pub record IsEndOf {W : Type 0} (network : W → Network) (cells : Cells W) (end : ArcEnd) (w : W) (costs : BTreeMap (ℕ × ℕ) ℕ) (t : ℕ) : Type 0 where
  pub x : ℕ
  pub y : ℕ
  pub cost : ℕ
  pub noted : get cell_cmp costs (x, y) ≡ Some cost
  pub at : IsChangedEnd network cells end w x y cost t

-- these are the states at this end of all arcs that read cells that cost something other than what is noted
pub record AreEndsOf {W : Type 0} (network : W → Network) (cells : Cells W) (end : ArcEnd) (w : W) (costs : BTreeMap (ℕ × ℕ) ℕ) (ends : List ℕ) : Type 0 where
  pub sound : (t : ℕ) → Contains ends t → IsEndOf network cells end w costs t
  pub complete : (t : ℕ) → IsEndOf network cells end w costs t → Contains ends t
  pub states : (t : ℕ) → Contains ends t → t < (network w).states
