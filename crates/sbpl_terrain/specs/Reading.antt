-- Which arcs read a cell.
use Rattle.std.specs.Prelude.{◌≡◌, ℕ, ℤ, ◌<◌, ◌++◌, List, slice_get, Some}
use Rattle.sbpl_graph.specs.Network.{Network, IsArc}
use Rattle.sbpl_terrain.specs.Cells.{Cells}
use Rattle.sbpl_terrain.specs.Ends.{at_end}
use Rattle.sbpl_terrain.specs.declared.arc_end.ArcEnd.{ArcEnd}

-- some arc that reads cell (x, y) has state s at this end
pub record IsEndReading {W : Type 0} (network : W → Network) (cells : Cells W) (end : ArcEnd) (w : W) (x y : ℤ) (s : ℕ) : Type 0 where
  pub source : ℕ
  pub number : ℕ
  pub head : ℕ
  pub arc : IsArc (network w) source number head
  pub reads : cells.reads w source number x y
  pub at : s ≡ at_end end (source, head)

-- the states at this end of all arcs that read cell (x, y), and no other states, were appended to a list
pub record AddsEnds {W : Type 0} (network : W → Network) (cells : Cells W) (end : ArcEnd) (w : W) (x y : ℤ) (old new : List ℕ) : Type 0 where
  pub added : List ℕ
  pub kept : new ≡ old ++ added
  pub sound : (i s : ℕ) → slice_get added i ≡ Some s → IsEndReading network cells end w x y s
  pub complete : (s : ℕ) → IsEndReading network cells end w x y s → (i : ℕ) × (slice_get added i ≡ Some s)
  pub states : (i s : ℕ) → slice_get added i ≡ Some s → s < (network w).states
