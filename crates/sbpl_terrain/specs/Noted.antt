-- Batches of writes, and what their cells cost on a map.
use Rattle.std.specs.Prelude.{◌≡◌, ℕ, pos, List, slice_get, Some, IsSome}
use Rattle.std.specs.declared.cmp.Ordering.{Ordering}
use Rattle.std.specs.Ordering.{nat_cmp, ordering_then}
use Rattle.std.specs.BTreeMap.{BTreeMap, get}
use Rattle.sbpl_map.specs.declared.write.Write.{Write}
use Rattle.sbpl_map.specs.CellMap.{CellMap, cost_at, IsOnMap}

-- each write is to a cell on the map
abbrev pub AreOnMap : CellMap → List Write → Type 0
AreOnMap m batch = (i : ℕ) (w : Write) → slice_get batch i ≡ Some w → IsOnMap m (pos w.x) (pos w.y)

-- cells in order: by column, and then by row
abbrev pub cell_cmp : ℕ × ℕ → ℕ × ℕ → Ordering
cell_cmp a b = ordering_then (nat_cmp a.0 b.0) (nat_cmp a.1 b.1)

-- each cost that is noted is that of its cell on the map
abbrev pub AreCosts : CellMap → BTreeMap (ℕ × ℕ) ℕ → Type 0
AreCosts m costs = (x y c : ℕ) → get cell_cmp costs (x, y) ≡ Some c → cost_at m (pos x) (pos y) ≡ Some c

-- a cost is noted for the cell
abbrev pub IsNoted : BTreeMap (ℕ × ℕ) ℕ → ℕ → ℕ → Type 0
IsNoted costs x y = IsSome (get cell_cmp costs (x, y))

-- no note is lost
abbrev pub KeepsNotes : BTreeMap (ℕ × ℕ) ℕ → BTreeMap (ℕ × ℕ) ℕ → Type 0
KeepsNotes old new = (x y : ℕ) → IsNoted old x y → IsNoted new x y

-- the cost on the map of each cell that is written to is noted
pub record AreNoted (m : CellMap) (batch : List Write) (costs : BTreeMap (ℕ × ℕ) ℕ) : Type 0 where
  pub sound : AreCosts m costs
  pub complete : (i : ℕ) (w : Write) → slice_get batch i ≡ Some w → IsNoted costs w.x w.y
