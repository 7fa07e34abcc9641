-- The cells that a graph reads.
use Rattle.std.specs.Prelude.{◌≡◌, ℕ, ℤ, ◌↔◌}
use Rattle.sbpl_graph.specs.Network.{Network}
use Rattle.sbpl_map.specs.CellMap.{CellMap, cost_at}

-- Of a graph over a map:
-- map: the present costs of the cells
-- over: the same graph over another map
-- reads: the judgement of arc k of state s reads cell (x, y)
-- is_made: its parts belong together
pub record Cells (W : Type 0) : Type 1 where
  pub map : W → CellMap
  pub over : W → CellMap → W
  pub reads : W → (s k : ℕ) → (x y : ℤ) → Type 0
  pub is_made : W → Type 0

-- two graphs differ in what their arcs cost, and in nothing else
pub record DifferInCostsAlone (n m : Network) : Type 0 where
  pub states : n.states ≡ m.states
  pub fan : n.fan ≡ m.fan
  pub head : n.head ≡ m.head
  pub tail_fan : n.tail_fan ≡ m.tail_fan
  pub tail : n.tail ≡ m.tail
  pub gap : n.gap ≡ m.gap

-- all cells that an arc reads cost on another map what they cost at present
abbrev pub ReadTheSame : {W : Type 0} → Cells W → W → CellMap → (s k : ℕ) → Type 0
ReadTheSame cells w m s k = (x y : ℤ) → cells.reads w s k x y → cost_at m x y ≡ cost_at (cells.map w) x y

-- One more map of the size: another map changes costs alone, and not which cells an arc reads; and where all cells that an arc reads
-- cost the same on it, so does the arc.
pub record IsTerrain {W : Type 0} (network : W → Network) (cells : Cells W) : Type 0 where
  pub map : (w : W) (m : CellMap) → cells.map (cells.over w m) ≡ m
  pub present : (w : W) → cells.over w (cells.map w) ≡ w
  pub again : (w : W) (l m : CellMap) → cells.over (cells.over w l) m ≡ cells.over w m
  pub rest : (w : W) (m : CellMap) → cells.is_made w → cells.is_made (cells.over w m) → DifferInCostsAlone (network (cells.over w m)) (network w)
  pub reads : (w : W) (m : CellMap) (s k : ℕ) (x y : ℤ) → cells.is_made w → cells.is_made (cells.over w m) → cells.reads (cells.over w m) s k x y ↔ cells.reads w s k x y
  pub costs : (w : W) (m : CellMap) (s k : ℕ) → cells.is_made w → cells.is_made (cells.over w m) → ReadTheSame cells w m s k
      → (network (cells.over w m)).cost s k ≡ (network w).cost s k
