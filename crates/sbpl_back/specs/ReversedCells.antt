-- The cells that the arcs of a reversed graph read.
use Rattle.std.specs.Prelude.{◌≡◌, ℕ, ℤ, Some}
use Rattle.sbpl_cost.specs.sbpl_graph.Network.{Network}
use Rattle.sbpl_cost.specs.sbpl_terrain.Cells.{Cells}

-- an arc of the reversed graph reads what the arc reads that it is, turned round
abbrev pub reads_turned : {W : Type 0} → (W → Network) → Cells W → W → (t j : ℕ) → (x y : ℤ) → Type 0
reads_turned network cells w t j x y = (s : ℕ) × (k : ℕ) × ((network w).tail t j ≡ Some (s, k)) × cells.reads w s k x y

-- and the map is the same
abbrev pub reversed_cells : {W : Type 0} → (W → Network) → Cells W → Cells W
reversed_cells network cells = record cells { reads = reads_turned network cells }
