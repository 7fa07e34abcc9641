-- The map as it then is, in plain words.
use Rattle.std.specs.Prelude.{◌≡◌, ◌==◌, ◌&&◌, if◌then◌else◌, ℕ, ℤ, pos, ◌+◌, ◌*◌, ◌<◌, List, [], ◌∷◌, Some, slice_get}
use Rattle.std.specs.List.{flat_map, last_or}
use Rattle.sbpl_headline.specs.Files.{ChangeLine, Cell, Start}

-- its size, the costs in the file row by row, and the lines of the batches so far
pub record Map : Type 0 where
  pub width : ℕ
  pub height : ℕ
  pub cells : List ℕ
  pub changed : List ChangeLine

abbrev pub cost_in : (x y : ℕ) → ChangeLine → List ℕ
cost_in x y (Cell u v cost) = if (u == x) && (v == y) then cost ∷ [] else []
cost_in x y (Start p) = []

-- cell (x, y) is on the map and has this cost: of the last line that gives it one, or that of the file where there is none
pub record Costs (m : Map) (x y : ℤ) (cost : ℕ) : Type 0 where
  pub u : ℕ
  pub v : ℕ
  pub on_map : (x ≡ pos u) × (u < m.width) × (y ≡ pos v) × (v < m.height)
  pub last : last_or (slice_get m.cells (v * m.width + u)) (flat_map (cost_in u v) m.changed) ≡ Some cost

-- cell (x, y) is on the map, and its cost is below a threshold
abbrev pub IsBelow : Map → (threshold : ℕ) → (x y : ℤ) → Type 0
IsBelow m threshold x y = (c : ℕ) × Costs m x y c × (c < threshold)
