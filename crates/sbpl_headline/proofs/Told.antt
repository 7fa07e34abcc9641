-- How what a run promises is told in the headline's words.
use Rattle.std.proofs.Common.{inl, inr}
use Rattle.std.specs.Prelude.{ℕ, List, map, take}
use Rattle.std.specs.List.{flat_map}
use Rattle.sbpl_promises.specs.sbpl_map.CellMap.{CellMap}
use Rattle.sbpl_promises.specs.sbpl_map.ChangeText.{Given}
use Rattle.sbpl_promises.specs.sbpl_nav2d.Environment.{column_of, row_of}
use Rattle.sbpl_headline.specs.Files.{ChangeLine, Cell, Start}
use Rattle.sbpl_headline.specs.Grid.{Square}
use Rattle.sbpl_headline.specs.Map.{Map}

-- a line of a batch
abbrev pub line_of : Given → ChangeLine
line_of (inl w) = Cell w.x w.y w.cost
line_of (inr p) = Start p

-- the lines of batches
abbrev pub lines_of : List (List Given) → List (List ChangeLine)
lines_of told = map (λ batch. map line_of batch) told

-- the map of a file, with the lines of the first k batches
abbrev pub map_with : CellMap → List (List Given) → ℕ → Map
map_with m told k = record {
  width = m.width;
  height = m.height;
  cells = m.costs;
  changed = flat_map (λ b. b) (take k (lines_of told));
}

-- the cell of a state of a grid
abbrev pub square_of : (width : ℕ) → ℕ → Square
square_of width s = record { x = column_of width s; y = row_of width s }
