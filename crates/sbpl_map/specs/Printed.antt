-- The plain text of batches of changes: a line for each write, and one for the end of each batch.
use Rattle.std.specs.Prelude.{ℕ, ◌≤◌, List, [], ◌∷◌, ◌++◌, map, decimal}
use Rattle.std.specs.List.{flat_map, AllByRecursion}
use Rattle.sbpl_cfg.specs.sbpl_fixed.Printed.{lines_text}
use Rattle.sbpl_map.specs.CellMap.{CellMap}
use Rattle.sbpl_map.specs.ChangeText.{cell_line, replan_line, AreOnMap}
use Rattle.sbpl_map.specs.declared.write.Write.{Write}

-- the words of a write
abbrev pub write_line : Write → List (List ℕ)
write_line w = cell_line (decimal w.x) (decimal w.y) (decimal w.cost)

-- the writes of a batch, and its end
abbrev pub batch_lines : List Write → List (List (List ℕ))
batch_lines batch = map write_line batch ++ replan_line ∷ []

abbrev pub changes_text : List (List Write) → List ℕ
changes_text batches = lines_text (flat_map batch_lines batches)

-- the cells of the writes are on the map, whose sides are within the limit of states, and their costs are those that a
-- cell may have
pub record AreChangesOf (states : ℕ) (m : CellMap) (batches : List (List Write)) : Type 0 where
  pub width : m.width ≤ states
  pub height : m.height ≤ states
  pub on_map : AreOnMap m batches
  pub costs : AllByRecursion (λ batch. AllByRecursion (λ w. w.cost ≤ 255) batch) batches
