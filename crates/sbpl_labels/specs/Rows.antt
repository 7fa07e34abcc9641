-- Rows of labels that are kept by column.
use Rattle.std.specs.Prelude.{◌≡◌, ◌≢◌, ℕ, Option, List, [], ◌∷◌, length, slice_index_or}
use Rattle.sbpl_labels.specs.declared.row.Row.{Row}
use Rattle.sbpl_labels.specs.Marks.{no_row}

-- the rows that a column of g, one of v and one of back arcs make
abbrev pub rows_of : List ℕ → List ℕ → List (Option (ℕ × ℕ)) → List Row
rows_of (g ∷ gs) (v ∷ vs) (back ∷ backs) = record { g = g; v = v; back = back } ∷ rows_of gs vs backs
rows_of gs vs backs = []

-- row s becomes this one, and all others stay
pub record SetsRow (old new : List Row) (s : ℕ) (row : Row) : Type 0 where
  pub states : length new ≡ length old
  pub at : slice_index_or new s no_row ≡ row
  pub others : (u : ℕ) → u ≢ s → slice_index_or new u no_row ≡ slice_index_or old u no_row
