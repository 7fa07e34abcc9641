-- What going from one cell to another costs at least, on every map.
use Rattle.std.specs.Prelude.{◌≡◌, ◌≤◌, ◌⊎◌, ℕ, ◌+◌, ◌*◌, min, max}
use Rattle.std.specs.Int.{abs_diff}
use Rattle.sbpl_nav2d.specs.Environment.{column_of, row_of}

-- what a way costs over cells of cost 0 that leads so far along one axis and so far along the other: as many diagonal
-- steps as there can be, of 1414 each, and straight steps of 1000 for the rest
abbrev pub octile : ℕ → ℕ → ℕ
octile p q = 1000 * max p q + 414 * min p q

-- the octile distance of two states
unfoldable pub gap_of : (width a b : ℕ) → ℕ
gap_of width a b =
    octile (abs_diff (column_of width a) (column_of width b)) (abs_diff (row_of width a) (row_of width b))

-- the octile distance by the greater and the lesser of the differences of the columns and of the rows
pub record IsPlainGap (width a b gap : ℕ) : Type 0 where
  pub columns : ℕ
  pub rows : ℕ
  pub apart_x : (column_of width a + columns ≡ column_of width b) ⊎ (column_of width b + columns ≡ column_of width a)
  pub apart_y : (row_of width a + rows ≡ row_of width b) ⊎ (row_of width b + rows ≡ row_of width a)
  pub wide : rows ≤ columns → gap ≡ 1000 * columns + 414 * rows
  pub high : columns ≤ rows → gap ≡ 1000 * rows + 414 * columns

abbrev pub GapsArePlain : Type 0
GapsArePlain = (width a b : ℕ) → IsPlainGap width a b (gap_of width a b)
