-- Cells as strips.
use Rattle.std.proofs.Common.{◌≡◌, ℕ, zero, suc, ℤ, pos, ◌+◌, ◌<◌, ◌+ℤ◌, ◌⊎◌, inl, inr, List, [], ◌∷◌}
use Rattle.std.proofs.Common.{◌++◌, length, slice_get, Some, arith, sym, refl, ap, ◌∙◌, subst}
use Rattle.std.proofs.Common.{append_assoc, append-nil, length-append}
use Rattle.std.proofs.lemmas.Bool.{cases_lt}
use Rattle.std.proofs.lemmas.Grind.{common_steps}
use Rattle.std.proofs.lemmas.Option.{gets, none-some, same_Some}
use Rattle.sbpl_sweep.specs.declared.cell.Cell.{Cell}
use Rattle.sbpl_cost.specs.declared.strip.Strip.{Strip}
use Rattle.sbpl_cost.specs.Strips.{cells_in, cells_of_row, strip_cells}

abbrev cell_at : (y from : ℤ) → ℕ → Cell
cell_at y from i = record { y = y; x = from +ℤ pos i }

pub length_of_row : (y from : ℤ) (count : ℕ) → length (cells_of_row y from count) ≡ count
length_of_row y from zero = refl
length_of_row y from (suc count) =
    omega (arith, length-append (cells_of_row y from count) (cell_at y from count ∷ []), length_of_row y from count)

-- the cell at an index of a row
pub row_at : (y from : ℤ) (count i : ℕ) → i < count → slice_get (cells_of_row y from count) i ≡ Some (cell_at y from i)
row_at y from zero i h = absurd (omega arith)
row_at y from (suc count) i h = elim (cases_lt i count) [
  | inl less ↦
      let before = row_at y from count i less in grind (arith, common_steps, gets, before, length_of_row y from count)
  | inr more ↦
      let last : i ≡ count = omega arith in
      let long = length_of_row y from count in
      subst (λ (j : ℕ). slice_get (cells_of_row y from (suc count)) j ≡ Some (cell_at y from j)) (sym last)
      (grind (arith, common_steps, gets, long))
]

pub within_row : (y from : ℤ) (count i : ℕ) (c : Cell) → slice_get (cells_of_row y from count) i ≡ Some c
    → (i < count) × (cell_at y from i ≡ c)
within_row y from count i c h = elim (cases_lt i count) [
  | inl less ↦ (less, same_Some (cell_at y from i) c (sym (row_at y from count i less) ∙ h))
  | inr more ↦ let long = length_of_row y from count in absurd (grind (arith, common_steps, gets, long))
]

-- strips with one more at their end
pub strips_then : (strips : List Strip) (strip : Strip)
    → cells_in (strips ++ strip ∷ []) ≡ cells_in strips ++ strip_cells strip
strips_then [] strip = append-nil (strip_cells strip)
strips_then (first ∷ rest) strip =
    ap (λ (cells : List Cell). strip_cells first ++ cells) (strips_then rest strip)
    ∙ sym (append_assoc (strip_cells first) (cells_in rest) (strip_cells strip))

-- a cell of one of the strips is among the cells of all
pub among_strips : (strips : List Strip) (i j : ℕ) (strip : Strip) (c : Cell) → slice_get strips i ≡ Some strip
    → slice_get (strip_cells strip) j ≡ Some c
    → (k : ℕ) × (slice_get (cells_in strips) k ≡ Some c)
among_strips [] i j strip c at cell = absurd (none-some strip at)
among_strips (first ∷ rest) zero j strip c at cell =
    let there = subst (λ (s : Strip). slice_get (strip_cells s) j ≡ Some c) (sym (same_Some first strip at)) cell in
    (j, grind (arith, common_steps, gets, there))
among_strips (first ∷ rest) (suc i) j strip c at cell =
    let further = among_strips rest i j strip c at cell in
    (length (strip_cells first) + further.0, let there = further.1 in grind (arith, common_steps, gets, there))

-- an element of two lists one after the other is in the first or the second
pub in_either : (xs ys : List Cell) (k : ℕ) (c : Cell) → slice_get (xs ++ ys) k ≡ Some c
    → (slice_get xs k ≡ Some c) ⊎ ((j : ℕ) × (slice_get ys j ≡ Some c))
in_either [] ys k c h = inr (k, h)
in_either (x ∷ xs) ys zero c h = inl h
in_either (x ∷ xs) ys (suc k) c h = in_either xs ys k c h
