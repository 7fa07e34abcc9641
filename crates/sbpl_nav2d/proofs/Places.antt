-- States and their cells.
use Rattle.std.proofs.Common.{◌≡◌, ℕ, ℤ, pos, ◌+◌, ◌*◌, ◌/◌, ◌%◌, ◌<◌, ◌≤◌, ◌+ℤ◌, ◌-ℤ◌, Some, refl, ap, sym, ◌∙◌, arith}
use Rattle.std.proofs.Math.Nat.{div-lt_iff_lt-mul, mul_comm}
use Rattle.std.proofs.lemmas.Bool.{and_from, lt-ltb, cond-true}
use Rattle.std.proofs.lemmas.Int.{ints}
use Rattle.std.proofs.lemmas.Nat.{div-mul-add, div-add-mod', mod-mul-add, mul-add-lt}
use Rattle.sbpl_terrain.specs.sbpl_map.CellMap.{CellMap, index_in}
use Rattle.sbpl_terrain.proofs.Cells.{stands_at}
use Rattle.sbpl_nav2d.specs.declared.cell.Cell.{Cell}
use Rattle.sbpl_nav2d.specs.Environment.{column_of, row_of}
use Rattle.sbpl_nav2d.specs.Directions.{moved, moved_back}
use Rattle.sbpl_nav2d.specs.World.{GridWorld, IsGridWorld}
use Rattle.sbpl_nav2d.specs.Arc.{cell_of}
use Rattle.sbpl_nav2d.specs.Grids.{state_at}

-- ---- columns and rows

pub column_below : (width s : ℕ) → 1 ≤ width → column_of width s < width
column_below width s some = omega arith

pub row_below : (width height s : ℕ) → 1 ≤ width → s < width * height → row_of width s < height
row_below width height s some inside =
    (div-lt_iff_lt-mul {k = width} {x = s} {y = height} some).1 (rw (mul_comm height width) inside)

pub state_again : (width s : ℕ) → row_of width s * width + column_of width s ≡ s
state_again width s = div-add-mod' s width

-- ---- cells

pub same_cell : (a b : Cell) → a.x ≡ b.x → a.y ≡ b.y → a ≡ b
same_cell a b x y = rw (x, y) refl

undone : (a d : ℤ) → ((a +ℤ d) -ℤ d) ≡ a
undone a d = omega (arith, ints)

redone : (a d : ℤ) → ((a -ℤ d) +ℤ d) ≡ a
redone a d = omega (arith, ints)

pub back_again : (a d : Cell) → moved_back (moved a d) d ≡ a
back_again a d = same_cell _ a (undone a.x d.x) (undone a.y d.y)

pub forth_again : (a d : Cell) → moved (moved_back a d) d ≡ a
forth_again a d = same_cell _ a (redone a.x d.x) (redone a.y d.y)

-- ---- states of cells

pub index_at : (m : CellMap) (x y : ℤ) (a b : ℕ) → x ≡ pos a → y ≡ pos b → a < m.width → b < m.height
    → index_in m x y ≡ Some (b * m.width + a)
index_at m x y a b at_x at_y right high =
    rw (at_x, at_y) (cond-true _ _ _ (and_from _ _ (lt-ltb a m.width right) (lt-ltb b m.height high)))

-- a cell of the map has this state
pub record IsCellOf (w : GridWorld) (c : Cell) (s : ℕ) : Type 0 where
  pub inside : s < w.map.width * w.map.height
  pub is : c ≡ cell_of w s

pub found : (w : GridWorld) (c : Cell) (s : ℕ) → state_at w.map c ≡ Some s → IsCellOf w c s
found w c s e =
    let at = stands_at w.map c.x c.y s e in
    let width = w.map.width in
    let inside = mul-add-lt at.row width at.column w.map.height at.high at.right in
    let column : column_of width s ≡ at.column =
    ap (λ n. n % width) at.index ∙ mod-mul-add at.row width at.column at.right in
    let row : row_of width s ≡ at.row = ap (λ n. n / width) at.index ∙ div-mul-add at.row width at.column at.right in
    record {
      inside = omega (arith, inside, at.index);
      is = same_cell c (cell_of w s) (at.x_is ∙ ap pos (sym column)) (at.y_is ∙ ap pos (sym row));
    }

module _ (w : GridWorld) (is_world : IsGridWorld w) where
  pub state_here : (s : ℕ) → s < w.map.width * w.map.height → state_at w.map (cell_of w s) ≡ Some s
  state_here s inside =
      let some = is_world.map.width.0 in
      index_at w.map _ _ (column_of w.map.width s) (row_of w.map.width s) refl refl (column_below w.map.width s some)
      (row_below w.map.width w.map.height s some inside)
      ∙ ap Some (state_again w.map.width s)

  pub state_found : (c : Cell) (s : ℕ) → IsCellOf w c s → state_at w.map c ≡ Some s
  state_found c s at = ap (state_at w.map) at.is ∙ state_here s at.inside
