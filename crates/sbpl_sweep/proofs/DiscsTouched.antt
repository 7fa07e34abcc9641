-- The cells that a disc around a pose sweeps.
use Rattle.std.proofs.Common.{◌≡◌, ℕ, ℤ, pos, ◌+◌, ◌*◌, ◌<◌, ◌≤◌, ◌+ℤ◌, ◌*ℤ◌, inl, inr, List, [], ◌∷◌, ◌++◌, refl, ap}
use Rattle.std.proofs.Common.{sym, ◌∙◌, arith, subst, Bool, true, false}
use Rattle.std.proofs.lemmas.Bool.{cases_lt}
use Rattle.std.proofs.lemmas.Int.{ints}
use Rattle.sbpl_mprim.specs.sbpl_cfg.declared.pose.Pose.{Pose}
use Rattle.sbpl_mprim.specs.sbpl_cfg.Place.{cell_of}
use Rattle.sbpl_mprim.specs.Primitives.{offset_cell}
use Rattle.sbpl_sweep.specs.declared.band.Band.{Band}
use Rattle.sbpl_sweep.specs.declared.disc.Disc.{Disc}
use Rattle.sbpl_sweep.specs.declared.reach.Axis.{Axis}
use Rattle.sbpl_sweep.specs.Sweep.{distance_to_cell}
use Rattle.sbpl_sweep.specs.Widths.{most_cells}
use Rattle.sbpl_sweep.specs.Reach.{IsReach, IsAxis}
use Rattle.sbpl_sweep.specs.Bands.{IsIn, IsCovered, IsNear, IsDisc, row_beside, gap_beside}
use Rattle.sbpl_sweep.specs.Bands.{AddsRows, AddsDisc, HasWideRow}
use Rattle.sbpl_sweep.proofs.Distances.{beside, distance_own}
use Rattle.sbpl_sweep.proofs.RowsTouched.{IsRow, near_by, in_row, near_in_row, covered_kept}
use Rattle.sbpl_sweep.proofs.RowsTouched.{covered_last, covered_from, row_distance}

-- on each axis of a disc its own cell is the one in which the offset lies
pub own_cell : (cell offset : ℤ) (side : ℕ) (a : Axis) → pos side ≡ pos 2 *ℤ cell
    → IsAxis side (cell +ℤ (pos 2 *ℤ offset)) a → offset_cell cell offset ≡ a.own
own_cell cell offset side a side_is axis = ap (λ z. cell_of z (cell +ℤ (pos 2 *ℤ offset))) (sym side_is) ∙ sym axis.own

-- a disc's own row
pub own_row : (cell : ℤ) (radius : ℕ) (p : Pose) (d : Disc) (b : Band) (left right : ℕ) → IsDisc cell radius p d
    → b.y ≡ d.row.own → b.first +ℤ pos left ≡ d.column.own → b.last ≡ d.column.own +ℤ pos right
    → IsReach d.column.before d.side (d.radius * d.radius) left
    → IsReach d.column.after d.side (d.radius * d.radius) right
    → IsRow cell radius p d b (d.radius * d.radius) left right 0
own_row cell radius p d b left right disc at first last before after = record {
  disc = disc;
  before = before;
  after = after;
  distance = ap (λ z. distance_to_cell cell p.y z) at ∙ distance_own cell p.y d.side d.row disc.side_is disc.row;
  rest = omega arith;
  first = first;
  last = last;
}

module _ (cell : ℤ) (radius : ℕ) (p : Pose) (d : Disc) (disc : IsDisc cell radius p d) where
  -- a row that a disc touches is one of those that it reaches
  row_reached : (upward : Bool) (rows n : ℕ) (x : ℤ)
      → IsReach (gap_beside upward d.row) d.side (d.radius * d.radius) rows
      → IsNear cell radius p x (row_beside upward d.row.own n) → n < rows
  row_reached upward rows n x reach near = elim (cases_lt n rows) [
    | inl less_n ↦ less_n
    | inr more_n ↦
        let away = row_distance cell radius p d disc upward n in
        let at =
        near_by (distance_to_cell cell p.x x) (gap_beside upward d.row + d.side * n) d.radius
        (distance_to_cell cell p.x x) (distance_to_cell cell p.y (row_beside upward d.row.own n)) (2 * radius) refl
        (sym away) disc.twice near in
        let far = reach.beyond n more_n in
        absurd (below_both (distance_to_cell cell p.x x) (gap_beside upward d.row + d.side * n) d.radius at far)
  ] where
    below_both : (a b r : ℕ) → a * a + b * b < r * r → r * r ≤ b * b → ⊥
    below_both a b r h far = omega arith

  -- the cells of the disc's own row, of the rows above it and of those below it
  pub disc_added : (b : Band) (left right above below : ℕ) (old first second new : List Band)
      → IsRow cell radius p d b (d.radius * d.radius) left right 0 → b.y ≡ d.row.own → first ≡ old ++ b ∷ []
      → IsReach d.row.after d.side (d.radius * d.radius) above → IsReach d.row.before d.side (d.radius * d.radius) below
      → AddsRows cell radius p true d.row.own above first second
      → AddsRows cell radius p false d.row.own below second new → AddsDisc cell radius p old new
  disc_added b left right above below old first second new row at added reach_above reach_below up down =
      let column = own_cell cell p.x d.side d.column disc.side_is disc.column in
      let own = own_cell cell p.y d.side d.row disc.side_is disc.row in
      let later : (x y : ℤ) → IsCovered first x y → IsCovered new x y = λ x y c. down.kept x y (up.kept x y c) in
      record {
        kept = λ x y c. later x y (covered_kept old first b x y added c);
        each = λ x y c. elim (down.each x y c) [
          | inr near ↦ inr (inr near)
          | inl c2 ↦ elim (up.each x y c2) [
            | inr near ↦ inr (inr near)
            | inl c1 ↦ elim (covered_from old first b x y added c1) [
              | inl before ↦ inl before
              | inr inside ↦ elim (in_row cell radius p d b (d.radius * d.radius) left right 0 row x y inside) [
                | inl same ↦ inr (inl (column ∙ sym same, own ∙ sym at ∙ inside.row))
                | inr near ↦ inr (inr (subst (λ z. IsNear cell radius p x z) inside.row near))
              ]
            ]
          ]
        ];
        own = λ x y is.
            let same_x : x ≡ d.column.own = sym is.0 ∙ column in
            let same_y : b.y ≡ y = at ∙ sym own ∙ is.1 in
            later x y (covered_last old first b x y added (record {
              row = same_y;
              from = omega (arith, ints, row.first, same_x);
              to = omega (arith, ints, row.last, same_x);
            }));
        near = λ x y near. elim (beside y d.row.own) [
          | inl same ↦
              let here : y ≡ b.y = same ∙ sym at in
              let inside =
              near_in_row cell radius p d b (d.radius * d.radius) left right 0 row x
              (subst (λ z. IsNear cell radius p x z) here near) in
              subst (λ z. IsCovered new x z) (sym here) (later x b.y (covered_last old first b x b.y added inside))
          | inr (inl (n, is)) ↦
              let there = subst (λ z. IsNear cell radius p x z) is near in
              let reached = row_reached true above n x reach_above there in
              subst (λ z. IsCovered new x z) (sym is)
              (down.kept x (row_beside true d.row.own n) (up.all x n reached there))
          | inr (inr (n, is)) ↦
              let there = subst (λ z. IsNear cell radius p x z) is near in
              let reached = row_reached false below n x reach_below there in
              subst (λ z. IsCovered new x z) (sym is) (down.all x n reached there)
        ];
      }

  -- a row that is too wide
  pub wide_row : (b : Band) (left right : ℕ) → IsRow cell radius p d b (d.radius * d.radius) left right 0
      → b.y ≡ d.row.own → most_cells ≤ left + right → HasWideRow cell radius p
  wide_row b left right row at wide =
      let column = own_cell cell p.x d.side d.column disc.side_is disc.column in
      let own = own_cell cell p.y d.side d.row disc.side_is disc.row in
      record {
        row = b.y;
        first = b.first;
        all = λ n h.
            let inside : IsIn b (b.first +ℤ pos n) b.y =
            record { row = refl; from = omega (arith, ints); to = omega (arith, ints, row.first, row.last, h, wide) } in
            elim (in_row cell radius p d b (d.radius * d.radius) left right 0 row (b.first +ℤ pos n) b.y inside) [
              | inl same ↦ inl (column ∙ sym same, own ∙ sym at)
              | inr near ↦ inr near
            ];
      }
