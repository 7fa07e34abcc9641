-- A grid in plain words.
use Rattle.std.proofs.Common.{◌≡◌, ℕ, ℤ, pos, negsuc, ◌+◌, ◌*◌, ◌<◌, ◌≤◌, ◌≤ℤ◌, ◌<ℤ◌, ◌⊎◌, inl, inr, Option, Some, None}
use Rattle.std.proofs.Common.{option_map, refl, ap, sym, subst, ◌∙◌, arith}
use Rattle.std.specs.Int.{abs_diff}
use Rattle.std.proofs.lemmas.Bool.{cases_lt}
use Rattle.std.proofs.lemmas.Int.{ints}
use Rattle.std.proofs.lemmas.Option.{none-some}
use Rattle.sbpl_terrain.specs.sbpl_map.CellMap.{IsOnMap}
use Rattle.sbpl_terrain.proofs.Cells.{stands_at}
use Rattle.sbpl_nav2d.specs.declared.cell.Cell.{Cell}
use Rattle.sbpl_nav2d.specs.Environment.{column_of, row_of}
use Rattle.sbpl_nav2d.specs.Directions.{direction, moved, moved_back}
use Rattle.sbpl_nav2d.specs.Gap.{octile, gap_of, GapsArePlain}
use Rattle.sbpl_nav2d.specs.World.{GridWorld}
use Rattle.sbpl_nav2d.specs.Arc.{cell_of, IsStateAt, IsGridArc, IsGridTail}
use Rattle.sbpl_nav2d.specs.Grids.{network_of, state_at, WorldsAreGrids}
use Rattle.sbpl_nav2d.proofs.Networks.{states_are, fan_is, head_is, tail_fan_is, tail_is, gap_is}
use Rattle.sbpl_nav2d.proofs.Places.{index_at}
use Rattle.sbpl_nav2d.proofs.Tails.{comes_by, tail_from}
use Rattle.sbpl_nav2d.proofs.Judged.{free_at, cost_where_free, cost_where_free_at}

-- an option that can't be Some is None
none_where_nothing : {A : Type 0} (o : Option A) → ((x : A) → o ≡ Some x → ⊥) → o ≡ None
none_where_nothing None h = refl
none_where_nothing (Some x) h = absurd (h x refl)

natural_part : (x : ℤ) → pos 0 ≤ℤ x → (a : ℕ) × (x ≡ pos a)
natural_part (pos a) h = (a, refl)
natural_part (negsuc a) h = absurd (omega (arith, ints, h))

natural_below : (x : ℤ) (a n : ℕ) → x ≡ pos a → x <ℤ pos n → a < n
natural_below x a n e h = omega (arith, ints)

-- ---- cells and states

module _ (w : GridWorld) (c : Cell) where
  state_is : (t : ℕ) → state_at w.map c ≡ Some t → IsStateAt w c t
  state_is t e =
      let at = stands_at w.map c.x c.y t e in
      record {
        column = at.column;
        row = at.row;
        x = at.x_is;
        y = at.y_is;
        right = at.right;
        high = at.high;
        number =
            at.index;
      }

  is_state : (t : ℕ) → IsStateAt w c t → state_at w.map c ≡ Some t
  is_state t at = index_at w.map c.x c.y at.column at.row at.x at.y at.right at.high ∙ ap Some (sym at.number)

  off_where_none : state_at w.map c ≡ None → IsOnMap w.map c.x c.y → ⊥
  off_where_none e on =
      let x = natural_part c.x on.left in
      let y = natural_part c.y on.low in
      none-some _ (sym e ∙ index_at w.map c.x c.y x.0 y.0 x.1 y.1 (natural_below c.x x.0 w.map.width x.1 on.right)
      (natural_below c.y y.0 w.map.height y.1 on.high))

  on_map_where_state : (t : ℕ) → state_at w.map c ≡ Some t → IsOnMap w.map c.x c.y
  on_map_where_state t e =
      let at = stands_at w.map c.x c.y t e in
      let x = at.x_is in
      let y = at.y_is in
      let right = at.right in
      let high = at.high in
      record {
        left = omega (arith, ints);
        right = omega (arith, ints);
        low = omega (arith, ints);
        high =
            omega (arith, ints);
      }

  none_where_off : (IsOnMap w.map c.x c.y → ⊥) → state_at w.map c ≡ None
  none_where_off off = none_where_nothing (state_at w.map c) (λ t e. off (on_map_where_state t e))

-- ---- arcs and tails

module _ (w : GridWorld) where
  grid_arc : (s k : ℕ) → IsGridArc (network_of w) w s k
  grid_arc s k =
      let to = moved (cell_of w s) (direction k) in
      record {
        head = λ t. (λ e. state_is w to t (sym (head_is w s k) ∙ e), λ at. head_is w s k ∙ is_state w to t at);
        no_head = (λ e. off_where_none w to (sym (head_is w s k) ∙ e), λ off. head_is w s k ∙ none_where_off w to off);
        cost = λ c. (free_at w s k c, cost_where_free_at w s k c);
        no_cost = (
          λ e free. let found = cost_where_free w s k free in none-some _ (sym e ∙ found.1),
          λ blocked. none_where_nothing ((network_of w).cost s k) (λ c e. blocked (free_at w s k c e).free),
        );
      }

  none_from : {A B : Type 0} (f : A → B) (o : Option A) → option_map f o ≡ None → o ≡ None
  none_from f None e = refl
  none_from f (Some x) e = absurd (none-some _ (sym e))

  grid_tail : (t j : ℕ) → IsGridTail (network_of w) w t j
  grid_tail t j =
      let from = moved_back (cell_of w t) (direction j) in
      record {
        tail = λ s k. (
          λ e. let by = comes_by w t j s k e in (state_is w from s by.source, by.number),
          λ at. subst (λ n. (network_of w).tail t j ≡ Some (s, n)) (sym at.1)
              (tail_from w t j s (is_state w from s at.0)),
        );
        no_tail = (
          λ e. off_where_none w from (none_from _ (state_at w.map from) (sym (tail_is w t j) ∙ e)),
          λ off. tail_is w t j ∙ ap (option_map (λ s. (s, j))) (none_where_off w from off),
        );
      }

pub worlds_are_grids : WorldsAreGrids
worlds_are_grids w is_world = record {
  states = states_are w ∙ ap (λ n. n * w.map.height) is_world.width ∙ ap (λ n. w.env.width * n) is_world.height;
  fan = fan_is w;
  arcs = λ s k inside few. grid_arc w s k;
  tail_fan = tail_fan_is w;
  tails = λ t j inside few. grid_tail w t j;
  gap = λ a b. gap_is w a b ∙ ap (λ n. gap_of n a b) is_world.width;
}

-- ---- gaps

apart_by : (a b : ℕ) → (a + abs_diff a b ≡ b) ⊎ (b + abs_diff a b ≡ a)
apart_by a b = elim (cases_lt a b) [ inl less ↦ inl (omega arith) | inr more ↦ inr (omega arith) ]

wide_octile : (p q : ℕ) → q ≤ p → octile p q ≡ 1000 * p + 414 * q
wide_octile p q h = omega arith

high_octile : (p q : ℕ) → p ≤ q → octile p q ≡ 1000 * q + 414 * p
high_octile p q h = omega arith

pub gaps_are_plain : GapsArePlain
unfolding gap_of
gaps_are_plain width a b =
    let p = abs_diff (column_of width a) (column_of width b) in
    let q = abs_diff (row_of width a) (row_of width b) in
    record {
      columns = p;
      rows = q;
      apart_x = apart_by (column_of width a) (column_of width b);
      apart_y = apart_by (row_of width a) (row_of width b);
      wide = wide_octile p q;
      high = high_octile p q;
    }
