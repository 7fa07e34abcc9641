-- Arcs cost the same on two maps on which the cells that they read do.
use Rattle.std.proofs.Common.{◌≡◌, ℕ, ℤ, pos, negsuc, ◌+◌, ◌*◌, ◌+ℤ◌, ◌≢◌, ◌⊎◌, inl, inr, Bool, true, false, Option}
use Rattle.std.proofs.Common.{option_map, refl, sym, ap, ◌∙◌, subst, arith}
use Rattle.std.specs.Ordering.{int_eq}
use Rattle.std.proofs.Math.Path.{fun_ext}
use Rattle.std.proofs.lemmas.Bool.{cases_Bool}
use Rattle.std.proofs.lemmas.Bool.Decides.{Decides-int_eq}
use Rattle.std.proofs.lemmas.Int.{ints}
use Rattle.sbpl_terrain.specs.sbpl_map.CellMap.{CellMap, cost_at, index_in, ChangesCell}
use Rattle.sbpl_terrain.specs.Cells.{DifferInCostsAlone}
use Rattle.sbpl_nav2d.specs.Environment.{column_of, row_of}
use Rattle.sbpl_nav2d.specs.Directions.{direction, is_diagonal, by, moved, moved_back, step_cost}
use Rattle.sbpl_nav2d.specs.Gap.{gap_of}
use Rattle.sbpl_nav2d.specs.World.{GridWorld, over_map}
use Rattle.sbpl_nav2d.specs.Arc.{cell_of}
use Rattle.sbpl_nav2d.specs.Arc.IsReadAt.{at_source, at_end, beside_along_x, beside_along_y}
use Rattle.sbpl_nav2d.specs.Grids.{network_of, state_at, greatest_read}
use Rattle.sbpl_nav2d.specs.Reads.{ReadsCell}
use Rattle.sbpl_nav2d.specs.Reading.{UnreadCostTheSame}
use Rattle.sbpl_nav2d.proofs.Networks.{states_are, fan_is, head_is, cost_is, tail_fan_is, tail_is, gap_is}

nothing_more : (x : ℤ) → (x +ℤ pos 0) ≡ x
nothing_more x = omega (arith, ints)

-- ---- maps of one size

-- another map is one of the same size
pub record HasSize (w : GridWorld) (m : CellMap) : Type 0 where
  pub width : m.width ≡ w.map.width
  pub height : m.height ≡ w.map.height

pub same_cell_of : (w : GridWorld) (m : CellMap) (s : ℕ) → HasSize w m → cell_of (over_map w m) s ≡ cell_of w s
same_cell_of w m s size = ap (λ n. by (pos (column_of n s)) (pos (row_of n s))) size.width

same_index : (a b : CellMap) (x y : ℤ) → a.width ≡ b.width → a.height ≡ b.height → index_in a x y ≡ index_in b x y
same_index a b (pos x) (pos y) w h = rw (w, h) refl
same_index a b (pos x) (negsuc y) w h = refl
same_index a b (negsuc x) y w h = refl

module _ (w : GridWorld) (m : CellMap) (size : HasSize w m) where
  same_head : (s k : ℕ) → (network_of (over_map w m)).head s k ≡ (network_of w).head s k
  same_head s k =
      head_is (over_map w m) s k ∙ ap (λ c. state_at m (moved c (direction k))) (same_cell_of w m s size)
      ∙ same_index m w.map _ _ size.width size.height ∙ sym (head_is w s k)

  same_tail : (t j : ℕ) → (network_of (over_map w m)).tail t j ≡ (network_of w).tail t j
  same_tail t j =
      tail_is (over_map w m) t j
      ∙ ap (λ c. option_map (λ s. (s, j)) (state_at m (moved_back c (direction j)))) (same_cell_of w m t size)
      ∙ ap (option_map (λ s. (s, j))) (same_index m w.map _ _ size.width size.height) ∙ sym (tail_is w t j)

  same_gap : (a b : ℕ) → (network_of (over_map w m)).gap a b ≡ (network_of w).gap a b
  same_gap a b = gap_is (over_map w m) a b ∙ ap (λ n. gap_of n a b) size.width ∙ sym (gap_is w a b)

-- another map changes costs alone
pub maps_change_costs_alone : (w : GridWorld) (m : CellMap) → HasSize w m
    → DifferInCostsAlone (network_of (over_map w m)) (network_of w)
maps_change_costs_alone w m size = record {
  states = states_are (over_map w m) ∙ ap (λ n. n * m.height) size.width ∙ ap (λ n. w.map.width * n) size.height
      ∙ sym (states_are w);
  fan = fun_ext (λ s. fan_is (over_map w m) s ∙ sym (fan_is w s));
  head = fun_ext (λ s. fun_ext (λ k. same_head w m size s k));
  tail_fan = fun_ext (λ t. tail_fan_is (over_map w m) t ∙ sym (tail_fan_is w t));
  tail = fun_ext (λ t. fun_ext (λ j. same_tail w m size t j));
  gap = fun_ext (λ a. fun_ext (λ b. same_gap w m size a b));
}

-- ---- costs

same_greatest : (w : GridWorld) (m : CellMap) (s k limit : ℕ)
    → ((x y : ℤ) → ReadsCell w s k x y → cost_at m x y ≡ cost_at w.map x y)
    → greatest_read limit m (cell_of w s) k ≡ greatest_read limit w.map (cell_of w s) k
unfolding greatest_read
same_greatest w m s k limit same =
    let from = cell_of w s in
    let step = direction k in
    let here : cost_at m from.x from.y ≡ cost_at w.map from.x from.y =
    same from.x from.y (record {
      dx = pos 0;
      dy = pos 0;
      read = at_source refl refl;
      column =
          nothing_more from.x;
      row = nothing_more from.y;
    }) in
    let there : cost_at m (from.x +ℤ step.x) (from.y +ℤ step.y) ≡ cost_at w.map (from.x +ℤ step.x) (from.y +ℤ step.y) =
    same (from.x +ℤ step.x) (from.y +ℤ step.y)
    (record { dx = step.x; dy = step.y; read = at_end refl refl; column = refl; row = refl }) in
    elim (cases_Bool (is_diagonal k)) [
      | inl d ↦
          let along_x : cost_at m (from.x +ℤ step.x) from.y ≡ cost_at w.map (from.x +ℤ step.x) from.y =
          same (from.x +ℤ step.x) from.y
          (record {
            dx = step.x;
            dy = pos 0;
            read = beside_along_x d refl refl;
            column = refl;
            row =
                nothing_more from.y;
          }) in
          let along_y : cost_at m from.x (from.y +ℤ step.y) ≡ cost_at w.map from.x (from.y +ℤ step.y) =
          same from.x (from.y +ℤ step.y)
          (record {
            dx = pos 0;
            dy = step.y;
            read = beside_along_y d refl refl;
            column = nothing_more from.x;
            row =
                refl;
          }) in
          rw (d, here, there, along_x, along_y) refl
      | inr d ↦ rw (d, here, there) refl
    ]

-- where all cells that an arc reads cost the same on another map, so does the arc
pub unread_arcs_cost_the_same : (w : GridWorld) (m : CellMap) (s k : ℕ) → HasSize w m
    → ((x y : ℤ) → ReadsCell w s k x y → cost_at m x y ≡ cost_at w.map x y)
    → (network_of (over_map w m)).cost s k ≡ (network_of w).cost s k
unread_arcs_cost_the_same w m s k size same =
    let price : Option ℕ → Option ℕ = option_map (λ greatest. step_cost k * (greatest + 1)) in
    cost_is (over_map w m) s k ∙ ap (λ c. price (greatest_read w.env.obsthresh m c k)) (same_cell_of w m s size)
    ∙ ap price (same_greatest w m s k w.env.obsthresh same) ∙ sym (cost_is w s k)

-- where two cells are not the same, their columns or their rows are not
apart_by : (u x v y : ℤ) (b : Bool) → int_eq u x ≡ b → (u ≡ x → v ≡ y → ⊥) → (u ≢ x) ⊎ (v ≢ y)
apart_by u x v y true same h = inr (h ((Decides-int_eq u x).0 same))
apart_by u x v y false other h =
    inl (λ same. absurd (let no : false ≡ true = sym other ∙ (Decides-int_eq u x).1 same in cc))

-- one cell changes
pub unread_cost_the_same : (w : GridWorld) (m : CellMap) (x y : ℤ) (c : ℕ) → ChangesCell w.map m x y c
    → UnreadCostTheSame w (over_map w m) x y
unread_cost_the_same w m x y c changes s k unread =
    unread_arcs_cost_the_same w m s k (record { width = changes.width; height = changes.height }) (λ u v reads.
    changes.others u v (apart_by u x v y (int_eq u x) refl (λ column row.
    unread (subst (λ q. ReadsCell w s k x q) row (subst (λ q. ReadsCell w s k q v) column reads)))))
