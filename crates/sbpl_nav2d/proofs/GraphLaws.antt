-- A grid keeps the laws of a graph.
use Rattle.std.proofs.Common.{◌≡◌, ℕ, pos, ◌+◌, ◌*◌, ◌^◌, ◌<◌, ◌≤◌, ◌+ℤ◌, inl, inr, List, Option, Some, None}
use Rattle.std.proofs.Common.{option_and_then, IsSome, IsSomeAnd, slice_get, refl, ap, sym, subst, ◌∙◌, arith}
use Rattle.std.specs.Int.{abs_diff}
use Rattle.std.proofs.Math.Nat.{mul-le-mul}
use Rattle.std.proofs.lemmas.Bool.{cases_Bool}
use Rattle.std.proofs.lemmas.Option.{none-some}
use Rattle.sbpl_terrain.specs.sbpl_graph.Network.{IsFreeArc}
use Rattle.sbpl_terrain.specs.sbpl_graph.Laws.{IsSound, HasGaps}
use Rattle.sbpl_nav2d.specs.declared.cell.Cell.{Cell}
use Rattle.sbpl_nav2d.specs.Environment.{column_of, row_of}
use Rattle.sbpl_nav2d.specs.Directions.{direction, is_diagonal, step_cost, moved}
use Rattle.sbpl_nav2d.specs.Gap.{gap_of}
use Rattle.sbpl_nav2d.specs.World.{GridWorld, IsGridWorld}
use Rattle.sbpl_nav2d.specs.Arc.{cell_of}
use Rattle.sbpl_nav2d.specs.Arc.IsReadAt.{at_end}
use Rattle.sbpl_nav2d.specs.Grids.{network_of, state_at}
use Rattle.sbpl_nav2d.proofs.Networks.{states_are, fan_is, head_is, gap_is}
use Rattle.sbpl_nav2d.proofs.Places.{column_below, row_below, found}
use Rattle.sbpl_nav2d.proofs.Steps.{is_direction}
use Rattle.sbpl_nav2d.proofs.Gaps.{apart_small, octile_small, octile_none, step_along, straight_along}
use Rattle.sbpl_nav2d.proofs.Judged.{free_at}

-- ---- costs

step_between : (k : ℕ) → (1000 ≤ step_cost k) × (step_cost k ≤ 1414)
step_between k = elim (cases_Bool (is_diagonal k)) [
  | inl d ↦ rw d (omega arith, omega arith)
  | inr d ↦ rw d (omega arith, omega arith)
]

below_by : (o : Option ℕ) (n limit : ℕ) → IsSomeAnd o (λ c. c < limit) → o ≡ Some n → n < limit
below_by o n limit h e = subst (λ q. IsSomeAnd q (λ c. c < limit)) e h

-- a cost is at least the step's own
pub above_step : (w : GridWorld) (s k c : ℕ) → (network_of w).cost s k ≡ Some c → step_cost k ≤ c
above_step w s k c e =
    let at = free_at w s k c e in
    let same : step_cost k ≤ step_cost k = omega arith in
    let some : 1 ≤ at.greatest + 1 = omega arith in
    let above : step_cost k * 1 ≤ step_cost k * (at.greatest + 1) = mul-le-mul same some in
    omega (arith, above, at.product)

-- and small
small_cost : (w : GridWorld) → IsGridWorld w → (s k c : ℕ) → (network_of w).cost s k ≡ Some c → c ≤ 361984
small_cost w is_world s k c e =
    let at = free_at w s k c e in
    let low = below_by _ at.greatest w.env.obsthresh (at.free at.read.dx at.read.dy at.read.read) at.read.cost in
    let most : at.greatest + 1 ≤ 256 = omega (arith, low, is_world.env.obsthresh) in
    let base = step_between k in
    let small : step_cost k * (at.greatest + 1) ≤ 1414 * 256 = mul-le-mul base.1 most in
    omega (arith, small, at.product)

has_index : (costs : List ℕ) (o : Option ℕ) (c : ℕ) → option_and_then (slice_get costs) o ≡ Some c → IsSome o
has_index costs None c e = absurd (none-some c e)
has_index costs (Some p) c e = refl

has_cost : (o : Option ℕ) (n : ℕ) → IsSomeAnd o (λ c. c < n) → (c : ℕ) × (o ≡ Some c)
has_cost None n h = absurd h
has_cost (Some c) n h = (c, refl)

-- a free arc has a head
pub headed : (w : GridWorld) (s k c : ℕ) → (network_of w).cost s k ≡ Some c → IsSome ((network_of w).head s k)
headed w s k c e =
    let at = free_at w s k c e in
    let step = direction k in
    let cost = has_cost _ w.env.obsthresh (at.free step.x step.y (at_end refl refl)) in
    rw head_is (has_index w.map.costs (state_at w.map (moved (cell_of w s) step)) cost.0 cost.1)

-- ---- the laws

module _ (w : GridWorld) (is_world : IsGridWorld w) where
  pub sound : IsSound (network_of w)
  sound =
      let wide = is_world.map.width.0 in
      let high = is_world.map.height.0 in
      let some : 1 * 1 ≤ w.map.width * w.map.height = mul-le-mul wide high in
      record {
        some_state = rw states_are (omega (arith, some));
        few_states = rw states_are is_world.map.few_cells;
        few_arcs = λ s inside. rw fan_is (omega arith);
        head_is_state = λ s k t inside number e. rw states_are (found w _ t (sym (head_is w s k) ∙ e)).inside;
        cost_at_least_one = λ s k c inside number e. let above = above_step w s k c e in let base = step_between k in
            omega (arith, above, base.0);
        cost_fits = λ s k c inside number e. let small = small_cost w is_world s k c e in omega (arith, small);
        free_has_head = λ s k c inside number e. headed w s k c e;
      }

  -- columns and rows are small
  gap_small : (a b : ℕ) → a < w.map.width * w.map.height → b < w.map.width * w.map.height
      → gap_of w.map.width a b < 2 ^ 55
  unfolding gap_of
  gap_small a b h k =
      let width = w.map.width in
      let height = w.map.height in
      let wide = is_world.map.width in
      let high = is_world.map.height in
      let column_a = column_below width a wide.0 in
      let column_b = column_below width b wide.0 in
      let row_a = row_below width height a wide.0 h in
      let row_b = row_below width height b wide.0 k in
      octile_small (abs_diff (column_of width a) (column_of width b)) (abs_diff (row_of width a) (row_of width b))
      (apart_small (column_of width a) (column_of width b) (omega arith) (omega arith))
      (apart_small (row_of width a) (row_of width b) (omega arith) (omega arith))

  gap_none : (a : ℕ) → gap_of w.map.width a a ≡ 0
  unfolding gap_of
  gap_none a = octile_none (column_of w.map.width a) (row_of w.map.width a)

  gap_along : (s k t c b : ℕ) → IsFreeArc (network_of w) s k t c → gap_of w.map.width s b ≤ c + gap_of w.map.width t b
  unfolding gap_of
  gap_along s k t c b arc =
      let width = w.map.width in
      let at = found w _ t (sym (head_is w s k) ∙ arc.head) in
      let step = direction k in
      let few : k < 8 = rw fan_is at arc.number in
      let is = is_direction k few in
      let x : (pos (column_of width s) +ℤ step.x) ≡ pos (column_of width t) = ap (λ (q : Cell). q.x) at.is in
      let y : (pos (row_of width s) +ℤ step.y) ≡ pos (row_of width t) = ap (λ (q : Cell). q.y) at.is in
      let above = above_step w s k c arc.cost in
      elim (cases_Bool (is_diagonal k)) [
        | inl d ↦ let cost : 1414 ≤ c = rw d at above in
            step_along (column_of width s) (column_of width t) (column_of width b) (row_of width s) (row_of width t)
            (row_of width b) c step x y is.step cost
        | inr d ↦ let cost : 1000 ≤ c = rw d at above in
            straight_along (column_of width s) (column_of width t) (column_of width b) (row_of width s)
            (row_of width t) (row_of width b) c step x y is.step cost (is.straight d)
      ]

  pub gaps : HasGaps (network_of w)
  gaps = record {
    small = λ a b h k. rw gap_is (gap_small a b (rw states_are at h) (rw states_are at k));
    to_itself = λ a h. gap_is w a a ∙ gap_none a;
    along = λ s k t c b arc h. rw (gap_is w s b, gap_is w t b) (gap_along s k t c b arc);
  }
