-- The lattice keeps the laws of a graph.
use Rattle.std.proofs.Common.{◌≡◌, ℕ, ℤ, pos, negsuc, ◌+◌, ◌*◌, ◌^◌, ◌<◌, ◌≤◌, ◌==◌, ◌&&◌, List, slice_get, Option}
use Rattle.std.proofs.Common.{Some, None, option_and_then, IsSome, IsSomeAnd, nat_lt, refl, arith, ap, sym, subst, ◌∙◌}
use Rattle.std.proofs.Math.Nat.{mul-le-mul, le-mul_of_pos_right}
use Rattle.std.proofs.lemmas.Bool.{and_parts, ltb-true}
use Rattle.std.proofs.lemmas.List.Sums.{count_by-le-length}
use Rattle.std.proofs.lemmas.Nat.{mul-add-lt}
use Rattle.std.proofs.lemmas.Option.{get_or_from_slice_get, cond_some, none-some}
use Rattle.sbpl_terrain.specs.sbpl_graph.Laws.{IsSound, HasGaps}
use Rattle.sbpl_terrain.specs.sbpl_graph.Network.{IsFreeArc}
use Rattle.sbpl_sweep.specs.sbpl_cfg.declared.pose.Place.{Place}
use Rattle.sbpl_sweep.specs.sbpl_cfg.Environment.{Environment}
use Rattle.sbpl_terrain.specs.sbpl_map.CellMap.{CellMap, IsCellMap, IsOnMap, index_in, cost_at}
use Rattle.sbpl_cost.specs.PrimitiveCost.{primitive_cost}
use Rattle.sbpl_cost.specs.States.{IsPlace, place_of, state_number, state_count}
use Rattle.sbpl_cost.specs.World.{World, IsWorld}
use Rattle.sbpl_sweep.specs.sbpl_mprim.declared.prim.Primitive.{Primitive}
use Rattle.sbpl_cost.specs.Arc.{cost_from, IsFreeAt, IsLeaving, EndsIn}
use Rattle.sbpl_cost.specs.Gaps.{gap_of}
use Rattle.sbpl_cost.specs.Lattices.{network_of}
use Rattle.sbpl_cost.proofs.Numbered.{length-indices_from}
use Rattle.sbpl_cost.proofs.Heads.{on_map_at}
use Rattle.sbpl_cost.proofs.Arcs.{found, arc_of}
use Rattle.sbpl_cost.proofs.GapLaws.{gap_small, gap_to_itself, gap_along, gap_rises}
use Rattle.sbpl_cost.proofs.PlaceLaws.{place_of_state, place_of_state_number}

-- a place's state is one of the states
pub state_number_below : (e : Environment) (p : Place) → IsPlace e p → state_number e p < state_count e
state_number_below e p at =
    let cell = mul-add-lt p.y e.width p.x e.height at.y at.x in
    let state = mul-add-lt (p.y * e.width + p.x) e.headings p.t (e.width * e.height) cell at.t in
    omega (arith, state)

pub place_where_cost : (costs : List ℕ) (o : Option ℕ) (c : ℕ) → option_and_then (slice_get costs) o ≡ Some c
    → (place : ℕ) × (o ≡ Some place) × (slice_get costs place ≡ Some c)
place_where_cost costs None c h = absurd (none-some c h)
place_where_cost costs (Some place) c h = (place, refl, h)

-- a cell that has a cost is on the map, and its cost is at most 255
pub on_map_where_cost : (m : CellMap) (x y : ℤ) (c : ℕ) → IsCellMap m → cost_at m x y ≡ Some c
    → IsOnMap m x y × (c ≤ 255)
on_map_where_cost m (pos a) (pos b) c kept h =
    let place = place_where_cost m.costs (index_in m (pos a) (pos b)) c h in
    let inside = cond_some (nat_lt a m.width && nat_lt b m.height) (b * m.width + a) place.0 place.1 in
    let parts = and_parts (nat_lt a m.width) (nat_lt b m.height) inside.0 in
    let cost = get_or_from_slice_get m.costs place.0 c 0 place.2 in (
      on_map_at m (pos a) (pos b) a b refl refl (ltb-true a m.width parts.0) (ltb-true b m.height parts.1),
      omega (arith, kept.costs place.0, cost),
    )
on_map_where_cost m (pos a) (negsuc b) c kept h = absurd (none-some c h)
on_map_where_cost m (negsuc a) y c kept h = absurd (none-some c h)

-- an option that can't be None is Some
some_where_not_none : {A : Type 0} (o : Option A) → (o ≡ None → ⊥) → IsSome o
some_where_not_none None h = absurd (h refl)
some_where_not_none (Some x) h = refl

-- what a cost below a threshold says of the cell
pub has_cost : (o : Option ℕ) (n : ℕ) → IsSomeAnd o (λ c. c < n) → (c : ℕ) × (o ≡ Some c)
has_cost None n h = absurd h
has_cost (Some c) n h = (c, refl)

product_below : (a g : ℕ) → a ≤ 16777215 → g ≤ 255 → a * (g + 1) < 2 ^ 32
product_below a g ha hg =
    let hg' : g + 1 ≤ 256 = omega arith in
    let h : a * (g + 1) ≤ 16777215 * 256 = mul-le-mul ha hg' in
    omega arith

product_positive : (a g : ℕ) → 1 ≤ a → 1 ≤ a * (g + 1)
product_positive a g ha =
    let hg : 1 ≤ g + 1 = omega arith in
    let h : 1 * 1 ≤ a * (g + 1) = mul-le-mul ha hg in
    omega arith

count_positive : (a b c : ℕ) → 1 ≤ a → 1 ≤ b → 1 ≤ c → 1 ≤ a * b * c
count_positive a b c ha hb hc =
    let h : 1 * 1 ≤ a * b = mul-le-mul ha hb in
    let k : 1 * 1 * 1 ≤ a * b * c = mul-le-mul h hc in
    omega arith

module _ (w : World) (is_world : IsWorld w) where
  pub cost_in_range : (s : ℕ) (p : _) (c place : ℕ) → slice_get w.prims.items place ≡ Some p → IsFreeAt w s p c
      → (1 ≤ c) × (c < 2 ^ 32)
  cost_in_range s p c place stands at =
      let own = is_world.costs place p stands in
      let small = (on_map_where_cost w.map _ _ at.greatest is_world.map at.paid.cost).1 in
      let low = product_positive (primitive_cost w.env p) at.greatest own.0 in
      let high = product_below (primitive_cost w.env p) at.greatest own.1 small in
      (omega (arith, low, at.product), omega (arith, high, at.product))

  pub sound : IsSound (network_of w)
  unfolding network_of
  sound = record {
    some_state =
        count_positive w.env.width w.env.height w.env.headings is_world.env.width.0 is_world.env.height.0
        (omega (arith, is_world.headings, is_world.prims.headings.0));
    few_states = is_world.env.states;
    few_arcs = λ s _. omega (
      arith,
      length-indices_from (λ p. p.from == (place_of w.env s).t) 0 w.prims.items,
      count_by-le-length (λ p. p.from == (place_of w.env s).t) w.prims.items,
      is_world.prims.count,
    );
    head_is_state = λ s k t _ number h.
        let f = found w s k is_world number in
        let ends = (((arc_of w is_world s k f.0 f.1 f.2).head t).0 h) in
        let below = state_number_below w.env ends.place ends.on_map in
        omega (arith, below, ends.number);
    cost_at_least_one = λ s k c _ number h.
        let f = found w s k is_world number in
        (cost_in_range s f.1 c f.0 f.2.by.stands (((arc_of w is_world s k f.0 f.1 f.2).cost c).0 h)).0;
    cost_fits = λ s k c _ number h.
        let f = found w s k is_world number in
        (cost_in_range s f.1 c f.0 f.2.by.stands (((arc_of w is_world s k f.0 f.1 f.2).cost c).0 h)).1;
    free_has_head = λ s k c _ number h.
        let f = found w s k is_world number in
        let arc = arc_of w is_world s k f.0 f.1 f.2 in
        let free = (((arc.cost c).0 h).free).target in
        let cost = has_cost (cost_from w s f.1.dx f.1.dy) w.env.obsthresh free in
        some_where_not_none _ (λ none. arc.no_head.0 none (on_map_where_cost w.map _ _ cost.0 is_world.map cost.1).0);
  }

  -- a free arc costs its primitive's cost or more
  pub cost_of_free : (s c : ℕ) (p : Primitive) → IsFreeAt w s p c → primitive_cost w.env p ≤ c
  cost_of_free s c p at =
      let some : 1 ≤ at.greatest + 1 = omega arith in
      let whole : primitive_cost w.env p ≤ primitive_cost w.env p * (at.greatest + 1) =
      le-mul_of_pos_right (primitive_cost w.env p) some in
      omega (arith, whole, at.product)

  -- along the motion of an arc the gap falls by the primitive's cost at most
  gap_by_motion : (s k t b place : ℕ) (p : Primitive) → s < state_count w.env → b < state_count w.env
      → IsLeaving w.prims.items (place_of w.env s).t k place p → EndsIn w s p t
      → gap_of w.env w.prims.items (place_of w.env s) (place_of w.env b)
      ≤ primitive_cost w.env p + gap_of w.env w.prims.items (place_of w.env t) (place_of w.env b)
  gap_by_motion s k t b place p state goal by ends =
      let there : place_of w.env t ≡ ends.place =
      ap (place_of w.env) ends.number ∙ place_of_state_number w.env is_world.env ends.place ends.on_map in
      let at = place_of_state w.env is_world.env s state in
      let to = place_of_state w.env is_world.env b goal in
      let low =
      gap_along w.env w.prims.items (place_of w.env s) ends.place (place_of w.env b) place p by.stands at.t
      ends.on_map.t to.t by.heading ends.heading ends.column ends.row in
      subst (λ q. gap_of w.env w.prims.items (place_of w.env s) (place_of w.env b)
      ≤ primitive_cost w.env p + gap_of w.env w.prims.items q (place_of w.env b)) (sym there) low

  pub gaps : HasGaps (network_of w)
  unfolding network_of
  gaps = record {
    small = λ a b at to.
        gap_small w.env w.prims.items (place_of w.env a) (place_of w.env b)
        (λ i p stands. (is_world.costs i p stands).1) is_world.env.width.1 is_world.env.height.1
        (omega (arith, is_world.headings, is_world.prims.headings.1))
        (place_of_state w.env is_world.env a at) (place_of_state w.env is_world.env b to);
    to_itself = λ a _. gap_to_itself w.env w.prims.items (place_of w.env a);
    along = λ s k t c b arc goal.
        let f = found w s k is_world arc.number in
        let here = arc_of w is_world s k f.0 f.1 f.2 in
        let low = gap_by_motion s k t b f.0 f.1 arc.source goal f.2.by ((here.head t).0 arc.head) in
        let cost = cost_of_free s c f.1 ((here.cost c).0 arc.cost) in
        omega (arith, low, cost);
  }

  -- along the motion of an arc the gap from a state rises by the primitive's cost at most
  rise_by_motion : (s k t b place : ℕ) (p : Primitive) → s < state_count w.env → b < state_count w.env
      → IsLeaving w.prims.items (place_of w.env s).t k place p → EndsIn w s p t
      → gap_of w.env w.prims.items (place_of w.env b) (place_of w.env t)
      ≤ gap_of w.env w.prims.items (place_of w.env b) (place_of w.env s) + primitive_cost w.env p
  rise_by_motion s k t b place p state base by ends =
      let there : place_of w.env t ≡ ends.place =
      ap (place_of w.env) ends.number ∙ place_of_state_number w.env is_world.env ends.place ends.on_map in
      let at = place_of_state w.env is_world.env s state in
      let from = place_of_state w.env is_world.env b base in
      let low =
      gap_rises w.env w.prims.items (place_of w.env s) ends.place (place_of w.env b) place p by.stands at.t
      ends.on_map.t from.t by.heading ends.heading ends.column ends.row in
      subst (λ q. gap_of w.env w.prims.items (place_of w.env b) q
      ≤ gap_of w.env w.prims.items (place_of w.env b) (place_of w.env s) + primitive_cost w.env p) (sym there) low

  pub gaps_rise : (s k t c b : ℕ) → IsFreeArc (network_of w) s k t c → b < (network_of w).states
      → (network_of w).gap b t ≤ (network_of w).gap b s + c
  unfolding network_of
  gaps_rise s k t c b arc base =
      let f = found w s k is_world arc.number in
      let here = arc_of w is_world s k f.0 f.1 f.2 in
      let low = rise_by_motion s k t b f.0 f.1 arc.source base f.2.by ((here.head t).0 arc.head) in
      let cost = cost_of_free s c f.1 ((here.cost c).0 arc.cost) in
      omega (arith, low, cost)
