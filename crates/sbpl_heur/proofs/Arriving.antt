-- The heuristic is consistent.
use Rattle.std.proofs.Common.{◌≡◌, ℕ, ℤ, pos, negsuc, ◌+◌, ◌*◌, ◌/◌, ◌%◌, ◌<◌, ◌≤◌, ◌+ℤ◌, ◌&&◌, inl, inr, ◌⊎◌}
use Rattle.std.proofs.Common.{max, List, [], ◌∷◌, slice_get, Option, Some, None, IsSomeAnd, nat_lt, refl, ap, sym}
use Rattle.std.proofs.Common.{◌∙◌, arith, subst}
use Rattle.std.proofs.Math.Nat.{mul-le-mul}
use Rattle.std.proofs.lemmas.Bool.{cases_eq}
use Rattle.std.proofs.lemmas.Int.{ints}
use Rattle.std.proofs.lemmas.Nat.{div-add-mod', div-mul-add, mod-mul-add}
use Rattle.std.proofs.lemmas.Option.{slice_get_within, same_Some, cond_some, option_and_then_some}
use Rattle.sbpl_serial.specs.sbpl_graph.Network.{IsFreeArc}
use Rattle.sbpl_serial.specs.sbpl_graph.Laws.{IsConsistent, HasGaps}
use Rattle.sbpl_cost.specs.sbpl_mprim.declared.prim.Primitive.{Primitive}
use Rattle.sbpl_cost.specs.sbpl_map.CellMap.{CellMap, index_in, cost_at}
use Rattle.sbpl_cost.specs.PrimitiveCost.{primitive_cost}
use Rattle.sbpl_cost.specs.States.{place_of, state_count}
use Rattle.sbpl_cost.specs.World.{World, IsWorld}
use Rattle.sbpl_cost.specs.Arc.{column_from, cost_from, EndsIn, IsFreeAt, HasLatticeArcs}
use Rattle.sbpl_cost.specs.Lattices.{network_of}
use Rattle.sbpl_heur.specs.Walks.{IsLeastCost, Moves, LiesFrom, IsCellArc, IsCellWeight, IsCellBound}
use Rattle.sbpl_heur.specs.declared.hop.Hop.{Hop}
use Rattle.sbpl_heur.specs.Hops.{AreHops}
use Rattle.sbpl_heur.specs.Bests.{cell_of, IsBest}

-- a number is zero or not
zero_or_not : (x : ℤ) → (x ≡ pos 0) ⊎ (x ≡ pos 0 → ⊥)
zero_or_not (pos n) = elim (cases_eq n 0) [
  | inl same ↦ inl (ap pos same)
  | inr other ↦ inr (λ e. absurd (other (omega (arith, ints, e))))
]
zero_or_not (negsuc n) = inr (λ e. absurd (omega (arith, ints, e)))

stays_or_moves : (x y : ℤ) → ((x ≡ pos 0) × (y ≡ pos 0)) ⊎ Moves x y
stays_or_moves x y = elim (zero_or_not x) [
  | inl column ↦ elim (zero_or_not y) [ inl row ↦ inl (column, row) | inr row ↦ inr (λ both. row both.1) ]
  | inr column ↦ inr (λ both. column both.0)
]

has_cost : (o : Option ℕ) (n : ℕ) → IsSomeAnd o (λ c. c < n) → (c : ℕ) × (o ≡ Some c) × (c < n)
has_cost None n h = absurd h
has_cost (Some c) n h = (c, refl, h)

-- the cost of a cell by its column and row
cost_read : (m : CellMap) (x y c : ℕ) → cost_at m (pos x) (pos y) ≡ Some c
    → slice_get m.costs (y * m.width + x) ≡ Some c
cost_read m x y c h =
    option_and_then_some (slice_get m.costs) (index_in m (pos x) (pos y)) c h (λ index is at.
    ap (slice_get m.costs) (cond_some (nat_lt x m.width && nat_lt y m.height) (y * m.width + x) index is).1 ∙ at)

nothing_more : (x : ℕ) → pos x +ℤ pos 0 ≡ pos x
nothing_more x = omega (arith, ints)

module _ (w : World) (is_world : IsWorld w) (hops : List Hop) (are : AreHops w.env w.prims.items hops) (s t c place : ℕ)
    (p : Primitive) (stands : slice_get w.prims.items place ≡ Some p) (ends : EndsIn w s p t)
    (at : IsFreeAt w s p c) where
  -- the cells of both ends
  cell_is : (place_of w.env s).y * w.map.width + (place_of w.env s).x ≡ s / w.env.headings
  cell_is =
      ap (λ n. (place_of w.env s).y * n + (place_of w.env s).x) is_world.width
      ∙ div-add-mod' (s / w.env.headings) w.env.width

  end_is : t / w.env.headings ≡ ends.place.y * w.env.width + ends.place.x
  end_is =
      ap (λ n. n / w.env.headings) ends.number
      ∙ div-mul-add (ends.place.y * w.env.width + ends.place.x) w.env.headings ends.place.t ends.on_map.t

  source : (x : ℕ) × (slice_get w.map.costs (s / w.env.headings) ≡ Some x) × (x < w.env.obsthresh) × (x ≤ at.greatest)
  source =
      let some = has_cost (cost_from w s (pos 0) (pos 0)) w.env.obsthresh at.free.source in
      let there : cost_at w.map (pos (place_of w.env s).x) (pos (place_of w.env s).y) ≡ Some some.0 =
      ap (λ z. cost_at w.map z (pos (place_of w.env s).y)) (sym (nothing_more (place_of w.env s).x))
      ∙ ap (λ z. cost_at w.map (pos (place_of w.env s).x +ℤ pos 0) z) (sym (nothing_more (place_of w.env s).y))
      ∙ some.1 in (
        some.0,
        ap (slice_get w.map.costs) (sym cell_is)
            ∙ cost_read w.map (place_of w.env s).x (place_of w.env s).y some.0 there,
        some.2,
        at.paid.none_above (pos 0) (pos 0) some.0 (inl (refl, refl)) some.1,
      )

  target : (x : ℕ) × (slice_get w.map.costs (t / w.env.headings) ≡ Some x) × (x < w.env.obsthresh)
      × (x < w.env.inscribed) × (x ≤ at.greatest)
  target =
      let some = has_cost (cost_from w s p.dx p.dy) w.env.obsthresh at.free.target in
      let also = has_cost (cost_from w s p.dx p.dy) w.env.inscribed at.free.target_inscribed in
      let same : also.0 ≡ some.0 = same_Some also.0 some.0 (sym also.1 ∙ some.1) in
      let there : cost_at w.map (pos ends.place.x) (pos ends.place.y) ≡ Some some.0 =
      ap (λ z. cost_at w.map z (pos ends.place.y)) ends.column
      ∙ ap (λ z. cost_at w.map (column_from w s p.dx) z) ends.row ∙ some.1 in (
        some.0,
        ap (slice_get w.map.costs) (end_is ∙ ap (λ n. ends.place.y * n + ends.place.x) (sym is_world.width))
            ∙ cost_read w.map ends.place.x ends.place.y some.0 there,
        some.2,
        omega (arith, also.2, same),
        at.paid.none_above p.dx p.dy some.0 (inr (inl (refl, refl))) some.1,
      )

  leads : LiesFrom w.map (s / w.env.headings) (t / w.env.headings) p.dx p.dy
  leads =
      let column : t / w.env.headings % w.map.width ≡ ends.place.x =
      ap (λ n. t / w.env.headings % n) is_world.width ∙ ap (λ n. n % w.env.width) end_is
      ∙ mod-mul-add ends.place.y w.env.width ends.place.x ends.on_map.x in
      let row : t / w.env.headings / w.map.width ≡ ends.place.y =
      ap (λ n. t / w.env.headings / n) is_world.width ∙ ap (λ n. n / w.env.width) end_is
      ∙ div-mul-add ends.place.y w.env.width ends.place.x ends.on_map.x in
      let from_column : s / w.env.headings % w.map.width ≡ (place_of w.env s).x =
      ap (λ n. s / w.env.headings % n) is_world.width in
      let from_row : s / w.env.headings / w.map.width ≡ (place_of w.env s).y =
      ap (λ n. s / w.env.headings / n) is_world.width in (
        ap pos column ∙ ends.column ∙ ap (λ n. pos n +ℤ p.dx) (sym from_column),
        ap pos row ∙ ends.row ∙ ap (λ n. pos n +ℤ p.dy) (sym from_row),
      )

  start_inside : s / w.env.headings < w.map.width * w.map.height
  start_inside = omega (arith, is_world.map.cells, slice_get_within w.map.costs (s / w.env.headings) source.0 source.1)

  -- a free arc to another cell costs no less than the cells' arc weighs
  arc_below : Moves p.dx p.dy → (weight : ℕ)
      × IsCellArc w.env w.prims.items w.map (s / w.env.headings) (t / w.env.headings) weight × (weight ≤ c)
  arc_below moves =
      let there = are.all place p stands moves in
      let least = (are.each there.0 there.1 there.2).least in
      let pair : IsLeastCost w.env w.prims.items p.dx p.dy there.1.cost =
      subst (λ z. IsLeastCost w.env w.prims.items p.dx z there.1.cost) there.4
      (subst (λ z. IsLeastCost w.env w.prims.items z there.1.dy there.1.cost) there.3 least) in
      let low : there.1.cost ≤ primitive_cost w.env p = pair.least place p stands refl refl in
      let high : max source.0 target.0 + 1 ≤ at.greatest + 1 = omega (arith, source.3, target.4) in
      let product : there.1.cost * (max source.0 target.0 + 1) ≤ primitive_cost w.env p * (at.greatest + 1) =
      mul-le-mul low high in (
        there.1.cost * (max source.0 target.0 + 1),
        record {
          dx = p.dx;
          dy = p.dy;
          moves = moves;
          cost = there.1.cost;
          least = pair;
          step = record {
            leads = leads;
            start = source.0;
            end = target.0;
            start_is = source.1;
            end_is = target.1;
            start_below = source.2;
            end_below = target.2;
            end_inscribed = target.3;
            product = refl;
          };
        },
        omega (arith, product, at.product),
      )

  -- a motion that stays in its cell
  same_cell : (p.dx ≡ pos 0) × (p.dy ≡ pos 0) → t / w.env.headings ≡ s / w.env.headings
  same_cell both =
      let column : ends.place.x ≡ (place_of w.env s).x = omega (arith, ints, ends.column, both.0) in
      let row : ends.place.y ≡ (place_of w.env s).y = omega (arith, ints, ends.row, both.1) in
      end_is ∙ ap (λ n. ends.place.y * w.env.width + n) column ∙ ap (λ n. n * w.env.width + (place_of w.env s).x) row
      ∙ div-add-mod' (s / w.env.headings) w.env.width

  module _ (goal x y : ℕ) where
    falls_by_arc : (weight : ℕ) → IsCellArc w.env w.prims.items w.map (s / w.env.headings) (t / w.env.headings) weight
        → weight ≤ c → IsCellWeight w.env w.prims.items w.map goal (s / w.env.headings) x
        → IsCellWeight w.env w.prims.items w.map goal (t / w.env.headings) y → x ≤ c + y
    falls_by_arc weight arc low (inl here) (inl there) =
        let way = here.least (t / w.env.headings ∷ there.cells) (weight + y) (weight, y, arc, there.walk, refl) in
        omega arith
    falls_by_arc weight arc low (inl here) (inr there) =
        let most = there.1.greatest (s / w.env.headings) x start_inside here in omega arith
    falls_by_arc weight arc low (inr here) (inl there) =
        absurd (here.0 (t / w.env.headings ∷ there.cells) (weight + y) (weight, y, arc, there.walk, refl))
    falls_by_arc weight arc low (inr here) (inr there) =
        let most = there.1.greatest here.1.cell x here.1.inside here.1.attained in omega arith

    same_weight : IsCellWeight w.env w.prims.items w.map goal (s / w.env.headings) x
        → IsCellWeight w.env w.prims.items w.map goal (s / w.env.headings) y → x ≤ y
    same_weight (inl here) (inl there) = here.least there.cells y there.walk
    same_weight (inl here) (inr there) = absurd (there.0 here.cells x here.walk)
    same_weight (inr here) (inl there) = absurd (here.0 there.cells y there.walk)
    same_weight (inr here) (inr there) = there.1.greatest here.1.cell x here.1.inside here.1.attained

    -- along a free arc the cell's weight falls by the arc's cost at most
    weight_falls : IsCellWeight w.env w.prims.items w.map goal (s / w.env.headings) x
        → IsCellWeight w.env w.prims.items w.map goal (t / w.env.headings) y → x ≤ c + y
    weight_falls here there = elim (stays_or_moves p.dx p.dy) [
      | inl both ↦
          let low = same_weight here
          (subst (λ b. IsCellWeight w.env w.prims.items w.map goal b y) (same_cell both) there) in omega arith
      | inr moves ↦ let arc = arc_below moves in falls_by_arc arc.0 arc.1 arc.2 here there
    ]

  -- and so does the cell bound
  pub bound_falls : (goal x y : ℕ) → IsCellBound w.env w.prims.items w.map goal (s / w.env.headings) x
      → IsCellBound w.env w.prims.items w.map goal (t / w.env.headings) y → x ≤ c + y
  bound_falls goal x y here there =
      let low = weight_falls goal here.weight there.weight here.weighs there.weighs in
      omega (arith, low, here.lesser, there.lesser)

module _ (w : World) (is_world : IsWorld w) (hops : List Hop) (are : AreHops w.env w.prims.items hops)
    (arcs : HasLatticeArcs (network_of w) w) (gaps : HasGaps (network_of w)) (goal : ℕ)
    (inside : goal < state_count w.env) (h : ℕ → ℕ) (best : IsBest w goal h) where
  no_weight : (weight : ℕ)
      → IsCellWeight w.env w.prims.items w.map (cell_of w.env goal) (cell_of w.env goal) weight → weight ≡ 0
  no_weight weight (inl low) = let most = low.least [] 0 (refl, refl) in omega arith
  no_weight weight (inr cut) = absurd (cut.0 [] 0 (refl, refl))

  none_at_goal : (bound : ℕ)
      → IsCellBound w.env w.prims.items w.map (cell_of w.env goal) (cell_of w.env goal) bound → bound ≡ 0
  none_at_goal bound is = omega (arith, no_weight is.weight is.weighs, is.lesser)

  below : (s : ℕ) → s < (network_of w).states → s < state_count w.env
  below s state = subst (λ n. s < n) arcs.states state

  above : (s : ℕ) → s < state_count w.env → s < (network_of w).states
  above s state = subst (λ n. s < n) (sym arcs.states) state

  along : (s k t c : ℕ) → IsFreeArc (network_of w) s k t c → t < state_count w.env → h s ≤ c + h t
  along s k t c arc head =
      let found = arcs.arcs s k arc.source arc.number in
      let ends = (found.3.head t).0 arc.head in
      let at = (found.3.cost c).0 arc.cost in
      let source = below s arc.source in
      let cells =
      bound_falls w is_world hops are s t c found.0 found.1 found.2.stands ends at (cell_of w.env goal) (best.bound s)
      (best.bound t) (best.bounds s source) (best.bounds t head) in
      let gap = gaps.along s k t c goal arc (above goal inside) in
      omega (arith, cells, gap, best.values s source, best.values t head)

  pub consistent : ((s k t c : ℕ) → IsFreeArc (network_of w) s k t c → t < (network_of w).states)
      → IsConsistent (network_of w) goal h
  consistent heads = record {
    at_goal = omega (
      arith,
      best.values goal inside,
      none_at_goal (best.bound goal) (best.bounds goal inside),
      gaps.to_itself goal (above goal inside),
    );
    along = λ s k t c arc. along s k t c arc (below t (heads s k t c arc));
  }
