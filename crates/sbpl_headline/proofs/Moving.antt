-- The free arcs of a lattice are the motions of which the headline tells.
use Rattle.std.proofs.Common.{◌≡◌, ◌↔◌, ℕ, zero, suc, ℤ, pos, ◌+◌, ◌*◌, ◌<◌, ◌==◌, ◌&&◌, ◌+ℤ◌, ◌⊎◌, inl, inr, nat_lt}
use Rattle.std.proofs.Common.{Bool, true, cond, List, [], ◌∷◌, take, count_by, slice_get, Option, Some, None}
use Rattle.std.proofs.Common.{min, option_and_then, IsSomeAnd, refl, sym, ap, subst, ◌∙◌, arith}
use Rattle.std.proofs.lemmas.Bool.{and_parts, eq-eqb, ltb-true}
use Rattle.std.proofs.lemmas.Int.{ints}
use Rattle.std.proofs.lemmas.List.Sums.{count_by_more_yes, sum_by-cons, sum_by-take-le}
use Rattle.std.proofs.lemmas.Option.{cond_some, get_or_from_slice_get, none-some, same_Some, slice_get_within}
use Rattle.sbpl_promises.specs.sbpl_graph.Network.{IsFreeArc, Network}
use Rattle.sbpl_promises.specs.sbpl_cfg.Environment.{Environment}
use Rattle.sbpl_promises.specs.sbpl_cfg.declared.pose.Place.{Place}
use Rattle.sbpl_promises.specs.sbpl_mprim.declared.prim.Primitive.{Primitive}
use Rattle.sbpl_promises.specs.sbpl_map.CellMap.{CellMap, cost_at, index_in}
use Rattle.sbpl_promises.specs.sbpl_cost.Arc.{EndsIn, HasLatticeArcs, IsArcBy, IsArcOf, IsFree, IsFreeAt, IsPaid, cost_from}
use Rattle.sbpl_promises.specs.sbpl_cost.PrimitiveCost.{primitive_cost, way_length}
use Rattle.sbpl_promises.specs.sbpl_cost.States.{IsPlace, place_of, state_count, state_number}
use Rattle.sbpl_promises.specs.sbpl_cost.World.{IsWorld, World}
use Rattle.sbpl_promises.specs.sbpl_report.declared.record.PathStep.{PathStep}
use Rattle.sbpl_promises.specs.LatticeSite.{IsPathStep}
use Rattle.sbpl_headline.specs.Cost.{cost_of}
use Rattle.sbpl_headline.specs.Map.{Costs, Map}
use Rattle.sbpl_headline.specs.Map as maps
use Rattle.sbpl_headline.specs.Motion.{IsOn, Moves}
use Rattle.sbpl_headline.specs.Path.{Step}
use Rattle.sbpl_headline.proofs.Places.{number_below, place_of_number}

-- the motions of a world on a map
abbrev pub moves_of : World → Map → Place → Step Place → ℕ → Type 0
moves_of w = Moves w.env w.prims.items w.sweeps.radius

-- a primitive costs by itself what the graph says
pub cost_is : (e : Environment) (p : Primitive) → cost_of e p ≡ primitive_cost e p
unfolding primitive_cost way_length
cost_is e p = refl

-- ---- the number of an arc

-- one more element in front counts where it passes
counted_first : {X : Type 0} (f : X → Bool) (x : X) (l : List X) → count_by f (x ∷ l) ≡ cond (f x) 1 0 + count_by f l
counted_first f x l = sum_by-cons (λ y. cond (f y) 1 0) x l

-- where an element passes, something is counted
some_counted : {X : Type 0} (f : X → Bool) (x : X) (l : List X) → f x ≡ true → count_by f (x ∷ l) ≡ count_by f [] → ⊥
some_counted f x l passes same =
    let one : ◌≡◌ {A = ℕ} (cond (f x) 1 0) 1 = ap (λ (b : Bool). cond b 1 0) passes in
    let more : cond (f x) 1 0 + count_by f l ≡ count_by f [] = sym (counted_first f x l) ∙ same in
    let none : ◌≡◌ {A = ℕ} (count_by f []) 0 = refl in
    omega (arith, more, one, none)

-- of the elements that pass, the one before which a number of others stand is one alone
one_at : {X : Type 0} (f : X → Bool) (l : List X) (i j : ℕ) (p q : X) → slice_get l i ≡ Some p → slice_get l j ≡ Some q
    → f p ≡ true → f q ≡ true → count_by f (take i l) ≡ count_by f (take j l) → p ≡ q
one_at f [] i j p q at also this that same = absurd (none-some p at)
one_at f (x ∷ l) zero zero p q at also this that same = same_Some p q (sym at ∙ also)
one_at f (x ∷ l) zero (suc j) p q at also this that same =
    absurd (some_counted f x (take j l) (ap f (same_Some x p at) ∙ this) (sym same))
one_at f (x ∷ l) (suc i) zero p q at also this that same =
    absurd (some_counted f x (take i l) (ap f (same_Some x q also) ∙ that) same)
one_at f (x ∷ l) (suc i) (suc j) p q at also this that same =
    one_at f l i j p q at also this that
    (omega (arith, same, counted_first f x (take i l), counted_first f x (take j l)))

-- an arc has one primitive
pub one_primitive : (w : World) (s k i j : ℕ) (p q : Primitive) → IsArcBy w s k i p → IsArcBy w s k j q → p ≡ q
one_primitive w s k i j p q a b =
    let t : ℕ = (place_of w.env s).t in
    one_at (λ r. r.from == t) w.prims.items i j p q a.stands b.stands (eq-eqb p.from t a.heading)
    (eq-eqb q.from t b.heading) (a.number ∙ sym b.number)

-- before an element that passes, fewer pass than in all
counted_before : {X : Type 0} (f : X → Bool) (l : List X) (i : ℕ) (x : X) → slice_get l i ≡ Some x → f x ≡ true
    → count_by f (take i l) < count_by f l
counted_before {X} f l i x at passes =
    let here = get_or_from_slice_get l i x x at in
    let more = count_by_more_yes f l i x (slice_get_within l i x at) (ap f here ∙ passes) in
    let all = sum_by-take-le (λ (y : X). cond (f y) 1 0) l (i + 1) in
    omega (arith, more, all)

-- ---- the costs of cells

-- a cell below a limit has a cost below it
below_cost : (o : Option ℕ) (limit : ℕ) → IsSomeAnd o (λ c. c < limit) → (c : ℕ) × (o ≡ Some c) × (c < limit)
below_cost None limit h = absurd h
below_cost (Some c) limit h = (c, refl, h)

-- and a cell with a cost below a limit is below it
below_from : (o : Option ℕ) (c limit : ℕ) → o ≡ Some c → c < limit → IsSomeAnd o (λ k. k < limit)
below_from None c limit at below = absurd (none-some c at)
below_from (Some k) c limit at below = let same = same_Some k c at in omega arith

-- a cell by other names is below the same limit
below_at : (cells : CellMap) (x y u v : ℤ) (limit : ℕ) → x ≡ u → y ≡ v
    → IsSomeAnd (cost_at cells x y) (λ c. c < limit) → IsSomeAnd (cost_at cells u v) (λ c. c < limit)
below_at cells x y u v limit column row h =
    subst (λ b. IsSomeAnd (cost_at cells u b) (λ c. c < limit)) row
    (subst (λ a. IsSomeAnd (cost_at cells a y) (λ c. c < limit)) column h)

-- an entry that is read has an index
index_where_cost : (costs : List ℕ) (o : Option ℕ) (c : ℕ) → option_and_then (slice_get costs) o ≡ Some c
    → (i : ℕ) × (o ≡ Some i)
index_where_cost costs None c h = absurd (none-some c h)
index_where_cost costs (Some i) c h = (i, refl)

-- a cell with a cost is on the map
on_map_where_cost : (cells : CellMap) (a b c : ℕ) → cost_at cells (pos a) (pos b) ≡ Some c
    → (a < cells.width) × (b < cells.height)
on_map_where_cost cells a b c h =
    let at = index_where_cost cells.costs (index_in cells (pos a) (pos b)) c h in
    let inside = cond_some (nat_lt a cells.width && nat_lt b cells.height) (b * cells.width + a) at.0 at.1 in
    let parts = and_parts (nat_lt a cells.width) (nat_lt b cells.height) inside.0 in
    (ltb-true a cells.width parts.0, ltb-true b cells.height parts.1)

-- no cells further is the same column or row
no_further : (a : ℕ) → pos a +ℤ pos 0 ≡ pos a
no_further a = omega (arith, ints)

-- ---- the cells that a motion pays for

-- a paid cell is the source cell or one that the motion is on
source_or_on : (w : World) (p : Primitive) (x y : ℤ) → IsPaid w p x y
    → ((x ≡ pos 0) × (y ≡ pos 0)) ⊎ IsOn w.env p x y
source_or_on w p x y (inl source) = inl source
source_or_on w p x y (inr (inl target)) = inr (inr target)
source_or_on w p x y (inr (inr centre)) = inr (inl centre)

-- the source cell and the cells that the motion is on are paid
paid_from : (w : World) (p : Primitive) (x y : ℤ) → ((x ≡ pos 0) × (y ≡ pos 0)) ⊎ IsOn w.env p x y
    → IsPaid w p x y
paid_from w p x y (inl source) = inl source
paid_from w p x y (inr (inl centre)) = inr (inr centre)
paid_from w p x y (inr (inr target)) = inr (inl target)

-- ---- cells below two limits

-- what is below both is below the lesser
below_both : (o : Option ℕ) (a b : ℕ) → IsSomeAnd o (λ c. c < a) → IsSomeAnd o (λ c. c < b)
    → IsSomeAnd o (λ c. c < min a b)
below_both None a b first second = absurd first
below_both (Some c) a b first second = omega (arith, first, second)

-- what is below the lesser is below both
below_first : (o : Option ℕ) (a b : ℕ) → IsSomeAnd o (λ c. c < min a b) → IsSomeAnd o (λ c. c < a)
below_first None a b h = absurd h
below_first (Some c) a b h = omega (arith, h)

below_second : (o : Option ℕ) (a b : ℕ) → IsSomeAnd o (λ c. c < min a b) → IsSomeAnd o (λ c. c < b)
below_second None a b h = absurd h
below_second (Some c) a b h = omega (arith, h)

-- ---- motions

module _ (w : World) (is_world : IsWorld w) (m : Map)
    (costs : (x y : ℤ) (c : ℕ) → (cost_at w.map x y ≡ Some c) ↔ Costs m x y c) where
  -- a cell is below a limit in the headline's words
  told_below : (x y : ℤ) (limit : ℕ) → IsSomeAnd (cost_at w.map x y) (λ c. c < limit) → maps.IsBelow m limit x y
  told_below x y limit h =
      let has = below_cost (cost_at w.map x y) limit h in (has.0, (costs x y has.0).0 has.1, has.2)

  -- and what is below a limit in the headline's words is so
  is_below : (x y : ℤ) (limit : ℕ) → maps.IsBelow m limit x y → IsSomeAnd (cost_at w.map x y) (λ c. c < limit)
  is_below x y limit h = below_from (cost_at w.map x y) h.0 limit ((costs x y h.0).1 h.1) h.2

  -- the cells that a free motion is on are below both thresholds
  on_below : (s : ℕ) (p : Primitive) → IsFree w s p → (x y : ℤ) → IsOn w.env p x y
      → IsSomeAnd (cost_from w s x y) (λ c. c < min w.env.inscribed w.env.obsthresh)
  on_below s p free x y (inl centre) =
      below_both (cost_from w s x y) w.env.inscribed w.env.obsthresh (free.centres x y centre)
      (free.swept x y (inl centre))
  on_below s p free x y (inr target) =
      let here : IsSomeAnd (cost_from w s p.dx p.dy) (λ c. c < min w.env.inscribed w.env.obsthresh) =
      below_both (cost_from w s p.dx p.dy) w.env.inscribed w.env.obsthresh free.target_inscribed free.target in
      subst (λ b. IsSomeAnd (cost_from w s x b) (λ c. c < min w.env.inscribed w.env.obsthresh)) (sym target.1)
      (subst (λ a. IsSomeAnd (cost_from w s a p.dy) (λ c. c < min w.env.inscribed w.env.obsthresh)) (sym target.0) here)

  -- the motion by a primitive that is free, ends in a state and has a cost moves there at that cost
  told_motion : (s k t c i id : ℕ) (p : Primitive) → IsArcBy w s k i p → EndsIn w s p t → IsFreeAt w s p c → id ≡ p.id
      → moves_of w m (place_of w.env s) (record { id = id; place = place_of w.env t }) c
  told_motion s k t c i id p by there free same =
      let here : Place = place_of w.env s in
      let place_is : place_of w.env t ≡ there.place =
      ap (place_of w.env) there.number ∙ place_of_number w.env there.place there.on_map in
      record {
        p = p;
        stands = (i, by.stands);
        id = sym same;
        headings = (by.heading, sym there.heading ∙ ap (λ (q : Place). q.t) (sym place_is));
        column = ap (λ (q : Place). pos q.x) place_is ∙ there.column;
        row = ap (λ (q : Place). pos q.y) place_is ∙ there.row;
        source =
            told_below (pos here.x) (pos here.y) w.env.obsthresh
            (below_at w.map (pos here.x +ℤ pos 0) (pos here.y +ℤ pos 0) (pos here.x) (pos here.y) w.env.obsthresh
            (no_further here.x) (no_further here.y) free.free.source);
        on = λ x y at.
            told_below (pos here.x +ℤ x) (pos here.y +ℤ y) (min w.env.inscribed w.env.obsthresh)
            (on_below s p free.free x y at);
        swept = λ x y at.
            told_below (pos here.x +ℤ x) (pos here.y +ℤ y) w.env.obsthresh (free.free.swept x y at);
        greatest = free.greatest;
        paid = (
          free.paid.dx,
          free.paid.dy,
          source_or_on w p free.paid.dx free.paid.dy free.paid.paid,
          (costs (pos here.x +ℤ free.paid.dx) (pos here.y +ℤ free.paid.dy) free.greatest).0 free.paid.cost,
        );
        most = λ d pays.
            free.paid.none_above pays.0 pays.1 d (paid_from w p pays.0 pays.1 pays.2)
            ((costs (pos here.x +ℤ pays.0) (pos here.y +ℤ pays.1) d).1 pays.3);
        product = free.product ∙ ap (λ n. n * (free.greatest + 1)) (sym (cost_is w.env p));
      }

  -- a motion that moves somewhere starts at a place of the lattice
  pub from_place : (s : Place) (step : Step Place) (c : ℕ) → moves_of w m s step c → IsPlace w.env s
  from_place s step c moves =
      let here =
      on_map_where_cost w.map s.x s.y moves.source.0
      ((costs (pos s.x) (pos s.y) moves.source.0).1 moves.source.1) in
      let good = is_world.prims.each moves.stands.0 moves.p moves.stands.1 in
      record {
        x = omega (arith, here.0, is_world.width);
        y = omega (arith, here.1, is_world.height);
        t = omega (arith, moves.headings.0, good.from, is_world.headings);
      }

  -- and it ends at one
  pub to_place : (s : Place) (step : Step Place) (c : ℕ) → moves_of w m s step c → IsPlace w.env step.place
  to_place s step c moves =
      let p : Primitive = moves.p in
      let limit : ℕ = min w.env.inscribed w.env.obsthresh in
      let below =
      below_at w.map (pos s.x +ℤ p.dx) (pos s.y +ℤ p.dy) (pos step.place.x) (pos step.place.y) limit
      (sym moves.column) (sym moves.row)
      (is_below (pos s.x +ℤ p.dx) (pos s.y +ℤ p.dy) limit (moves.on p.dx p.dy (inr (refl, refl)))) in
      let has = below_cost (cost_at w.map (pos step.place.x) (pos step.place.y)) limit below in
      let there = on_map_where_cost w.map step.place.x step.place.y has.0 has.1 in
      let good = is_world.prims.each moves.stands.0 moves.p moves.stands.1 in
      record {
        x = omega (arith, there.0, is_world.width);
        y = omega (arith, there.1, is_world.height);
        t = omega (arith, moves.headings.1, good.to, is_world.headings);
      }

  -- a motion that moves somewhere is free, and has the cost
  free_motion : (s : ℕ) (step : Step Place) (c : ℕ) (moves : moves_of w m (place_of w.env s) step c)
      → IsFreeAt w s moves.p c
  free_motion s step c moves =
      let here : Place = place_of w.env s in
      let p : Primitive = moves.p in
      let limit : ℕ = min w.env.inscribed w.env.obsthresh in
      let at_end = is_below (pos here.x +ℤ p.dx) (pos here.y +ℤ p.dy) limit (moves.on p.dx p.dy (inr (refl, refl))) in
      let end_cost = cost_at w.map (pos here.x +ℤ p.dx) (pos here.y +ℤ p.dy) in
      record {
        free = record {
          source =
              below_at w.map (pos here.x) (pos here.y) (pos here.x +ℤ pos 0) (pos here.y +ℤ pos 0) w.env.obsthresh
              (sym (no_further here.x)) (sym (no_further here.y))
              (is_below (pos here.x) (pos here.y) w.env.obsthresh moves.source);
          target = below_second end_cost w.env.inscribed w.env.obsthresh at_end;
          target_inscribed = below_first end_cost w.env.inscribed w.env.obsthresh at_end;
          centres = λ x y at.
              below_first (cost_at w.map (pos here.x +ℤ x) (pos here.y +ℤ y)) w.env.inscribed w.env.obsthresh
              (is_below (pos here.x +ℤ x) (pos here.y +ℤ y) limit (moves.on x y (inl at)));
          swept = λ x y at. is_below (pos here.x +ℤ x) (pos here.y +ℤ y) w.env.obsthresh (moves.swept x y at);
        };
        greatest = moves.greatest;
        paid = record {
          dx = moves.paid.0;
          dy = moves.paid.1;
          paid = paid_from w p moves.paid.0 moves.paid.1 moves.paid.2;
          cost = (costs (pos here.x +ℤ moves.paid.0) (pos here.y +ℤ moves.paid.1) moves.greatest).1 moves.paid.3;
          none_above = λ x y d paid cost. moves.most d (
            x,
            y,
            source_or_on w p x y paid,
            (costs (pos here.x +ℤ x) (pos here.y +ℤ y) d).0 cost,
          );
        };
        product = moves.product ∙ ap (λ n. n * (moves.greatest + 1)) (cost_is w.env p);
      }

  module _ (n : Network) (arcs : HasLatticeArcs n w) where
    -- a free arc and its printed step are a motion of the headline
    pub moves_by_arc : (s k t c : ℕ) (step : PathStep) → IsFreeArc n s k t c → IsPathStep w s k t step
        → moves_of w m (place_of w.env s) (record { id = step.id; place = place_of w.env t }) c
    moves_by_arc s k t c step free told =
        let p : Primitive = told.primitive in
        let found = arcs.arcs s k free.source free.number in
        let one = one_primitive w s k found.0 told.index found.1 p found.2 told.by in
        let arc : IsArcOf n w s k p = subst (λ (q : Primitive). IsArcOf n w s k q) one found.3 in
        told_motion s k t c told.index step.id p told.by ((arc.head t).0 free.head) ((arc.cost c).0 free.cost) told.id

    -- from a state a motion of the headline is a free arc
    arc_from : (s : ℕ) (step : Step Place) (c : ℕ) → s < state_count w.env
        → moves_of w m (place_of w.env s) step c
        → (k : ℕ) × IsFreeArc n s k (state_number w.env step.place) c
    arc_from s step c below moves =
        let t : ℕ = (place_of w.env s).t in
        let p : Primitive = moves.p in
        let i : ℕ = moves.stands.0 in
        let k : ℕ = count_by (λ (q : Primitive). q.from == t) (take i w.prims.items) in
        let by : IsArcBy w s k i p =
        record { stands = moves.stands.1; heading = moves.headings.0; number = refl } in
        let inside : s < n.states = omega (arith, below, arcs.states) in
        let fewer =
        counted_before (λ (q : Primitive). q.from == t) w.prims.items i p moves.stands.1
        (eq-eqb p.from t moves.headings.0) in
        let number : k < n.fan s = omega (arith, fewer, arcs.fan s inside) in
        let found = arcs.arcs s k inside number in
        let one = one_primitive w s k found.0 i found.1 p found.2 by in
        let arc : IsArcOf n w s k p = subst (λ (q : Primitive). IsArcOf n w s k q) one found.3 in
        let there : EndsIn w s p (state_number w.env step.place) = record {
          place = step.place;
          on_map = to_place (place_of w.env s) step c moves;
          column = moves.column;
          row = moves.row;
          heading = sym moves.headings.1;
          number = refl;
        } in (
          k,
          record {
            source = inside;
            number = number;
            head = (arc.head (state_number w.env step.place)).1 there;
            cost = (arc.cost c).1 (free_motion s step c moves);
          },
        )

    -- a motion of the headline is a free arc between the states of its places, which are places of the lattice
    pub arc_by_moves : (s : Place) (step : Step Place) (c : ℕ) → moves_of w m s step c
        → (k : ℕ) × IsFreeArc n (state_number w.env s) k (state_number w.env step.place) c
        × (place_of w.env (state_number w.env step.place) ≡ step.place) × IsPlace w.env step.place
    arc_by_moves s step c moves =
        let at = from_place s step c moves in
        let there = to_place s step c moves in
        let arc =
        arc_from (state_number w.env s) step c (number_below w.env s at)
        (subst (λ (q : Place). moves_of w m q step c) (sym (place_of_number w.env s at)) moves) in
        (arc.0, arc.1, place_of_number w.env step.place there, there)
