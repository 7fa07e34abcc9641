-- What the costs of cells say of an arc.
use Rattle.std.proofs.Common.{◌≡◌, ℕ, ℤ, pos, ◌+◌, ◌*◌, ◌^◌, ◌<◌, ◌≤◌, inl, inr, List, slice_get, Option, Some, None}
use Rattle.std.proofs.Common.{IsSomeAnd, min, refl, ap, sym, ◌∙◌, arith, subst}
use Rattle.std.proofs.lemmas.Option.{same_Some, none-some}
use Rattle.sbpl_sweep.specs.sbpl_cfg.declared.pose.Place.{Place}
use Rattle.sbpl_sweep.specs.sbpl_cfg.Environment.{IsWithin}
use Rattle.sbpl_sweep.specs.sbpl_mprim.declared.prim.Primitive.{Primitive}
use Rattle.sbpl_sweep.specs.sbpl_mprim.Primitives.{IsPrimitive}
use Rattle.sbpl_sweep.specs.declared.cell.Cell.{Cell}
use Rattle.sbpl_sweep.specs.Sweep.{IsCentre, IsSwept}
use Rattle.sbpl_cost.specs.PrimitiveCost.{primitive_cost}
use Rattle.sbpl_cost.specs.Strips.{cells_in}
use Rattle.sbpl_cost.specs.declared.strip.Strip.{Strip}
use Rattle.sbpl_cost.specs.States.{place_of}
use Rattle.sbpl_cost.specs.Checked.{AreAlong, AreAround, HaveAlong, HaveAround}
use Rattle.sbpl_cost.specs.World.{World, IsWorld}
use Rattle.sbpl_cost.specs.Arc.{cost_from, IsFree, IsPaid, IsGreatestPaid, IsFreeAt}
use Rattle.sbpl_cost.specs.Lattices.{network_of}
use Rattle.sbpl_cost.specs.Judging.{IsNear, IsGreatestBelow, AreBelow, IsGreatestPassed, IsObstructed}
use Rattle.sbpl_cost.specs.Judging.{at_source, at_centre, beside_it}
use Rattle.sbpl_cost.proofs.Arcs.{IsFound, arc_of}
use Rattle.sbpl_cost.proofs.Offsets.{swept_within}

-- what is below the lesser of two limits is below both
below_both : (o : Option ℕ) (a b : ℕ) → IsSomeAnd o (λ c. c < a) → IsSomeAnd o (λ c. c < b)
    → IsSomeAnd o (λ c. c < min a b)
below_both None a b h k = absurd h
below_both (Some c) a b h k = omega (arith, h, k)

below_left : (o : Option ℕ) (a b : ℕ) → IsSomeAnd o (λ c. c < min a b) → IsSomeAnd o (λ c. c < a)
below_left None a b h = absurd h
below_left (Some c) a b h = omega (arith, h)

below_right : (o : Option ℕ) (a b : ℕ) → IsSomeAnd o (λ c. c < min a b) → IsSomeAnd o (λ c. c < b)
below_right None a b h = absurd h
below_right (Some c) a b h = omega (arith, h)

some_and : (o : Option ℕ) (c limit : ℕ) → o ≡ Some c → c < limit → IsSomeAnd o (λ k. k < limit)
some_and None c limit h below = absurd (none-some c h)
some_and (Some k) c limit h below = let same = same_Some k c h in omega arith

-- the cells that a judgement reads are not far off
pub near_along : (cell size : ℤ) (headings : ℕ) (p : Primitive) (cells : List Cell)
    → IsWithin (pos 1) (pos 1000000000000) cell → IsPrimitive size headings p → AreAlong cell p cells
    → (i : ℕ) (c : Cell) → slice_get cells i ≡ Some c → IsNear c
near_along cell size headings p cells in_size good are i c h =
    swept_within cell size headings 0 p c.x c.y in_size good (omega arith) (inl (are.each i c h))

pub near_around : (cell size : ℤ) (headings radius : ℕ) (p : Primitive) (strips : List Strip)
    → IsWithin (pos 1) (pos 1000000000000) cell → IsPrimitive size headings p → radius ≤ 10 ^ 12
    → AreAround cell radius p strips
    → (i : ℕ) (c : Cell) → slice_get (cells_in strips) i ≡ Some c → IsNear c
near_around cell size headings radius p strips in_size good small are i c h =
    swept_within cell size headings radius p c.x c.y in_size good small (are.each i c h)

-- the tables have for a motion the cells along it and those that it sweeps
pub record AreRead (w : World) (p : Primitive) (centres : List Cell) (beside : List Strip) : Type 0 where
  pub good : IsPrimitive w.env.cell w.env.headings p
  pub along : AreAlong w.env.cell p centres
  pub around : AreAround w.env.cell w.sweeps.radius p beside

module _ (w : World) (is_world : IsWorld w) (s k place : ℕ) (p : Primitive) (f : IsFound w s k place p)
    (along : List Cell) (around : List Strip) (are : AreRead w p along around) where
  none_where_blocked : (IsFree w s p → ⊥) → None ≡ (network_of w).cost s k
  none_where_blocked blocked = sym ((arc_of w is_world s k place p f).no_cost.1 blocked)

  none_by : IsObstructed w.env w.map (place_of w.env s) along (cells_in around) → None ≡ (network_of w).cost s k
  none_by (at_source blocked) = none_where_blocked (λ free. blocked free.source)
  none_by (at_centre some) = none_where_blocked (λ free.
      let centre = are.along.each some.number some.cell some.at in
      some.blocked (below_both (cost_from w s some.cell.x some.cell.y) w.env.obsthresh w.env.inscribed
      (free.swept some.cell.x some.cell.y (inl centre)) (free.centres some.cell.x some.cell.y centre)))
  none_by (beside_it some) = none_where_blocked (λ free.
      some.blocked (free.swept some.cell.x some.cell.y (are.around.each some.number some.cell some.at)))

  module _ (start greatest : ℕ) (start_is : cost_from w s (pos 0) (pos 0) ≡ Some start)
      (start_below : start < w.env.obsthresh)
      (rest : IsGreatestBelow w.map along (pos (place_of w.env s).x) (pos (place_of w.env s).y)
      (min w.env.obsthresh w.env.inscribed) start greatest)
      (beside : AreBelow w.map (cells_in around) (pos (place_of w.env s).x)
      (pos (place_of w.env s).y) w.env.obsthresh) where
    centre_below : (x y : ℤ) → IsCentre w.env.cell p.poses x y
        → IsSomeAnd (cost_from w s x y) (λ c. c < min w.env.obsthresh w.env.inscribed)
    centre_below x y centre =
        let there = are.along.all x y centre in rest.below there.0 (record { y = y; x = x }) there.1

    swept_below : (x y : ℤ) → IsSwept w.env.cell w.sweeps.radius p.poses x y
        → IsSomeAnd (cost_from w s x y) (λ c. c < w.env.obsthresh)
    swept_below x y swept = let there = are.around.all x y swept in beside there.0 (record { y = y; x = x }) there.1

    free : IsFree w s p
    free = record {
      source = some_and (cost_from w s (pos 0) (pos 0)) start w.env.obsthresh start_is start_below;
      target =
          below_left (cost_from w s p.dx p.dy) w.env.obsthresh w.env.inscribed (centre_below p.dx p.dy are.along.end);
      target_inscribed =
          below_right (cost_from w s p.dx p.dy) w.env.obsthresh w.env.inscribed (centre_below p.dx p.dy are.along.end);
      centres = λ x y centre. below_right (cost_from w s x y) w.env.obsthresh w.env.inscribed (centre_below x y centre);
      swept = swept_below;
    }

    centre_at_most : (x y : ℤ) (c : ℕ) → IsCentre w.env.cell p.poses x y → cost_from w s x y ≡ Some c → c ≤ greatest
    centre_at_most x y c centre is =
        let there = are.along.all x y centre in rest.none_above there.0 c (record { y = y; x = x }) there.1 is

    none_above : (x y : ℤ) (c : ℕ) → IsPaid w p x y → cost_from w s x y ≡ Some c → c ≤ greatest
    none_above x y c (inl (at_x, at_y)) is =
        let same = same_Some start c
        (sym start_is ∙ sym (ap (λ a. cost_from w s a y) at_x ∙ ap (λ b. cost_from w s (pos 0) b) at_y) ∙ is) in
        omega (arith, rest.at_least)
    none_above x y c (inr (inl (at_x, at_y))) is =
        centre_at_most p.dx p.dy c are.along.end
        (sym (ap (λ a. cost_from w s a y) at_x ∙ ap (λ b. cost_from w s p.dx b) at_y) ∙ is)
    none_above x y c (inr (inr centre)) is = centre_at_most x y c centre is

    paid : IsGreatestPaid w s p greatest
    paid = elim rest.reached [
      | inl first ↦ record {
        dx = pos 0;
        dy = pos 0;
        paid = inl (refl, refl);
        cost = start_is ∙ ap (λ c. Some c) (sym first);
        none_above = none_above;
      }
      | inr some ↦ record {
        dx = some.1.x;
        dy = some.1.y;
        paid = inr (inr (are.along.each some.0 some.1 some.2));
        cost = some.3;
        none_above = none_above;
      }
    ]

    some_where_free : (price cost : ℕ) → price ≡ primitive_cost w.env p → cost ≡ price * (greatest + 1)
        → Some cost ≡ (network_of w).cost s k
    some_where_free price cost own product =
        let at : IsFreeAt w s p cost = record {
          free = free;
          greatest = greatest;
          paid = paid;
          product = product ∙ ap (λ z. z * (greatest + 1)) own;
        } in
        sym (((arc_of w is_world s k place p f).cost cost).1 at)

  -- the same, from what the walk over the cells answered
  pub none_where_obstructed : (source : Place) → source ≡ place_of w.env s
      → IsObstructed w.env w.map source along (cells_in around) → None ≡ (network_of w).cost s k
  none_where_obstructed source same obstructed =
      none_by (subst (λ q. IsObstructed w.env w.map q along (cells_in around)) same obstructed)

  pub some_where_passed : (source : Place) (greatest price more : ℕ) → source ≡ place_of w.env s
      → IsGreatestPassed w.env w.map source along (cells_in around) greatest
      → price ≡ primitive_cost w.env p → more ≡ greatest
      → Some (price * (more + 1)) ≡ (network_of w).cost s k
  some_where_passed source greatest price more same passed own is =
      let there = subst (λ q. IsGreatestPassed w.env w.map q along (cells_in around) greatest) same passed in
      some_where_free there.start greatest there.start_is there.start_below there.rest there.beside price
      (price * (more + 1)) own (ap (λ g. price * (g + 1)) is)

-- what the tables have for the primitive at an index of the file
pub read_at : (w : World) → IsWorld w
    → (centres : List (List Cell)) (beside : List (List Strip)) (place : ℕ) (p : Primitive) (along : List Cell)
    (around : List Strip) → HaveAlong w.prims centres → HaveAround w.prims w.sweeps.radius beside
    → slice_get w.prims.items place ≡ Some p → slice_get centres place ≡ Some along
    → slice_get beside place ≡ Some around → AreRead w p along around
read_at w is_world centres beside place p along around have_along have_around stands at_along at_around =
    let first = have_along place p stands in
    let second = have_around place p stands in
    let good = is_world.prims.each place p stands in
    record {
      good =
          subst (λ n. IsPrimitive w.env.cell n p) is_world.headings
          (subst (λ z. IsPrimitive z w.prims.headings p) is_world.cell good);
      along =
          subst (λ z. AreAlong z p along) is_world.cell
          (subst (λ cells. AreAlong w.prims.cell p cells) (same_Some first.0 along (sym first.1 ∙ at_along)) first.2);
      around =
          subst (λ z. AreAround z w.sweeps.radius p around) is_world.cell
          (subst (λ strips. AreAround w.prims.cell w.sweeps.radius p strips)
          (same_Some second.0 around (sym second.1 ∙ at_around)) second.2);
    }
