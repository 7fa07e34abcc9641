-- When the lattice's arcs are free, and what they cost.
use Rattle.std.proofs.Common.{◌≡◌, ℕ, zero, suc, ℤ, pos, ◌+◌, ◌*◌, ◌<◌, ◌≤◌, ◌&&◌, inl, inr, Bool, true, false, List}
use Rattle.std.proofs.Common.{[], ◌∷◌, slice_get, Option, Some, None, IsSomeAnd, option_map, unwrap_or, nat_lt, max}
use Rattle.std.proofs.Common.{refl, ap, sym, ◌∙◌, arith, subst}
use Rattle.std.specs.List.{list_all}
use Rattle.std.proofs.lemmas.Bool.{and_parts, and_from, lt-ltb, ltb-true, cond-true, cases_lt}
use Rattle.std.proofs.lemmas.Grind.{common_steps}
use Rattle.std.proofs.lemmas.Option.{cond_some, gets, none-some, same_Some, slice_get-map}
use Rattle.sbpl_sweep.specs.sbpl_cfg.declared.pose.Pose.{Pose}
use Rattle.sbpl_sweep.specs.sbpl_mprim.declared.prim.Primitive.{Primitive}
use Rattle.sbpl_sweep.specs.sbpl_mprim.Primitives.{offset_cell}
use Rattle.sbpl_sweep.specs.declared.cell.Cell.{Cell}
use Rattle.sbpl_sweep.specs.Sweep.{IsCentre, IsSwept}
use Rattle.sbpl_sweep.specs.Centres.{AreSwept}
use Rattle.sbpl_cost.specs.PrimitiveCost.{primitive_cost}
use Rattle.sbpl_cost.specs.World.{World}
use Rattle.sbpl_cost.specs.Arc.{cost_from, IsBelow, IsFree, IsPaid, IsGreatestPaid, IsFreeAt}
use Rattle.sbpl_cost.specs.Lattices.{is_below, greatest_of, centre_costs, paid_costs, swept_costs}
use Rattle.sbpl_cost.specs.Lattices.{ends_are_free, is_free, cost_by}
use Rattle.sbpl_cost.proofs.Heads.{none_where_nothing}

-- all elements of a list pass a test
pub passes_at : {X : Type 0} (test : X → Bool) (xs : List X) (i : ℕ) (x : X) → list_all test xs ≡ true
    → slice_get xs i ≡ Some x → test x ≡ true
passes_at test [] i x all at = absurd (none-some x at)
passes_at test (y ∷ ys) zero x all at = ap test (sym (same_Some y x at)) ∙ (and_parts (test y) (list_all test ys) all).0
passes_at test (y ∷ ys) (suc i) x all at = passes_at test ys i x (and_parts (test y) (list_all test ys) all).1 at

pub all_pass : {X : Type 0} (test : X → Bool) (xs : List X)
    → ((i : ℕ) (x : X) → slice_get xs i ≡ Some x → test x ≡ true) → list_all test xs ≡ true
all_pass test [] each = refl
all_pass test (y ∷ ys) each =
    and_from (test y) (list_all test ys) (each 0 y refl) (all_pass test ys (λ i x at. each (suc i) x at))

pub below : (threshold : ℕ) (o : Option ℕ) → is_below threshold o ≡ true → IsSomeAnd o (λ c. c < threshold)
below threshold None h = absurd (let no : false ≡ true = h in cc)
below threshold (Some c) h = ltb-true c threshold h

pub is_below_true : (threshold : ℕ) (o : Option ℕ) → IsSomeAnd o (λ c. c < threshold) → is_below threshold o ≡ true
is_below_true threshold None h = absurd h
is_below_true threshold (Some c) h = lt-ltb c threshold h

-- no cost of a list is above the greatest
pub at_most_greatest : (os : List (Option ℕ)) (i c : ℕ) → slice_get os i ≡ Some (Some c) → c ≤ greatest_of os
at_most_greatest [] i c at = absurd (none-some (Some c) at)
at_most_greatest (o ∷ os) zero c at =
    let h : unwrap_or o 0 ≡ c = ap (λ x. unwrap_or x 0) (same_Some o (Some c) at) in omega arith
at_most_greatest (o ∷ os) (suc i) c at = let h = at_most_greatest os i c at in omega arith

-- where all cells are on the map, the greatest cost is that of some cell
greatest_from : (threshold c : ℕ) (os : List (Option ℕ)) → list_all (is_below threshold) os ≡ true
    → (i : ℕ) × (slice_get (Some c ∷ os) i ≡ Some (Some (max c (greatest_of os))))
greatest_from threshold c [] all = let same : c ≡ max c 0 = omega arith in (0, ap (λ n. Some (Some n)) same)
greatest_from threshold c (None ∷ os) all = absurd (let no : false ≡ true = all in cc)
greatest_from threshold c (Some d ∷ os) all =
    let later =
    greatest_from threshold d os (and_parts (nat_lt d threshold) (list_all (is_below threshold) os) all).1 in
    elim (cases_lt c (max d (greatest_of os))) [
      | inl less ↦
          let same : max d (greatest_of os) ≡ max c (max d (greatest_of os)) = omega arith in
          (suc later.0, later.1 ∙ ap (λ n. Some (Some n)) same)
      | inr more ↦ let same : c ≡ max c (max d (greatest_of os)) = omega arith in (0, ap (λ n. Some (Some n)) same)
    ]

pub greatest_is_one : (threshold : ℕ) (o : Option ℕ) (os : List (Option ℕ))
    → list_all (is_below threshold) (o ∷ os) ≡ true
    → (i : ℕ) × (slice_get (o ∷ os) i ≡ Some (Some (greatest_of (o ∷ os))))
greatest_is_one threshold None os all = absurd (let no : false ≡ true = all in cc)
greatest_is_one threshold (Some c) os all =
    greatest_from threshold c os (and_parts (nat_lt c threshold) (list_all (is_below threshold) os) all).1

module _ (w : World) (s : ℕ) (p : Primitive) where
  -- the cost of the cell in which a pose lies
  abbrev pose_cost : Pose → Option ℕ
  pose_cost q = cost_from w s (offset_cell w.env.cell q.x) (offset_cell w.env.cell q.y)

  -- the cost of a cell that lies this far from the source cell
  abbrev cell_cost : Cell → Option ℕ
  cell_cost c = cost_from w s c.x c.y

  -- a centre cell's cost is one of the list
  centre_at : (x y : ℤ) (c : IsCentre w.env.cell p.poses x y)
      → slice_get (centre_costs w s p) c.number ≡ Some (cost_from w s x y)
  centre_at x y c =
      slice_get-map pose_cost p.poses c.number ∙ ap (option_map pose_cost) c.stands ∙ ap (λ o. Some o)
      (ap (λ a. cost_from w s a (offset_cell w.env.cell c.pose.y)) c.column ∙ ap (λ b. cost_from w s x b) c.row)

  -- each cost of the list is that of a centre cell
  centre_from : (i : ℕ) (o : Option ℕ) → slice_get (centre_costs w s p) i ≡ Some o
      → (x : ℤ) × (y : ℤ) × IsCentre w.env.cell p.poses x y × (cost_from w s x y ≡ o)
  centre_from i o at =
      let made : (q : Pose) × (slice_get p.poses i ≡ Some q) × (pose_cost q ≡ o) =
      grind (arith, common_steps, gets, slice_get-map) in (
        offset_cell w.env.cell made.0.x,
        offset_cell w.env.cell made.0.y,
        record { number = i; pose = made.0; stands = made.1; column = refl; row = refl },
        made.2,
      )

  -- a paid cell's cost is one of the list, and each cost of the list is a paid cell's
  paid_at : (x y : ℤ) → IsPaid w p x y → (i : ℕ) × (slice_get (paid_costs w s p) i ≡ Some (cost_from w s x y))
  paid_at x y (inl source) =
      (0, ap (λ o. Some o) (sym (ap (λ a. cost_from w s a y) source.0 ∙ ap (λ b. cost_from w s (pos 0) b) source.1)))
  paid_at x y (inr (inl target)) =
      (1, ap (λ o. Some o) (sym (ap (λ a. cost_from w s a y) target.0 ∙ ap (λ b. cost_from w s p.dx b) target.1)))
  paid_at x y (inr (inr centre)) = (suc (suc centre.number), centre_at x y centre)

  paid_from : (i : ℕ) (o : Option ℕ) → slice_get (paid_costs w s p) i ≡ Some o
      → (x : ℤ) × (y : ℤ) × IsPaid w p x y × (cost_from w s x y ≡ o)
  paid_from zero o at = (pos 0, pos 0, inl (refl, refl), same_Some (cost_from w s (pos 0) (pos 0)) o at)
  paid_from (suc zero) o at = (p.dx, p.dy, inr (inl (refl, refl)), same_Some (cost_from w s p.dx p.dy) o at)
  paid_from (suc (suc i)) o at = let from = centre_from i o at in (from.0, from.1, inr (inr from.2), from.3)

  centres_below : (threshold : ℕ) → list_all (is_below threshold) (centre_costs w s p) ≡ true → (x y : ℤ)
      → IsCentre w.env.cell p.poses x y → IsBelow w s x y threshold
  centres_below threshold all x y c =
      below threshold (cost_from w s x y)
      (passes_at (is_below threshold) (centre_costs w s p) c.number (cost_from w s x y) all (centre_at x y c))

  all_centres_below : (threshold : ℕ) → ((x y : ℤ) → IsCentre w.env.cell p.poses x y → IsBelow w s x y threshold)
      → list_all (is_below threshold) (centre_costs w s p) ≡ true
  all_centres_below threshold each = all_pass (is_below threshold) (centre_costs w s p) (λ i o at.
      let from = centre_from i o at in
      is_below_true threshold o (subst (λ z. IsSomeAnd z (λ c. c < threshold)) from.3 (each from.0 from.1 from.2)))

  source_below : ends_are_free w s p ≡ true → is_below w.env.obsthresh (cost_from w s (pos 0) (pos 0)) ≡ true
  source_below h =
      (and_parts (is_below w.env.obsthresh (cost_from w s (pos 0) (pos 0)))
      (is_below w.env.obsthresh (cost_from w s p.dx p.dy) && is_below w.env.inscribed (cost_from w s p.dx p.dy)) h).0

  target_below : ends_are_free w s p ≡ true
      → (is_below w.env.obsthresh (cost_from w s p.dx p.dy) && is_below w.env.inscribed (cost_from w s p.dx p.dy))
      ≡ true
  target_below h =
      (and_parts (is_below w.env.obsthresh (cost_from w s (pos 0) (pos 0)))
      (is_below w.env.obsthresh (cost_from w s p.dx p.dy) && is_below w.env.inscribed (cost_from w s p.dx p.dy)) h).1

  target_passes : ends_are_free w s p ≡ true
      → (is_below w.env.obsthresh (cost_from w s p.dx p.dy) ≡ true)
      × (is_below w.env.inscribed (cost_from w s p.dx p.dy) ≡ true)
  target_passes h =
      and_parts (is_below w.env.obsthresh (cost_from w s p.dx p.dy))
      (is_below w.env.inscribed (cost_from w s p.dx p.dy)) (target_below h)

  module _ (cells : List Cell) (are : AreSwept w.env.cell w.sweeps.radius p.poses cells) where
    -- a swept cell's cost is one of the list, and each cost of the list is a swept cell's
    swept_below : list_all (is_below w.env.obsthresh) (swept_costs w s cells) ≡ true → (x y : ℤ)
        → IsSwept w.env.cell w.sweeps.radius p.poses x y → IsBelow w s x y w.env.obsthresh
    swept_below all x y swept =
        let there = are.all x y swept in
        let at = slice_get-map cell_cost cells there.0 ∙ ap (option_map cell_cost) there.1 in
        below w.env.obsthresh (cost_from w s x y)
        (passes_at (is_below w.env.obsthresh) (swept_costs w s cells) there.0 (cost_from w s x y) all at)

    all_swept_below : ((x y : ℤ) → IsSwept w.env.cell w.sweeps.radius p.poses x y → IsBelow w s x y w.env.obsthresh)
        → list_all (is_below w.env.obsthresh) (swept_costs w s cells) ≡ true
    all_swept_below each = all_pass (is_below w.env.obsthresh) (swept_costs w s cells) (λ i o at.
        let from : (c : Cell) × (slice_get cells i ≡ Some c) × (cell_cost c ≡ o) =
        grind (arith, common_steps, gets, slice_get-map) in
        let swept = are.each i from.0 from.1 in
        is_below_true w.env.obsthresh o
        (subst (λ z. IsSomeAnd z (λ c. c < w.env.obsthresh)) from.2 (each from.0.x from.0.y swept)))

    -- the parts of the test
    ends : is_free w s cells p ≡ true → ends_are_free w s p ≡ true
    ends h =
        (and_parts (ends_are_free w s p) (list_all (is_below w.env.inscribed) (centre_costs w s p)
        && list_all (is_below w.env.obsthresh) (swept_costs w s cells)) h).0

    lists : is_free w s cells p ≡ true
        → (list_all (is_below w.env.inscribed) (centre_costs w s p) ≡ true)
        × (list_all (is_below w.env.obsthresh) (swept_costs w s cells) ≡ true)
    lists h =
        and_parts (list_all (is_below w.env.inscribed) (centre_costs w s p))
        (list_all (is_below w.env.obsthresh) (swept_costs w s cells))
        (and_parts (ends_are_free w s p) (list_all (is_below w.env.inscribed) (centre_costs w s p)
        && list_all (is_below w.env.obsthresh) (swept_costs w s cells)) h).1

    pub free : is_free w s cells p ≡ true → IsFree w s p
    free h = record {
      source = below w.env.obsthresh (cost_from w s (pos 0) (pos 0)) (source_below (ends h));
      target = below w.env.obsthresh (cost_from w s p.dx p.dy) (target_passes (ends h)).0;
      target_inscribed = below w.env.inscribed (cost_from w s p.dx p.dy) (target_passes (ends h)).1;
      centres = centres_below w.env.inscribed (lists h).0;
      swept = swept_below (lists h).1;
    }

    pub is_free_true : IsFree w s p → is_free w s cells p ≡ true
    is_free_true f =
        let source = is_below_true w.env.obsthresh (cost_from w s (pos 0) (pos 0)) f.source in
        let target = is_below_true w.env.obsthresh (cost_from w s p.dx p.dy) f.target in
        let inscribed = is_below_true w.env.inscribed (cost_from w s p.dx p.dy) f.target_inscribed in
        let centres = all_centres_below w.env.inscribed f.centres in
        and_from (ends_are_free w s p) (list_all (is_below w.env.inscribed) (centre_costs w s p)
        && list_all (is_below w.env.obsthresh) (swept_costs w s cells))
        (and_from _ _ source (and_from _ _ target inscribed)) (and_from _ _ centres (all_swept_below f.swept))

    -- all paid cells are on the map
    paid_below : is_free w s cells p ≡ true → list_all (is_below w.env.obsthresh) (paid_costs w s p) ≡ true
    paid_below h =
        let centres = all_centres_below w.env.obsthresh (λ x y c. swept_below (lists h).1 x y (inl c)) in
        and_from (is_below w.env.obsthresh (cost_from w s (pos 0) (pos 0)))
        (list_all (is_below w.env.obsthresh) (cost_from w s p.dx p.dy ∷ centre_costs w s p))
        (source_below (ends h)) (and_from (is_below w.env.obsthresh (cost_from w s p.dx p.dy))
        (list_all (is_below w.env.obsthresh) (centre_costs w s p)) (target_passes (ends h)).0 centres)

    pub greatest_paid : is_free w s cells p ≡ true → IsGreatestPaid w s p (greatest_of (paid_costs w s p))
    greatest_paid h =
        let one =
        greatest_is_one w.env.obsthresh (cost_from w s (pos 0) (pos 0))
        (cost_from w s p.dx p.dy ∷ centre_costs w s p) (paid_below h) in
        let cell = paid_from one.0 (Some (greatest_of (paid_costs w s p))) one.1 in
        record {
          dx = cell.0;
          dy = cell.1;
          paid = cell.2;
          cost = cell.3;
          none_above = λ x y c paid cost.
              let at = paid_at x y paid in at_most_greatest (paid_costs w s p) at.0 c (at.1 ∙ ap (λ o. Some o) cost);
        }

    one_greatest : (a b : ℕ) → IsGreatestPaid w s p a → IsGreatestPaid w s p b → a ≡ b
    one_greatest a b first second =
        let low = second.none_above first.dx first.dy a first.paid first.cost in
        let high = first.none_above second.dx second.dy b second.paid second.cost in
        omega arith

    -- the motion has its cost exactly where it is free
    pub free_at : (c : ℕ) → cost_by w s cells p ≡ Some c → IsFreeAt w s p c
    unfolding cost_by
    free_at c h =
        let parts =
        cond_some (is_free w s cells p) (primitive_cost w.env p * (greatest_of (paid_costs w s p) + 1)) c h in
        record {
          free = free parts.0;
          greatest = greatest_of (paid_costs w s p);
          paid = greatest_paid parts.0;
          product = sym parts.1;
        }

    pub cost_where_free : (c : ℕ) → IsFreeAt w s p c → cost_by w s cells p ≡ Some c
    unfolding cost_by
    cost_where_free c at =
        let yes = is_free_true at.free in
        let same = one_greatest (greatest_of (paid_costs w s p)) at.greatest (greatest_paid yes) at.paid in
        cond-true (is_free w s cells p) _ _ yes ∙ ap (λ g. Some (primitive_cost w.env p * (g + 1))) same
        ∙ ap (λ x. Some x) (sym at.product)

    pub not_free_where_none : cost_by w s cells p ≡ None → IsFree w s p → ⊥
    unfolding cost_by
    not_free_where_none h f = none-some _ (sym h ∙ cond-true (is_free w s cells p) _ _ (is_free_true f))

    pub none_where_not_free : (IsFree w s p → ⊥) → cost_by w s cells p ≡ None
    none_where_not_free blocked = none_where_nothing (cost_by w s cells p) (λ c h. blocked (free_at c h).free)
