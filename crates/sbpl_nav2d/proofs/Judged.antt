-- When a step is free, and what it pays.
use Rattle.std.proofs.Common.{◌≡◌, ℕ, ℤ, pos, ◌+◌, ◌*◌, ◌<◌, ◌≤◌, ◌+ℤ◌, ◌⊎◌, inl, inr, true, false, nat_lt, Option}
use Rattle.std.proofs.Common.{Some, None, IsSomeAnd, option_map, max, refl, ap, sym, ◌∙◌, subst, arith}
use Rattle.std.proofs.lemmas.Bool.{cases_Bool, cases_lt, lt-ltb, ltb-true, cond-true}
use Rattle.std.proofs.lemmas.Int.{ints}
use Rattle.std.proofs.lemmas.Option.{cond_some, none-some, same_Some}
use Rattle.sbpl_terrain.specs.sbpl_map.CellMap.{cost_at}
use Rattle.sbpl_nav2d.specs.declared.cell.Cell.{Cell}
use Rattle.sbpl_nav2d.specs.Directions.{direction, is_diagonal, step_cost}
use Rattle.sbpl_nav2d.specs.World.{GridWorld}
use Rattle.sbpl_nav2d.specs.Arc.{cell_of, cost_from, IsReadAt, IsFree, IsGreatestRead, IsFreeAt}
use Rattle.sbpl_nav2d.specs.Arc.IsReadAt.{at_source, at_end, beside_along_x, beside_along_y}
use Rattle.sbpl_nav2d.specs.Grids.{network_of, below, greater, of_ends, of_sides, greatest_read}
use Rattle.sbpl_nav2d.proofs.Networks.{cost_is, mapped_from}

-- ---- two costs

-- a cost below a limit, and no greater than this
pub record IsLow (limit greatest : ℕ) (o : Option ℕ) : Type 0 where
  cost : ℕ
  is : o ≡ Some cost
  below : cost < limit
  at_most : cost ≤ greatest

-- two costs below a limit, the greater of which is this
record AreLow (limit : ℕ) (a b : Option ℕ) (greatest : ℕ) : Type 0 where
  first : IsLow limit greatest a
  second : IsLow limit greatest b
  reached : (a ≡ Some greatest) ⊎ (b ≡ Some greatest)

low_by : (limit : ℕ) (o : Option ℕ) (c : ℕ) → below limit o ≡ Some c → (o ≡ Some c) × (c < limit)
low_by limit None c e = absurd (none-some c e)
low_by limit (Some x) c e =
    let h = cond_some (nat_lt x limit) x c e in
    (ap Some h.1, subst (λ n. n < limit) h.1 (ltb-true x limit h.0))

by_low : (limit : ℕ) (o : Option ℕ) (c : ℕ) → o ≡ Some c → c < limit → below limit o ≡ Some c
by_low limit o c e h = rw e (cond-true _ _ _ (lt-ltb c limit h))

-- the greater of two that are there
record IsGreater (a b : Option ℕ) (greatest : ℕ) : Type 0 where
  x : ℕ
  y : ℕ
  first : a ≡ Some x
  second : b ≡ Some y
  is : greatest ≡ max x y

greater_by : (a b : Option ℕ) (c : ℕ) → greater a b ≡ Some c → IsGreater a b c
greater_by None b c e = absurd (none-some c e)
greater_by (Some x) None c e = absurd (none-some c e)
greater_by (Some x) (Some y) c e =
    record { x = x; y = y; first = refl; second = refl; is = sym (same_Some (max x y) c e) }

one_is_max : (x y : ℕ) → (x ≡ max x y) ⊎ (y ≡ max x y)
one_is_max x y = elim (cases_lt x y) [ inl less ↦ inr (omega arith) | inr more ↦ inl (omega arith) ]

are_low : (limit : ℕ) (a b : Option ℕ) (c : ℕ) → greater (below limit a) (below limit b) ≡ Some c → AreLow limit a b c
are_low limit a b c e =
    let g = greater_by (below limit a) (below limit b) c e in
    let first = low_by limit a g.x g.first in
    let second = low_by limit b g.y g.second in
    let is = g.is in
    record {
      first = record { cost = g.x; is = first.0; below = first.1; at_most = omega arith };
      second = record { cost = g.y; is = second.0; below = second.1; at_most = omega arith };
      reached = elim (one_is_max g.x g.y) [
        | inl h ↦ inl (first.0 ∙ ap Some (h ∙ sym is))
        | inr h ↦ inr (second.0 ∙ ap Some (h ∙ sym is))
      ];
    }

low_weaker : (limit c d : ℕ) (o : Option ℕ) → c ≤ d → IsLow limit c o → IsLow limit d o
low_weaker limit c d o h low =
    record { cost = low.cost; is = low.is; below = low.below; at_most = let most = low.at_most in omega arith }

below_limit : (limit c : ℕ) (o : Option ℕ) → IsLow limit c o → IsSomeAnd o (λ n. n < limit)
below_limit limit c o low = rw low.is low.below

at_most_greatest : (limit c n : ℕ) (o : Option ℕ) → IsLow limit c o → o ≡ Some n → n ≤ c
at_most_greatest limit c n o low e = let same = same_Some low.cost n (sym low.is ∙ e) in let most = low.at_most in
    omega arith

-- both below a limit have a greater one
greater_of : (limit : ℕ) (a b : Option ℕ) → IsSomeAnd a (λ n. n < limit) → IsSomeAnd b (λ n. n < limit)
    → (c : ℕ) × (greater (below limit a) (below limit b) ≡ Some c)
greater_of limit None b h k = absurd h
greater_of limit (Some x) None h k = absurd k
greater_of limit (Some x) (Some y) h k =
    (max x y, rw (by_low limit (Some x) x refl h, by_low limit (Some y) y refl k) refl)

-- ---- the cells of a step

nothing_more : (x : ℤ) → (x +ℤ pos 0) ≡ x
nothing_more x = omega (arith, ints)

module _ (w : GridWorld) (s k : ℕ) where
  abbrev from : Cell
  from = cell_of w s

  abbrev step : Cell
  step = direction k

  abbrev here : Option ℕ
  here = cost_at w.map from.x from.y

  abbrev there : Option ℕ
  there = cost_at w.map (from.x +ℤ step.x) (from.y +ℤ step.y)

  abbrev along_x : Option ℕ
  along_x = cost_at w.map (from.x +ℤ step.x) from.y

  abbrev along_y : Option ℕ
  along_y = cost_at w.map from.x (from.y +ℤ step.y)

  is_here : (dx dy : ℤ) → dx ≡ pos 0 → dy ≡ pos 0 → cost_from w s dx dy ≡ here
  is_here dx dy x y = rw (x, y)
      (ap (λ a. cost_at w.map a (from.y +ℤ pos 0)) (nothing_more from.x)
      ∙ ap (cost_at w.map from.x) (nothing_more from.y))

  is_there : (dx dy : ℤ) → dx ≡ step.x → dy ≡ step.y → cost_from w s dx dy ≡ there
  is_there dx dy x y = rw (x, y) refl

  is_along_x : (dx dy : ℤ) → dx ≡ step.x → dy ≡ pos 0 → cost_from w s dx dy ≡ along_x
  is_along_x dx dy x y = rw (x, y) (ap (cost_at w.map (from.x +ℤ step.x)) (nothing_more from.y))

  is_along_y : (dx dy : ℤ) → dx ≡ pos 0 → dy ≡ step.y → cost_from w s dx dy ≡ along_y
  is_along_y dx dy x y = rw (x, y) (ap (λ a. cost_at w.map a (from.y +ℤ step.y)) (nothing_more from.x))

  -- the cells that are read, with what holds of their costs
  each_read : (P : Option ℕ → Type 0) → P here → P there → (is_diagonal k ≡ true → P along_x × P along_y) → (dx dy : ℤ)
      → IsReadAt k dx dy → P (cost_from w s dx dy)
  each_read P a b sides dx dy (at_source x y) = subst P (sym (is_here dx dy x y)) a
  each_read P a b sides dx dy (at_end x y) = subst P (sym (is_there dx dy x y)) b
  each_read P a b sides dx dy (beside_along_x d x y) = subst P (sym (is_along_x dx dy x y)) (sides d).0
  each_read P a b sides dx dy (beside_along_y d x y) = subst P (sym (is_along_y dx dy x y)) (sides d).1

  -- one of them has this cost
  pub record IsReached (greatest : ℕ) : Type 0 where
    dx : ℤ
    dy : ℤ
    read : IsReadAt k dx dy
    cost : cost_from w s dx dy ≡ Some greatest

  reached_here : (c : ℕ) → here ≡ Some c → IsReached c
  reached_here c e = record {
    dx = pos 0;
    dy = pos 0;
    read = at_source refl refl;
    cost =
        is_here (pos 0) (pos 0) refl refl ∙ e;
  }

  reached_there : (c : ℕ) → there ≡ Some c → IsReached c
  reached_there c e = record { dx = step.x; dy = step.y; read = at_end refl refl; cost = e }

  reached_along_x : is_diagonal k ≡ true → (c : ℕ) → along_x ≡ Some c → IsReached c
  reached_along_x d c e =
      record {
        dx = step.x;
        dy = pos 0;
        read = beside_along_x d refl refl;
        cost =
            is_along_x step.x (pos 0) refl refl ∙ e;
      }

  reached_along_y : is_diagonal k ≡ true → (c : ℕ) → along_y ≡ Some c → IsReached c
  reached_along_y d c e =
      record {
        dx = pos 0;
        dy = step.y;
        read = beside_along_y d refl refl;
        cost =
            is_along_y (pos 0) step.y refl refl ∙ e;
      }

  -- what the greatest cost says
  pub record IsPassed (greatest : ℕ) : Type 0 where
    each : (dx dy : ℤ) → IsReadAt k dx dy → IsLow w.env.obsthresh greatest (cost_from w s dx dy)
    reached : IsReached greatest

  pub passed_straight : (c : ℕ) → is_diagonal k ≡ false → of_ends w.env.obsthresh w.map from step ≡ Some c → IsPassed c
  passed_straight c d e =
      let ends = are_low w.env.obsthresh here there c e in
      record {
        each = each_read (IsLow w.env.obsthresh c) ends.first ends.second (λ f. absurd cc);
        reached = elim ends.reached [ inl h ↦ reached_here c h | inr h ↦ reached_there c h ];
      }

  pub passed_diagonal : (c : ℕ) → is_diagonal k ≡ true
      → greater (of_ends w.env.obsthresh w.map from step) (of_sides w.env.obsthresh w.map from step) ≡ Some c
      → IsPassed c
  passed_diagonal c d e =
      let limit = w.env.obsthresh in
      let both = greater_by _ _ c e in
      let ends = are_low limit here there both.x both.first in
      let sides = are_low limit along_x along_y both.y both.second in
      let is = both.is in
      let x_most : both.x ≤ c = omega arith in
      let y_most : both.y ≤ c = omega arith in
      record {
        each = each_read (IsLow limit c) (low_weaker limit both.x c here x_most ends.first)
            (low_weaker limit both.x c there x_most ends.second)
            (λ f. (
              low_weaker limit both.y c along_x y_most sides.first,
              low_weaker limit both.y c along_y y_most
                  sides.second,
            ));
        reached = elim (one_is_max both.x both.y) [
          | inl x ↦ let same : both.x ≡ c = x ∙ sym is in elim ends.reached [
            | inl h ↦ reached_here c (h ∙ ap Some same)
            | inr h ↦ reached_there c (h ∙ ap Some same)
          ]
          | inr y ↦ let same : both.y ≡ c = y ∙ sym is in elim sides.reached [
            | inl h ↦ reached_along_x d c (h ∙ ap Some same)
            | inr h ↦ reached_along_y d c (h ∙ ap Some same)
          ]
        ];
      }

  pub passed : (c : ℕ) → greatest_read w.env.obsthresh w.map from k ≡ Some c → IsPassed c
  unfolding greatest_read
  passed c e = elim (cases_Bool (is_diagonal k)) [
    | inl d ↦ passed_diagonal c d (rw d at e)
    | inr d ↦ passed_straight c d (rw d at e)
  ]

  pub free_by : (c : ℕ) → IsPassed c → IsFreeAt w s k (step_cost k * (c + 1))
  free_by c at = record {
    free = λ dx dy read. below_limit w.env.obsthresh c (cost_from w s dx dy) (at.each dx dy read);
    greatest = c;
    read = record {
      dx = at.reached.dx;
      dy = at.reached.dy;
      read = at.reached.read;
      cost = at.reached.cost;
      none_above = λ x y n read e. at_most_greatest w.env.obsthresh c n (cost_from w s x y) (at.each x y read) e;
    };
    product = refl;
  }

  -- a cost is that of a free step
  pub free_at : (c : ℕ) → (network_of w).cost s k ≡ Some c → IsFreeAt w s k c
  free_at c e =
      let of = mapped_from _ _ c (sym (cost_is w s k) ∙ e) in
      subst (IsFreeAt w s k) (sym of.2) (free_by of.0 (passed of.0 of.1))

  -- a free step has a cost
  pub greatest_where_free : IsFree w s k → (c : ℕ) × (greatest_read w.env.obsthresh w.map from k ≡ Some c)
  unfolding greatest_read
  greatest_where_free free =
      let limit = w.env.obsthresh in
      let P : Option ℕ → Type 0 = λ o. IsSomeAnd o (λ c. c < limit) in
      let low_here = subst P (is_here (pos 0) (pos 0) refl refl) (free (pos 0) (pos 0) (at_source refl refl)) in
      let low_there = free step.x step.y (at_end refl refl) in
      let ends = greater_of limit here there low_here low_there in
      elim (cases_Bool (is_diagonal k)) [
        | inl d ↦
            let low_x = subst P (is_along_x step.x (pos 0) refl refl)
            (free step.x (pos 0) (beside_along_x d refl refl)) in
            let low_y = subst P (is_along_y (pos 0) step.y refl refl)
            (free (pos 0) step.y (beside_along_y d refl refl)) in
            let sides = greater_of limit along_x along_y low_x low_y in
            (max ends.0 sides.0, rw (d, ends.1, sides.1) refl)
        | inr d ↦ (ends.0, rw d ends.1)
      ]

  pub cost_where_free : IsFree w s k → (c : ℕ) × ((network_of w).cost s k ≡ Some c)
  cost_where_free free =
      let greatest = greatest_where_free free in (
        step_cost k * (greatest.0 + 1),
        cost_is w s k
            ∙ ap (option_map (λ greatest. step_cost k * (greatest + 1))) greatest.1,
      )

  -- a free step has one cost
  one_greatest : (a b : ℕ) → IsGreatestRead w s k a → IsGreatestRead w s k b → a ≡ b
  one_greatest a b h k =
      let up = k.none_above h.dx h.dy a h.read h.cost in
      let down = h.none_above k.dx k.dy b k.read k.cost in
      omega arith

  pub cost_where_free_at : (c : ℕ) → IsFreeAt w s k c → (network_of w).cost s k ≡ Some c
  cost_where_free_at c at =
      let found = cost_where_free at.free in
      let is = free_at found.0 found.1 in
      let same = one_greatest is.greatest at.greatest is.read at.read in
      found.1 ∙ ap Some (is.product ∙ ap (λ n. step_cost k * (n + 1)) same ∙ sym at.product)
