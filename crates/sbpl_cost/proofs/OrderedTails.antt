-- The tails of the lattice, in the order of the file.
use Rattle.std.proofs.Common.{◌≡◌, ℕ, pos, ◌<◌, ◌==◌, ◌+ℤ◌, length, take, count_by, slice_get, slice_index, Option}
use Rattle.std.proofs.Common.{Some, None, option_and_then, refl, ap, sym, zero-add, ◌∙◌, arith, subst}
use Rattle.std.specs.Option.{option_map}
use Rattle.std.proofs.lemmas.Bool.{eqb-true}
use Rattle.std.proofs.lemmas.Option.{none-some, slice_get-get_or}
use Rattle.sbpl_sweep.specs.sbpl_cfg.declared.pose.Place.{Place}
use Rattle.sbpl_sweep.specs.sbpl_mprim.declared.prim.Primitive.{Primitive}
use Rattle.sbpl_terrain.specs.sbpl_map.CellMap.{IsOnMap}
use Rattle.sbpl_cost.specs.States.{IsPlace, place_of, state_number, state_in, state_count}
use Rattle.sbpl_cost.specs.World.{World, IsWorld}
use Rattle.sbpl_cost.specs.Lattices.{entering, tail_by, network_of}
use Rattle.sbpl_cost.specs.TailOrder.{IsEntering, column_to, row_to, IsArcInto, IsTailOf, HasLatticeTails}
use Rattle.sbpl_cost.proofs.Numbered.{numbered, length-indices_from}
use Rattle.sbpl_cost.proofs.Heads.{state_in_some, state_in_at, off_where_no_state, no_state_where_off}
use Rattle.sbpl_cost.proofs.PlaceLaws.{place_of_state, state_of_place_of, place_of_state_number}
use Rattle.sbpl_cost.proofs.LatticeLaws.{state_number_below}
use Rattle.sbpl_cost.proofs.Tails.{pair_made, left_of, right_of}

-- mapping a value gives None only for None
made_of_none : {A B : Type 0} (f : A → B) (o : Option A) → option_map f o ≡ None → o ≡ None
made_of_none f None h = refl
made_of_none f (Some x) h = absurd (none-some (f x) (sym h))

-- the primitive of tail j of state t
record IsFoundTail (w : World) (t j place : ℕ) (p : Primitive) : Type 0 where
  by : IsEntering w.prims.items (place_of w.env t).t j place p
  at : slice_get (entering w.prims.items (place_of w.env t).t) j ≡ Some place

found_tail : (w : World) (t j : ℕ) → j < length (entering w.prims.items (place_of w.env t).t)
    → (place : ℕ) × (p : Primitive) × IsFoundTail w t j place p
found_tail w t j h =
    let place = slice_index (entering w.prims.items (place_of w.env t).t) j in
    let at = slice_get-get_or (entering w.prims.items (place_of w.env t).t) j 0 h in
    let n = numbered (λ p. p.to == (place_of w.env t).t) 0 w.prims.items j place at in
    let same : n.at ≡ place = sym (n.number ∙ zero-add n.at) in (
      place,
      n.item,
      record {
        by = record {
          stands = subst (λ i. slice_get w.prims.items i ≡ Some n.item) same n.stands;
          heading = eqb-true n.item.to (place_of w.env t).t n.passes;
          number = subst (λ i. count_by (λ p. p.to == (place_of w.env t).t) (take i w.prims.items) ≡ j) same n.before;
        };
        at = at;
      },
    )

module _ (w : World) (is_world : IsWorld w) (t j place : ℕ) (p : Primitive) (f : IsFoundTail w t j place p) where
  -- the tail is that of this primitive
  tail_is_by : (network_of w).tail t j ≡ tail_by w t place p
  unfolding network_of
  tail_is_by =
      ap (λ o. option_and_then (λ i. option_and_then (tail_by w t i) (slice_get w.prims.items i)) o) f.at
      ∙ ap (λ o. option_and_then (tail_by w t place) o) f.by.stands

  arc_into : t < state_count w.env → (s k : ℕ) → tail_by w t place p ≡ Some (s, k) → IsArcInto w s k place p t
  unfolding tail_by
  arc_into state s k h =
      let parts =
      pair_made (state_in w.env (column_to w t p.dx) (row_to w t p.dy) p.from)
      (count_by (λ q. q.from == p.from) (take place w.prims.items)) s k h in
      let at = state_in_some w.env (column_to w t p.dx) (row_to w t p.dy) p.from s parts.0 in
      let source : Place = record { x = at.column; y = at.row; t = p.from } in
      let on_map : IsPlace w.env source = record {
        x = at.right;
        y = at.high;
        t = omega (arith, is_world.headings, (is_world.prims.each place p f.by.stands).from);
      } in
      let here : place_of w.env s ≡ source =
      ap (place_of w.env) at.number ∙ place_of_state_number w.env is_world.env source on_map in
      let heading : (place_of w.env s).t ≡ p.from = ap (λ (q : Place). q.t) here in
      record {
        source = omega (arith, state_number_below w.env source on_map, at.number);
        by = record {
          stands = f.by.stands;
          heading = sym heading;
          number = ap (λ n. count_by (λ q. q.from == n) (take place w.prims.items)) heading ∙ parts.1;
        };
        ends = record {
          place = place_of w.env t;
          on_map = place_of_state w.env is_world.env t state;
          column =
              left_of (pos at.column) (pos (place_of w.env t).x) p.dx at.x_is
              ∙ ap (λ (q : Place). pos q.x +ℤ p.dx) (sym here);
          row =
              left_of (pos at.row) (pos (place_of w.env t).y) p.dy at.y_is
              ∙ ap (λ (q : Place). pos q.y +ℤ p.dy) (sym here);
          heading = sym f.by.heading;
          number = sym (state_of_place_of w.env is_world.env t);
        };
      }

  tail_of_into : (s k : ℕ) → IsArcInto w s k place p t → tail_by w t place p ≡ Some (s, k)
  unfolding tail_by
  tail_of_into s k arc =
      let ends = arc.ends in
      let there : place_of w.env t ≡ ends.place =
      ap (place_of w.env) ends.number ∙ place_of_state_number w.env is_world.env ends.place ends.on_map in
      let inside = place_of_state w.env is_world.env s arc.source in
      let column =
      right_of (pos (place_of w.env s).x) (pos (place_of w.env t).x) p.dx
      (ap (λ (q : Place). pos q.x) there ∙ ends.column) in
      let row =
      right_of (pos (place_of w.env s).y) (pos (place_of w.env t).y) p.dy
      (ap (λ (q : Place). pos q.y) there ∙ ends.row) in
      let source =
      state_in_at w.env (column_to w t p.dx) (row_to w t p.dy) p.from (place_of w.env s).x (place_of w.env s).y
      column row inside.x inside.y
      ∙ ap (λ n. Some (state_number w.env (record { x = (place_of w.env s).x; y = (place_of w.env s).y; t = n })))
      arc.by.heading ∙ ap (λ n. Some n) (state_of_place_of w.env is_world.env s) in
      let number = ap (λ n. count_by (λ q. q.from == n) (take place w.prims.items)) arc.by.heading ∙ arc.by.number in
      let pair : ℕ → Option (ℕ × ℕ) = λ n. Some (s, n) in
      ap (λ o. option_map (λ r. (r, count_by (λ q. q.from == p.from) (take place w.prims.items))) o) source
      ∙ ap pair number

  off_where_no_tail : tail_by w t place p ≡ None → IsOnMap w.map (column_to w t p.dx) (row_to w t p.dy) → ⊥
  unfolding tail_by
  off_where_no_tail h = off_where_no_state w is_world (column_to w t p.dx) (row_to w t p.dy) p.from
      (made_of_none (λ (s : ℕ). (s, count_by (λ q. q.from == p.from) (take place w.prims.items)))
      (state_in w.env (column_to w t p.dx) (row_to w t p.dy) p.from) h)

  no_tail_where_off : (IsOnMap w.map (column_to w t p.dx) (row_to w t p.dy) → ⊥) → tail_by w t place p ≡ None
  unfolding tail_by
  no_tail_where_off off =
      ap (λ o. option_map (λ (s : ℕ). (s, count_by (λ q. q.from == p.from) (take place w.prims.items))) o)
      (no_state_where_off w is_world (column_to w t p.dx) (row_to w t p.dy) p.from off)

  tail_of : t < state_count w.env → IsTailOf (network_of w) w t j place p
  tail_of state = record {
    tail = λ s k. (λ h. arc_into state s k (sym tail_is_by ∙ h), λ arc. tail_is_by ∙ tail_of_into s k arc);
    no_tail = (λ h. off_where_no_tail (sym tail_is_by ∙ h), λ off. tail_is_by ∙ no_tail_where_off off);
  }

pub lattice_tails : (w : World) → IsWorld w → HasLatticeTails (network_of w) w
unfolding network_of
lattice_tails w is_world = record {
  states = refl;
  fan = λ t _. length-indices_from (λ p. p.to == (place_of w.env t).t) 0 w.prims.items;
  tails = λ t j state h. let f = found_tail w t j h in (f.0, f.1, f.2.by, tail_of w is_world t j f.0 f.1 f.2 state);
}
