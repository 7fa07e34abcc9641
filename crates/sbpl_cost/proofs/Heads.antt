-- The heads of the lattice's arcs.
use Rattle.std.proofs.Common.{◌≡◌, ℕ, ℤ, pos, negsuc, ◌<◌, ◌≤ℤ◌, ◌<ℤ◌, ◌&&◌, Option, Some, None, nat_lt, refl, ap, sym}
use Rattle.std.proofs.Common.{◌∙◌, arith, subst}
use Rattle.std.proofs.lemmas.Bool.{and_parts, and_from, lt-ltb, ltb-true, cond-true}
use Rattle.std.proofs.lemmas.Int.{ints}
use Rattle.std.proofs.lemmas.Option.{cond_some, none-some}
use Rattle.sbpl_sweep.specs.sbpl_cfg.Environment.{Environment}
use Rattle.sbpl_sweep.specs.sbpl_mprim.declared.prim.Primitive.{Primitive}
use Rattle.sbpl_sweep.specs.sbpl_mprim.Primitives.{IsPrimitive}
use Rattle.sbpl_terrain.specs.sbpl_map.CellMap.{CellMap, IsOnMap}
use Rattle.sbpl_cost.specs.States.{IsOff, state_number, state_in}
use Rattle.sbpl_cost.specs.World.{World, IsWorld}
use Rattle.sbpl_cost.specs.Arc.{column_from, row_from, EndsIn}
use Rattle.sbpl_cost.specs.Lattices.{head_by}

-- an option that can't be Some is None
pub none_where_nothing : {A : Type 0} (o : Option A) → ((x : A) → o ≡ Some x → ⊥) → o ≡ None
none_where_nothing None h = refl
none_where_nothing (Some x) h = absurd (h x refl)

-- a number that is not negative is a natural number
pub natural_part : (x : ℤ) → pos 0 ≤ℤ x → (a : ℕ) × (x ≡ pos a)
natural_part (pos a) h = (a, refl)
natural_part (negsuc a) h = absurd (omega (arith, ints, h))

natural_below : (x : ℤ) (a n : ℕ) → x ≡ pos a → x <ℤ pos n → a < n
natural_below x a n e h = omega (arith, ints)

pub on_map_at : (m : CellMap) (x y : ℤ) (a b : ℕ) → x ≡ pos a → y ≡ pos b → a < m.width → b < m.height → IsOnMap m x y
on_map_at m x y a b at_column at_row right high = record {
  left = omega (arith, ints);
  right = omega (arith, ints);
  low = omega (arith, ints);
  high = omega (arith, ints);
}

-- a state of a cell of the plane, with the cell as natural numbers
pub record IsStateIn (e : Environment) (x y : ℤ) (t r : ℕ) : Type 0 where
  pub column : ℕ
  pub row : ℕ
  pub x_is : x ≡ pos column
  pub y_is : y ≡ pos row
  pub right : column < e.width
  pub high : row < e.height
  pub number : r ≡ state_number e (record { x = column; y = row; t = t })

pub state_in_some : (e : Environment) (x y : ℤ) (t r : ℕ) → state_in e x y t ≡ Some r → IsStateIn e x y t r
state_in_some e (pos a) (pos b) t r h =
    let parts =
    cond_some (nat_lt a e.width && nat_lt b e.height) (state_number e (record { x = a; y = b; t = t })) r h in
    let inside = and_parts (nat_lt a e.width) (nat_lt b e.height) parts.0 in
    record {
      column = a;
      row = b;
      x_is = refl;
      y_is = refl;
      right = ltb-true a e.width inside.0;
      high = ltb-true b e.height inside.1;
      number = sym parts.1;
    }
state_in_some e (pos a) (negsuc b) t r h = absurd (none-some r h)
state_in_some e (negsuc a) y t r h = absurd (none-some r h)

pub state_in_at : (e : Environment) (x y : ℤ) (t a b : ℕ) → x ≡ pos a → y ≡ pos b → a < e.width → b < e.height
    → state_in e x y t ≡ Some (state_number e (record { x = a; y = b; t = t }))
state_in_at e x y t a b at_column at_row right high =
    rw (at_column, at_row) (cond-true _ _ _ (and_from _ _ (lt-ltb a e.width right) (lt-ltb b e.height high)))

pub none_beside : (e : Environment) (x y : ℤ) (t : ℕ) → IsOff e.width x → state_in e x y t ≡ None
none_beside e x y t off =
    none_where_nothing (state_in e x y t) (λ r h. let at = state_in_some e x y t r h in off at.column at.x_is at.right)

pub none_above : (e : Environment) (x y : ℤ) (t : ℕ) → IsOff e.height y → state_in e x y t ≡ None
none_above e x y t off =
    none_where_nothing (state_in e x y t) (λ r h. let at = state_in_some e x y t r h in off at.row at.y_is at.high)

-- there is no state exactly where the cell is off the map
module _ (w : World) (is_world : IsWorld w) (x y : ℤ) (t : ℕ) where
  pub off_where_no_state : state_in w.env x y t ≡ None → IsOnMap w.map x y → ⊥
  off_where_no_state h on_map =
      let a = natural_part x on_map.left in
      let b = natural_part y on_map.low in
      let right : a.0 < w.env.width = subst (λ n. a.0 < n) is_world.width (natural_below _ _ _ a.1 on_map.right) in
      let high : b.0 < w.env.height = subst (λ n. b.0 < n) is_world.height (natural_below _ _ _ b.1 on_map.high) in
      none-some _ (sym h ∙ state_in_at w.env x y t a.0 b.0 a.1 b.1 right high)

  pub no_state_where_off : (IsOnMap w.map x y → ⊥) → state_in w.env x y t ≡ None
  no_state_where_off off = none_where_nothing (state_in w.env x y t) (λ r h.
      let at = state_in_some w.env x y t r h in
      off (on_map_at w.map _ _ at.column at.row at.x_is at.y_is (subst (λ n. at.column < n) (sym is_world.width)
      at.right) (subst (λ n. at.row < n) (sym is_world.height) at.high)))

module _ (w : World) (is_world : IsWorld w) (s : ℕ) (p : Primitive)
    (is_primitive : IsPrimitive w.prims.cell w.prims.headings p) where
  pub ends_in : (t : ℕ) → head_by w s p ≡ Some t → EndsIn w s p t
  unfolding head_by
  ends_in t h =
      let at = state_in_some w.env (column_from w s p.dx) (row_from w s p.dy) p.to t h in
      record {
        place = record { x = at.column; y = at.row; t = p.to };
        on_map = record { x = at.right; y = at.high; t = omega (arith, is_world.headings, is_primitive.to) };
        column = sym at.x_is;
        row = sym at.y_is;
        heading = refl;
        number = at.number;
      }

  pub head_where_ends : (t : ℕ) → EndsIn w s p t → head_by w s p ≡ Some t
  unfolding head_by
  head_where_ends t ends =
      let there =
      state_in_at w.env (column_from w s p.dx) (row_from w s p.dy) p.to ends.place.x ends.place.y (sym ends.column)
      (sym ends.row) ends.on_map.x ends.on_map.y in
      there
      ∙ ap (λ h. Some (state_number w.env (record { x = ends.place.x; y = ends.place.y; t = h }))) (sym ends.heading)
      ∙ ap Some (sym ends.number)

  pub off_map_where_none : head_by w s p ≡ None → IsOnMap w.map (column_from w s p.dx) (row_from w s p.dy) → ⊥
  unfolding head_by
  off_map_where_none h on_map = off_where_no_state w is_world (column_from w s p.dx) (row_from w s p.dy) p.to h on_map

  pub none_where_off_map : (IsOnMap w.map (column_from w s p.dx) (row_from w s p.dy) → ⊥) → head_by w s p ≡ None
  unfolding head_by
  none_where_off_map off = no_state_where_off w is_world (column_from w s p.dx) (row_from w s p.dy) p.to off
