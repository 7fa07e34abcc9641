-- Cells of the plane: their places and states on the map, and none off it.
use Rattle.std.proofs.Common.{◌≡◌, ℕ, ℤ, pos, negsuc, ◌<◌, ◌&&◌, Bool, true, false, nat_lt, cond, Option, Some, None}
use Rattle.std.proofs.Common.{option_map, refl, ap, ◌∙◌, arith}
use Rattle.std.proofs.lemmas.Bool.{and_from, cond-true, lt-ltb, ltb-true}
use Rattle.sbpl_sweep.specs.sbpl_cfg.declared.pose.Place.{Place}
use Rattle.sbpl_sweep.specs.sbpl_cfg.Environment.{Environment}
use Rattle.sbpl_cost.specs.States.{IsOff, place_on_map, state_in, state_number}

-- a cell by other names
pub same_place : (e : Environment) (x y u v : ℤ) (t : ℕ) (p : Option Place) → p ≡ place_on_map e u v t → u ≡ x → v ≡ y
    → p ≡ place_on_map e x y t
same_place e x y u v t p q f g = cc

pub same_state : (e : Environment) (x y u v : ℤ) (t : ℕ) (s : Option ℕ) → s ≡ state_in e u v t → u ≡ x
    → v ≡ y → s ≡ state_in e x y t
same_state e x y u v t s q f g = cc

none_where_off : (A : Type 0) (b c : Bool) (p : A) → (b ≡ true → ⊥) → None ≡ cond (b && c) (Some p) None
none_where_off A true c p off = absurd (off refl)
none_where_off A false c p off = refl

none_where_off_too : (A : Type 0) (b c : Bool) (p : A) → (c ≡ true → ⊥) → None ≡ cond (b && c) (Some p) None
none_where_off_too A true true p off = absurd (off refl)
none_where_off_too A true false p off = refl
none_where_off_too A false c p off = refl

module _ (e : Environment) (t : ℕ) where
  pub off_column : (width : ℕ) (x y u : ℤ) → width ≡ e.width → u ≡ x → IsOff width u → None ≡ place_on_map e x y t
  off_column width (pos x) (pos y) u wide is off =
      none_where_off Place (nat_lt x e.width) (nat_lt y e.height) (record { x = x; y = y; t = t })
      (λ below. off x is (omega (arith, ltb-true x e.width below)))
  off_column width (pos x) (negsuc y) u wide is off = refl
  off_column width (negsuc x) y u wide is off = refl

  pub off_row : (height : ℕ) (x y v : ℤ) → height ≡ e.height → v ≡ y → IsOff height v → None ≡ place_on_map e x y t
  off_row height (pos x) (pos y) v high is off =
      none_where_off_too Place (nat_lt x e.width) (nat_lt y e.height) (record { x = x; y = y; t = t })
      (λ below. off y is (omega (arith, ltb-true y e.height below)))
  off_row height (pos x) (negsuc y) v high is off = refl
  off_row height (negsuc x) y v high is off = refl

  state_of_place : (x y : ℤ) → option_map (state_number e) (place_on_map e x y t) ≡ state_in e x y t
  state_of_place (pos x) (pos y) =
      let p : Place = record { x = x; y = y; t = t } in
      elim (nat_lt x e.width && nat_lt y e.height)
      as (λ b. option_map (state_number e) (cond b (Some p) None) ≡ cond b (Some (state_number e p)) None) [
        | true ↦ refl
        | false ↦ refl
      ]
  state_of_place (pos x) (negsuc y) = refl
  state_of_place (negsuc x) y = refl

  -- the state of a cell is that of its place
  pub state_by_place : (x y u v : ℤ) (p : Option Place) → p ≡ place_on_map e u v t → u ≡ x → v ≡ y
      → option_map (state_number e) p ≡ state_in e x y t
  state_by_place x y u v p q f g =
      ap (option_map (state_number e)) (same_place e x y u v t p q f g) ∙ state_of_place x y

pub place_at : (e : Environment) (x y : ℤ) (t a b : ℕ) → x ≡ pos a → y ≡ pos b → a < e.width → b < e.height
    → place_on_map e x y t ≡ Some (record { x = a; y = b; t = t })
place_at e x y t a b at_column at_row right high =
    rw (at_column, at_row) (cond-true _ _ _ (and_from _ _ (lt-ltb a e.width right) (lt-ltb b e.height high)))
