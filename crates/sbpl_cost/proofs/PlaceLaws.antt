-- States and places are one to one.
use Rattle.std.proofs.Common.{◌≡◌, ℕ, ◌+◌, ◌*◌, ◌/◌, ◌%◌, ◌<◌, ◌≤◌, ap, ◌∙◌, arith}
use Rattle.std.proofs.Math.Nat.{div-lt_iff_lt-mul}
use Rattle.std.proofs.lemmas.Nat.{div-mul-add, div-add-mod', mod-mul-add}
use Rattle.sbpl_sweep.specs.sbpl_cfg.declared.pose.Place.{Place}
use Rattle.sbpl_sweep.specs.sbpl_cfg.Environment.{Environment, IsEnvironment}
use Rattle.sbpl_cost.specs.States.{IsPlace, place_of, state_number, state_count}

quotient_below : (s a n : ℕ) → 1 ≤ n → s < a * n → s / n < a
quotient_below s a n some h = (div-lt_iff_lt-mul {k = n} {x = s} {y = a} some).1 h

module _ (e : Environment) (good : IsEnvironment e) where
  pub place_of_state : (s : ℕ) → s < state_count e → IsPlace e (place_of e s)
  place_of_state s h =
      let some : 1 ≤ e.headings = omega (arith, good.headings) in
      let wide : 1 ≤ e.width = good.width.0 in
      let cell : s / e.headings < e.width * e.height = quotient_below s (e.width * e.height) e.headings some h in
      let row : s / e.headings / e.width < e.height =
      quotient_below (s / e.headings) e.height e.width wide (omega (arith, cell)) in
      record { x = omega arith; y = row; t = omega arith }

  pub state_of_place_of : (s : ℕ) → state_number e (place_of e s) ≡ s
  state_of_place_of s =
      ap (λ c. c * e.headings + s % e.headings) (div-add-mod' (s / e.headings) e.width) ∙ div-add-mod' s e.headings

  pub place_of_state_number : (p : Place) → IsPlace e p → place_of e (state_number e p) ≡ p
  place_of_state_number p at =
      let cell = div-mul-add (p.y * e.width + p.x) e.headings p.t at.t in
      let by_x : ℕ → Place =
      λ x. record { x = x; y = state_number e p / e.headings / e.width; t = state_number e p % e.headings } in
      let by_y : ℕ → Place = λ y. record { x = p.x; y = y; t = state_number e p % e.headings } in
      let by_t : ℕ → Place = λ t. record { x = p.x; y = p.y; t = t } in
      ap by_x (ap (λ c. c % e.width) cell ∙ mod-mul-add p.y e.width p.x at.x)
      ∙ ap by_y (ap (λ c. c / e.width) cell ∙ div-mul-add p.y e.width p.x at.x)
      ∙ ap by_t (mod-mul-add (p.y * e.width + p.x) e.headings p.t at.t)
