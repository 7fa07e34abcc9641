-- A gap is the greater of the gap between the cells and the gap between the headings.
use Rattle.std.proofs.Common.{◌≡◌, ℕ, ◌+◌, ◌*◌, ◌/◌, ◌%◌, ◌<◌, ◌≤◌, max, refl, ap, sym, ◌∙◌, arith}
use Rattle.std.proofs.lemmas.Nat.{div-mul-add, mod-mul-add, mod_below}
use Rattle.sbpl_cost.specs.sbpl_cfg.declared.pose.Place.{Place}
use Rattle.sbpl_cost.specs.sbpl_cfg.Environment.{Environment}
use Rattle.sbpl_cost.specs.States.{place_of}
use Rattle.sbpl_cost.specs.Gaps.{gap_of}
use Rattle.sbpl_cost.specs.World.{World}
use Rattle.sbpl_cost.specs.Lattices.{network_of}

-- the place of a cell with a heading
place_with : (e : Environment) (cell t : ℕ) → t < e.headings
    → place_of e (cell * e.headings + t) ≡ record { x = cell % e.width; y = cell / e.width; t = t }
place_with e cell t turn =
    let by_cell : ℕ → Place =
    λ c. record { x = c % e.width; y = c / e.width; t = (cell * e.headings + t) % e.headings } in
    let by_turn : ℕ → Place = λ r. record { x = cell % e.width; y = cell / e.width; t = r } in
    ap by_cell (div-mul-add cell e.headings t turn) ∙ ap by_turn (mod-mul-add cell e.headings t turn)

split_of : (e : Environment) (prims : _) (a b : Place) → gap_of e prims b b ≡ 0
    → gap_of e prims a b ≡ max (gap_of e prims (record { x = a.x; y = a.y; t = b.t }) b)
    (gap_of e prims (record { x = b.x; y = b.y; t = a.t }) b)
unfolding gap_of
split_of e prims a b none = omega arith

module _ (w : World) (goal : ℕ) where
  gap_at : (s : ℕ) → (network_of w).gap s goal ≡ gap_of w.env w.prims.items (place_of w.env s) (place_of w.env goal)
  unfolding network_of
  gap_at s = refl

  -- the gap of a state is that of its cell with the goal's heading, or that of its heading at the goal's cell
  pub gap_split : (s : ℕ) → 1 ≤ w.env.headings → (network_of w).gap goal goal ≡ 0
      → (network_of w).gap s goal
      ≡ max ((network_of w).gap (s / w.env.headings * w.env.headings + goal % w.env.headings) goal)
      ((network_of w).gap (goal / w.env.headings * w.env.headings + s % w.env.headings) goal)
  gap_split s some none =
      let e = w.env in
      let prims = w.prims.items in
      let a = place_of e s in
      let b = place_of e goal in
      let cell : (network_of w).gap (s / e.headings * e.headings + goal % e.headings) goal
      ≡ gap_of e prims (record { x = a.x; y = a.y; t = b.t }) b =
      gap_at (s / e.headings * e.headings + goal % e.headings)
      ∙ ap (λ p. gap_of e prims p b)
      (place_with e (s / e.headings) (goal % e.headings) (mod_below goal e.headings some)) in
      let turn : (network_of w).gap (goal / e.headings * e.headings + s % e.headings) goal
      ≡ gap_of e prims (record { x = b.x; y = b.y; t = a.t }) b =
      gap_at (goal / e.headings * e.headings + s % e.headings)
      ∙ ap (λ p. gap_of e prims p b)
      (place_with e (goal / e.headings) (s % e.headings) (mod_below s e.headings some)) in
      let split = split_of e prims a b (sym (gap_at goal) ∙ none) in
      gap_at s ∙ split ∙ ap (λ x. max x (gap_of e prims (record { x = b.x; y = b.y; t = a.t }) b)) (sym cell)
      ∙ ap (max ((network_of w).gap (s / e.headings * e.headings + goal % e.headings) goal)) (sym turn)
