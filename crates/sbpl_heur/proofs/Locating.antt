-- Cells by their columns and rows.
use Rattle.std.proofs.Common.{◌≡◌, ℕ, ℤ, pos, negsuc, ◌+◌, ◌*◌, ◌/◌, ◌%◌, ◌<◌, ◌≤◌, ◌+ℤ◌, ◌-ℤ◌, ◌&&◌, List, Some, None}
use Rattle.std.proofs.Common.{Bool, true, false, inl, inr, nat_lt, refl, ap, sym, ◌∙◌, arith}
use Rattle.std.proofs.lemmas.Bool.{and_from, lt-ltb, le-ltb, cases_lt, cond-true, cond-false, false≢true}
use Rattle.std.proofs.lemmas.Bool.Decides.{nat_tests}
use Rattle.std.proofs.lemmas.Option.{cond_some, none-some}
use Rattle.std.proofs.lemmas.Int.{ints}
use Rattle.std.proofs.lemmas.Nat.{div-add-mod', div_below, mod_below, div-mul-add, mod-mul-add, mul-add-lt}
use Rattle.sbpl_cost.specs.sbpl_cfg.Environment.{Environment}
use Rattle.sbpl_cost.specs.States.{IsOff}
use Rattle.sbpl_heur.specs.declared.hop.Hop.{Hop}
use Rattle.sbpl_heur.specs.Walks.{LiesFrom}
use Rattle.sbpl_heur.specs.Boards.{cell_in, cell_before, cell_after}

-- the number of a cell of the map
number_of_cell : (e : Environment) (x y p : ℕ) → x < e.width → y < e.height → y * e.width + x ≡ p
    → cell_in e (pos x) (pos y) ≡ Some p
number_of_cell e x y p right high is =
    cond-true _ _ _ (and_from _ _ (lt-ltb x e.width right) (lt-ltb y e.height high)) ∙ ap Some is

pub cell_given : (e : Environment) (x y : ℤ) (p : ℕ) → p < e.width * e.height → x ≡ pos (p % e.width)
    → y ≡ pos (p / e.width) → 0 < e.width → cell_in e x y ≡ Some p
cell_given e x y p inside column row wide =
    rw (column, row) (number_of_cell e (p % e.width) (p / e.width) p (mod_below p e.width wide)
    (div_below p e.width e.height wide (omega arith)) (div-add-mod' p e.width))

pub cell_in_at : (e : Environment) (x y : ℤ) (column row n : ℕ) → x ≡ pos column → y ≡ pos row → column < e.width
    → row < e.height → n ≡ row * e.width + column → cell_in e x y ≡ Some n
cell_in_at e x y column row n x_is y_is right high is =
    rw (x_is, y_is) (number_of_cell e column row n right high (sym is))

none_first : (a b : Bool) → a ≡ false → (a && b) ≡ false
none_first true b is = absurd (false≢true (sym is))
none_first false b is = refl

none_second : (a b : Bool) → b ≡ false → (a && b) ≡ false
none_second true b is = is
none_second false b is = refl

not_below : (a n : ℕ) → (a < n → ⊥) → n ≤ a
not_below a n none = elim (cases_lt a n) [ inl less ↦ absurd (none less) | inr more ↦ more ]

-- off the map
pub none_beside : (e : Environment) (x y : ℤ) → IsOff e.width x → cell_in e x y ≡ None
none_beside e (pos x) (pos y) off =
    cond-false (nat_lt x e.width && nat_lt y e.height) _ _
    (none_first _ _ (le-ltb x e.width (not_below x e.width (off x refl))))
none_beside e (pos x) (negsuc y) off = refl
none_beside e (negsuc x) y off = refl

pub none_above : (e : Environment) (x y : ℤ) → IsOff e.height y → cell_in e x y ≡ None
none_above e (pos x) (pos y) off =
    cond-false (nat_lt x e.width && nat_lt y e.height) _ _
    (none_second _ _ (le-ltb y e.height (not_below y e.height (off y refl))))
none_above e (pos x) (negsuc y) off = refl
none_above e (negsuc x) y off = refl

-- where the cell of a number lies
cell_stands : (e : Environment) (x y p : ℕ) → x < e.width → y < e.height → y * e.width + x ≡ p
    → (x ≡ p % e.width) × (y ≡ p / e.width) × (p < e.width * e.height)
cell_stands e x y p right high is =
    let low = mul-add-lt y e.width x e.height high right in (
      sym (ap (λ n. n % e.width) (sym is) ∙ mod-mul-add y e.width x right),
      sym (ap (λ n. n / e.width) (sym is) ∙ div-mul-add y e.width x right),
      omega (arith, low, is),
    )

pub cell_found : (e : Environment) (x y : ℤ) (p : ℕ) → cell_in e x y ≡ Some p
    → (x ≡ pos (p % e.width)) × (y ≡ pos (p / e.width)) × (p < e.width * e.height)
cell_found e (pos x) (pos y) p is =
    let some = cond_some (nat_lt x e.width && nat_lt y e.height) (y * e.width + x) p is in
    let at = cell_stands e x y p (grind (arith, nat_tests)) (grind (arith, nat_tests)) some.1 in
    (ap pos at.0, ap pos at.1, at.2)
cell_found e (pos x) (negsuc y) p is = absurd (none-some p is)
cell_found e (negsuc x) y p is = absurd (none-some p is)

module _ (e : Environment) (costs : List ℕ) (h : Hop) (p q : ℕ) where
  pub before_leads : cell_before e q h ≡ Some p
      → LiesFrom (record { width = e.width; height = e.height; costs = costs }) p q h.dx h.dy × (p < e.width * e.height)
  before_leads is =
      let at = cell_found e _ _ p is in
      ((omega (arith, ints, at.0), omega (arith, ints, at.1)), at.2)

  pub leads_before : 0 < e.width → p < e.width * e.height
      → LiesFrom (record { width = e.width; height = e.height; costs = costs }) p q h.dx h.dy
      → cell_before e q h ≡ Some p
  leads_before wide inside leads =
      cell_given e _ _ p inside (omega (arith, ints, leads.0)) (omega (arith, ints, leads.1)) wide

  pub after_leads : cell_after e p h ≡ Some q
      → LiesFrom (record { width = e.width; height = e.height; costs = costs }) p q h.dx h.dy × (q < e.width * e.height)
  after_leads is =
      let at = cell_found e _ _ q is in
      ((sym at.0, sym at.1), at.2)

  pub leads_after : 0 < e.width → q < e.width * e.height
      → LiesFrom (record { width = e.width; height = e.height; costs = costs }) p q h.dx h.dy
      → cell_after e p h ≡ Some q
  leads_after wide inside leads = cell_given e _ _ q inside (sym leads.0) (sym leads.1) wide

-- coordinates before and after
pub before_is : (e : Environment) (q : ℕ) (h : Hop) (x y : ℤ) → pos (q % e.width) ≡ x +ℤ h.dx
    → pos (q / e.width) ≡ y +ℤ h.dy → cell_in e x y ≡ cell_before e q h
before_is e q h x y column row =
    let x_is : x ≡ pos (q % e.width) -ℤ h.dx = omega (arith, ints, column) in
    let y_is : y ≡ pos (q / e.width) -ℤ h.dy = omega (arith, ints, row) in
    ap (λ z. cell_in e z y) x_is ∙ ap (λ z. cell_in e (pos (q % e.width) -ℤ h.dx) z) y_is

pub after_is : (e : Environment) (p : ℕ) (h : Hop) (x y : ℤ) → x ≡ pos (p % e.width) +ℤ h.dx
    → y ≡ pos (p / e.width) +ℤ h.dy → cell_in e x y ≡ cell_after e p h
after_is e p h x y column row = ap (λ z. cell_in e z y) column ∙ ap (λ z. cell_in e (pos (p % e.width) +ℤ h.dx) z) row

-- the cell from which a hop leads to an inner one
pub inner_found : (e : Environment) (x y q r n : ℕ) (h : Hop) → pos x ≡ pos q +ℤ h.dx → pos y ≡ pos r +ℤ h.dy
    → q < e.width → r < e.height → n ≡ r * e.width + q → cell_in e (pos x -ℤ h.dx) (pos y -ℤ h.dy) ≡ Some n
inner_found e x y q r n h column row right high is =
    cell_in_at e _ _ q r n (omega (arith, ints, column)) (omega (arith, ints, row)) right high is
