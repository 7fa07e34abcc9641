-- How far a point lies from cells on one axis, counted from its own cell.
use Rattle.std.proofs.Common.{◌≡◌, ℕ, zero, suc, ℤ, pos, negsuc, ◌+◌, ◌*◌, ◌≤◌, ◌+ℤ◌, ◌-ℤ◌, ◌*ℤ◌, ◌<ℤ◌, ◌≤ℤ◌, inl, inr}
use Rattle.std.proofs.Common.{◌⊎◌, refl, ap, sym, ◌∙◌, arith, int_lt, true, false}
use Rattle.std.proofs.lemmas.Bool.{cond-true, cond-false}
use Rattle.std.specs.Int.RustNames.{unsigned_abs}
use Rattle.std.proofs.lemmas.Int.{ints}
use Rattle.std.proofs.Math.IntN.{suc_ℤ, *ℤ_comm, suc_ℤ-*ℤ}
use Rattle.sbpl_sweep.specs.declared.reach.Axis.{Axis}
use Rattle.sbpl_sweep.specs.Sweep.{distance_to, distance_to_cell}
use Rattle.sbpl_sweep.specs.Reach.{IsAxis}

is_less : (a b : ℤ) → a <ℤ b → int_lt a b ≡ true
is_less a b h = grind (arith, ints)

is_not_less : (a b : ℤ) → b ≤ℤ a → int_lt a b ≡ false
is_not_less a b h = grind (arith, ints)

-- a point before an interval
before_it : (low high p : ℤ) (d : ℕ) → 1 ≤ d → low ≡ p +ℤ pos d → distance_to low high p ≡ d
before_it low high p d some e =
    let test = is_less p low (omega (arith, ints)) in
    let value : unsigned_abs (low -ℤ p) ≡ d = omega (arith, ints) in
    cond-true (int_lt p low) _ _ test ∙ value

inside_it : (low high p : ℤ) → low ≤ℤ p → p ≤ℤ high → distance_to low high p ≡ 0
inside_it low high p from to =
    cond-false (int_lt p low) _ _ (is_not_less p low from) ∙ cond-false (int_lt high p) _ _ (is_not_less high p to)

-- a point at the end of an interval or after it
after_it : (low high p : ℤ) (d : ℕ) → low ≤ℤ high → p ≡ high +ℤ pos d → distance_to low high p ≡ d
after_it low high p zero h e = inside_it low high p (omega (arith, ints)) (omega (arith, ints))
after_it low high p (suc d) h e =
    let value : unsigned_abs (p -ℤ high) ≡ suc d = omega (arith, ints) in
    cond-false (int_lt p low) _ _ (is_not_less p low (omega (arith, ints)))
    ∙ cond-true (int_lt high p) _ _ (is_less high p (omega (arith, ints))) ∙ value

one_more : (m : ℤ) → m +ℤ pos 1 ≡ suc_ℤ m
one_more (pos n) = omega (arith, ints)
one_more (negsuc zero) = refl
one_more (negsuc (suc n)) = omega (arith, ints)

-- a product with a sum, and with a difference
scaled : (s : ℕ) (a : ℤ) (k : ℕ) → pos s *ℤ (a +ℤ pos k) ≡ (pos s *ℤ a) +ℤ pos (s * k)
scaled s a zero =
    let none : a +ℤ pos zero ≡ a = omega (arith, ints) in
    let nothing : (pos s *ℤ a) +ℤ pos (s * zero) ≡ pos s *ℤ a = omega (arith, ints) in
    ap (λ z. pos s *ℤ z) none ∙ sym nothing
scaled s a (suc k) =
    let longer : a +ℤ pos (suc k) ≡ (a +ℤ pos k) +ℤ pos 1 = omega (arith, ints) in
    let step =
    *ℤ_comm (pos s) (suc_ℤ (a +ℤ pos k)) ∙ suc_ℤ-*ℤ (a +ℤ pos k) (pos s)
    ∙ ap (λ z. z +ℤ pos s) (*ℤ_comm (a +ℤ pos k) (pos s)) in
    let so_far = scaled s a k in
    let sum : ((pos s *ℤ a) +ℤ pos (s * k)) +ℤ pos s ≡ (pos s *ℤ a) +ℤ pos (s * suc k) = omega (arith, ints) in
    ap (λ z. pos s *ℤ z) (longer ∙ one_more (a +ℤ pos k)) ∙ step ∙ ap (λ z. z +ℤ pos s) so_far ∙ sum

scaled_back : (s : ℕ) (a : ℤ) (k : ℕ) → pos s *ℤ (a -ℤ pos k) ≡ (pos s *ℤ a) -ℤ pos (s * k)
scaled_back s a k =
    let there : (a -ℤ pos k) +ℤ pos k ≡ a = omega (arith, ints) in
    let whole = sym (scaled s (a -ℤ pos k) k) ∙ ap (λ z. pos s *ℤ z) there in
    omega (arith, ints)

module _ (cell offset : ℤ) (side : ℕ) (a : Axis) (side_is : pos side ≡ pos 2 *ℤ cell)
    (axis : IsAxis side (cell +ℤ (pos 2 *ℤ offset)) a) where
  pub distance_own : distance_to_cell cell offset a.own ≡ 0
  distance_own =
      let next = scaled side a.own 1 in
      inside_it (pos 2 *ℤ cell *ℤ a.own) (pos 2 *ℤ cell *ℤ (a.own +ℤ pos 1)) (cell +ℤ (pos 2 *ℤ offset))
      (rw (← side_is) (omega (arith, ints, axis.start))) (rw (← side_is) (omega (arith, ints, axis.start, axis.whole)))

  pub distance_after : (n : ℕ) → distance_to_cell cell offset (a.own +ℤ pos (n + 1)) ≡ a.after + side * n
  distance_after n =
      let low = scaled side a.own (n + 1) in
      before_it (pos 2 *ℤ cell *ℤ (a.own +ℤ pos (n + 1))) (pos 2 *ℤ cell *ℤ ((a.own +ℤ pos (n + 1)) +ℤ pos 1))
      (cell +ℤ (pos 2 *ℤ offset)) (a.after + side * n) (omega (arith, axis.some))
      (rw (← side_is) (omega (arith, ints, axis.start, axis.whole)))

  pub distance_before : (n : ℕ) → distance_to_cell cell offset (a.own -ℤ pos (n + 1)) ≡ a.before + side * n
  distance_before n =
      let low = scaled_back side a.own (n + 1) in
      let high = scaled side (a.own -ℤ pos (n + 1)) 1 in
      after_it (pos 2 *ℤ cell *ℤ (a.own -ℤ pos (n + 1))) (pos 2 *ℤ cell *ℤ ((a.own -ℤ pos (n + 1)) +ℤ pos 1))
      (cell +ℤ (pos 2 *ℤ offset)) (a.before + side * n) (rw (← side_is) (omega (arith, ints)))
      (rw (← side_is) (omega (arith, ints, axis.start, axis.whole)))

-- a whole number is another one, or above it, or below it
by_difference : (x a d : ℤ) → x ≡ a +ℤ d
    → (x ≡ a) ⊎ (((n : ℕ) × (x ≡ a +ℤ pos (n + 1))) ⊎ ((n : ℕ) × (x ≡ a -ℤ pos (n + 1))))
by_difference x a (pos zero) e = inl (omega (arith, ints))
by_difference x a (pos (suc n)) e = inr (inl (n, omega (arith, ints)))
by_difference x a (negsuc n) e = inr (inr (n, omega (arith, ints)))

pub beside : (x a : ℤ) → (x ≡ a) ⊎ (((n : ℕ) × (x ≡ a +ℤ pos (n + 1))) ⊎ ((n : ℕ) × (x ≡ a -ℤ pos (n + 1))))
beside x a = by_difference x a (x -ℤ a) (omega (arith, ints))

-- a whole number is below another one or not
pub below_or_not : (a b : ℤ) → (a <ℤ b) ⊎ (b ≤ℤ a)
below_or_not a b = elim (beside a b) [
  | inl same ↦ inr (omega (arith, ints, same))
  | inr (inl (n, is)) ↦ inr (omega (arith, ints, is))
  | inr (inr (n, is)) ↦ inl (omega (arith, ints, is))
]

pub below_or_equal : (a b : ℤ) → a ≤ℤ b → (a <ℤ b) ⊎ (a ≡ b)
below_or_equal a b h = elim (below_or_not a b) [ inl less ↦ inl less | inr more ↦ inr (omega (arith, ints)) ]
