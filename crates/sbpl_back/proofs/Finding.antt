-- The number that an arc has among the tails of its head.
use Rattle.std.proofs.Common.{◌≡◌, ℕ, zero, suc, ◌+◌, ◌<◌, ◌≤◌, ◌==◌, Bool, true, false, cond, inl, inr, Option, Some}
use Rattle.std.proofs.Common.{None, refl, ap, sym, ◌∙◌, arith}
use Rattle.std.specs.List.{find, range_with_len}
use Rattle.std.proofs.lemmas.Bool.{and_parts, and_from, cases_lt, eqb-true, eq-eqb, false≢true}
use Rattle.std.proofs.lemmas.Grind.{not_there}
use Rattle.std.proofs.lemmas.Option.{none-some, same_Some}
use Rattle.sbpl_cost.specs.sbpl_graph.Network.{Network, IsArc}
use Rattle.sbpl_cost.specs.sbpl_graph.Laws.{HasExactTails, IsTail}
use Rattle.sbpl_back.specs.Reversed.{is_arc, tail_number}

-- ---- the first number that passes a test

pub record IsFound (test : ℕ → Bool) (a m j : ℕ) : Type 0 where
  pub passes : test j ≡ true
  pub from : a ≤ j
  pub below : j < a + m

found_by : (test : ℕ → Bool) (a m j : ℕ) (b : Bool) → test a ≡ b
    → (find test (range_with_len (a + 1) m) ≡ Some j → IsFound test (a + 1) m j)
    → cond b (Some a) (find test (range_with_len (a + 1) m)) ≡ Some j → IsFound test a (suc m) j
found_by test a m j true is later h =
    let same = same_Some a j h in
    record { passes = ap test (sym same) ∙ is; from = omega (arith, same); below = omega (arith, same) }
found_by test a m j false is later h =
    let f = later h in
    record { passes = f.passes; from = omega (arith, f.from); below = omega (arith, f.below) }

pub found : (test : ℕ → Bool) (a m j : ℕ) → find test (range_with_len a m) ≡ Some j → IsFound test a m j
found test a zero j h = absurd (none-some j h)
found test a (suc m) j h = found_by test a m j (test a) refl (found test (a + 1) m j) h

missed_by : (test : ℕ → Bool) (a m j : ℕ) (b : Bool) → test a ≡ b
    → (find test (range_with_len (a + 1) m) ≡ None → a + 1 ≤ j → j < a + 1 + m → test j ≡ false)
    → cond b (Some a) (find test (range_with_len (a + 1) m)) ≡ None → a ≤ j → j < a + suc m → test j ≡ false
missed_by test a m j true is later h from below = absurd (none-some a (sym h))
missed_by test a m j false is later h from below = elim (cases_lt a j) [
  | inl after ↦ later h (omega (arith, after)) (omega (arith, below))
  | inr here ↦ let same : j ≡ a = omega (arith, here, from) in ap test same ∙ is
]

pub missed : (test : ℕ → Bool) (a m j : ℕ) → find test (range_with_len a m) ≡ None → a ≤ j → j < a + m → test j ≡ false
missed test a zero j h from below = absurd (omega (arith, from, below))
missed test a (suc m) j h from below = missed_by test a m j (test a) refl (missed test (a + 1) m j) h from below

-- ---- arcs among tails

pub arc_is : (s k : ℕ) (tail : Option (ℕ × ℕ)) → is_arc s k tail ≡ true → tail ≡ Some (s, k)
arc_is s k None h = absurd (false≢true h)
arc_is s k (Some a) h =
    let parts = and_parts (a.0 == s) (a.1 == k) h in
    let source = eqb-true a.0 s parts.0 in
    let number = eqb-true a.1 k parts.1 in
    ap (λ (x : ℕ). Some (x, a.1)) source ∙ ap (λ (x : ℕ). Some (s, x)) number

pub is_the_arc : (s k : ℕ) (tail : Option (ℕ × ℕ)) → tail ≡ Some (s, k) → is_arc s k tail ≡ true
is_the_arc s k tail h = ap (is_arc s k) h ∙ and_from (s == s) (k == k) (eq-eqb s s refl) (eq-eqb k k refl)

module _ (n : Network) (tails : HasExactTails n) (s k t : ℕ) where
  test : ℕ → Bool
  test j = is_arc s k (n.tail t j)

  pub number_is_tail : t < n.states → (j : ℕ) → tail_number n s k t ≡ Some j → IsTail n t j s k
  unfolding tail_number test
  number_is_tail state j h =
      let f = found test 0 (n.tail_fan t) j h in
      record { target = state; number = omega (arith, f.below); tail = arc_is s k (n.tail t j) f.passes }

  not_missed : (j : ℕ) → IsTail n t j s k → tail_number n s k t ≡ None → ⊥
  unfolding tail_number test
  not_missed j tail h =
      let no = missed test 0 (n.tail_fan t) j h (omega arith) (omega (arith, tail.number)) in
      let yes = is_the_arc s k (n.tail t j) tail.tail in
      false≢true (sym no ∙ yes)

  -- an arc has a number among the tails of its head
  numbered_by : (o : Option ℕ) → tail_number n s k t ≡ o → IsArc n s k t → (j : ℕ) × (tail_number n s k t ≡ Some j)
  numbered_by None h arc = absurd (not_there (tails.arcs_are_tails t s k arc) (λ at. not_missed at.0 at.1 h))
  numbered_by (Some j) h arc = (j, h)

  pub numbered : IsArc n s k t → (j : ℕ) × (tail_number n s k t ≡ Some j)
  numbered arc = numbered_by (tail_number n s k t) refl arc

  -- and this is the one
  pub number_of_tail : (j : ℕ) → IsTail n t j s k → tail_number n s k t ≡ Some j
  number_of_tail j tail =
      let at = numbered (tails.tails_are_arcs t j s k tail) in
      at.1 ∙ ap (λ i. Some i) (tails.tails_differ t at.0 j s k (number_is_tail tail.target at.0 at.1) tail)
