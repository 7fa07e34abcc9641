-- Roots and quotients, rounded up.
use Rattle.std.proofs.Common.{◌≡◌, ℕ, zero, suc, ◌+◌, ◌-◌, ◌*◌, ◌/◌, ◌<◌, ◌≤◌, Bool, true, false, nat_le, if◌then◌else◌}
use Rattle.std.proofs.Common.{refl, arith, inl, inr}
use Rattle.std.proofs.Math.Nat.{mul-le-mul}
use Rattle.std.proofs.lemmas.Bool.{cases_lt, leb-true, leb-false}
use Rattle.std.proofs.lemmas.Nat.{div_below, div-add-mod', mod_below}
use Rattle.sbpl_cost.specs.PrimitiveCost.{root_above, ceiling, IsLeast}

-- a square that is above another has the greater root
pub root_below : (a b : ℕ) → a * a < b * b → a < b
root_below a b h = elim (cases_lt a b) [ inl lt ↦ lt | inr le ↦ absurd (let s = mul-le-mul le le in omega arith) ]

root_step : (b : Bool) (n r : ℕ) → nat_le (suc n) (r * r) ≡ b → IsLeast (λ s. n ≤ s * s) r
    → IsLeast (λ s. suc n ≤ s * s) (if b then r else r + 1)
root_step true n r enough is = record {
  holds = leb-true (suc n) (r * r) enough;
  least = λ s h. is.least s (omega arith);
}
root_step false n r short is = record {
  holds = let h = is.holds in omega arith;
  least = λ s h. let lt : r * r < suc n = leb-false (suc n) (r * r) short in
      let l : r < s = root_below r s (omega arith) in omega arith;
}

pub root_above-least : (n : ℕ) → IsLeast (λ r. n ≤ r * r) (root_above n)
unfolding root_above
root_above-least zero = record { holds = omega arith; least = λ s h. omega arith }
root_above-least (suc n) =
    root_step (nat_le (suc n) (root_above n * root_above n)) n (root_above n) refl (root_above-least n)

-- the root that a search finds is the root
pub root_above-is : (n m r : ℕ) → m ≡ n → m ≤ r * r → ((s : ℕ) → m ≤ s * s → r ≤ s) → r ≡ root_above n
root_above-is n m r same holds least =
    let root = root_above-least n in
    let low = root.least r (omega arith) in
    let enough = root.holds in
    let high = least (root_above n) (omega arith) in
    omega arith

pub ceiling-least : (a b : ℕ) → 0 < b → IsLeast (λ q. a ≤ q * b) (ceiling a b)
ceiling-least a b some = record {
  holds = let e = div-add-mod' (a + (b - 1)) b in let r = mod_below (a + (b - 1)) b some in omega (arith, e, r);
  least =
      λ q h. let l : (a + (b - 1)) / b < q + 1 = div_below (a + (b - 1)) b (q + 1) some (omega arith) in omega arith;
}

-- the quotient that a search finds is the quotient
pub ceiling-is : (a b m n q : ℕ) → m ≡ a → n ≡ b → 0 < b → m ≤ q * n → ((s : ℕ) → m ≤ s * n → q ≤ s) → q ≡ ceiling a b
ceiling-is a b m n q same_a same_b some holds least =
    let up = ceiling-least a b some in
    let low = up.least q (rw (← same_a, ← same_b) holds) in
    let high = least (ceiling a b) (rw (same_a, same_b) up.holds) in
    omega arith
