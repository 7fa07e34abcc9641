-- Where a point lies among cells, and which cells beyond its own begin near it.
use Rattle.std.proofs.Common.{ℕ, ℤ, pos, negsuc, ◌+◌, ◌*◌, ◌/◌, ◌-◌, ◌<◌, ◌≤◌, inl, inr, arith}
use Rattle.std.proofs.lemmas.Bool.{cases_lt}
use Rattle.std.proofs.Math.Nat.{div-le_self, mul-le-mul_left, mul-le-mul}
use Rattle.std.specs.Int.{int_div_euclid}
use Rattle.std.proofs.lemmas.Int.{ints}
use Rattle.sbpl_mprim.specs.sbpl_cfg.Environment.{IsWithin}
use Rattle.sbpl_sweep.specs.Reach.{squared_step, IsReach}

-- a quotient lies in the range from -(m + 1) to m + 1 where the number does
pub quotient_within : (z : ℤ) (n m : ℕ) → 1 ≤ n → IsWithin (negsuc m) (pos (m + 1)) z
    → IsWithin (negsuc m) (pos (m + 1)) (int_div_euclid z (pos n))
quotient_within (pos a) n m some h =
    let le : a / n ≤ a = div-le_self a n in (omega (arith, ints, h.1), omega (arith, ints, h.1))
quotient_within (negsuc a) n m some h =
    let le : a / n ≤ a = div-le_self a n in (omega (arith, ints, h.0), omega (arith, ints, h.0))

-- the greater of two numbers has the greater square
pub square_le : (a b : ℕ) → a ≤ b → a * a ≤ b * b
square_le a b h = mul-le-mul h h

pub square_lt : (a b : ℕ) → a < b → a * a < b * b
square_lt a b h = let le = square_le (a + 1) b (omega arith) in omega (arith, le)

pub root_lt : (a b : ℕ) → a * a < b * b → a < b
root_lt a b h =
    elim (cases_lt a b) [ inl less ↦ less | inr more ↦ absurd (let le = square_le b a more in omega (arith, le)) ]

-- a count of cells by their distances is one by the squares of their distances
pub reach_from : (gap side radius count : ℕ) → ((n : ℕ) → n < count → gap + side * n < radius)
    → ((n : ℕ) → count ≤ n → radius ≤ gap + side * n) → IsReach gap side (radius * radius) count
reach_from gap side radius count near far = record {
  reached = λ n h. square_lt (gap + side * n) radius (near n h);
  beyond = λ n h. square_le radius (gap + side * n) (far n h);
}

pub reach_by_quotient : (gap side radius count : ℕ) → gap < radius → radius - gap ≤ count * side
    → count * side < radius - gap + side → IsReach gap side (radius * radius) count
reach_by_quotient gap side radius count some enough least = reach_from gap side radius count
    (λ n h. let le = mul-le-mul_left {m = n + 1} {n = count} side (omega arith) in omega (arith, le))
    (λ n h. let le = mul-le-mul_left {m = count} {n = n} side h in omega (arith, le))

-- where the last of some cells is reached, all are
pub reach_to_last : (gap side most count : ℕ) → 0 < count → squared_step gap side (count - 1) < most
    → ((n : ℕ) → count ≤ n → most ≤ squared_step gap side n) → IsReach gap side most count
reach_to_last gap side most count some last beyond = record {
  reached = λ n h.
      let le = mul-le-mul_left {m = n} {n = count - 1} side (omega arith) in
      let squares = square_le (gap + side * n) (gap + side * (count - 1)) (omega (arith, le)) in
      omega (arith, squares);
  beyond = beyond;
}
