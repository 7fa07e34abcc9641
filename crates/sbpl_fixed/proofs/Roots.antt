-- Squares and powers of two.
use Rattle.std.proofs.Common.{◌≡◌, ℕ, ◌+◌, ◌-◌, ◌*◌, ◌/◌, ◌%◌, ◌^◌, ◌<◌, ◌≤◌, refl, arith, inl, inr}
use Rattle.std.proofs.lemmas.Bool.{cases_lt}
use Rattle.std.proofs.lemmas.Nat.{mul-le, pow-add}
use Rattle.std.proofs.Math.Pow.{pow_mono}
use Rattle.std.proofs.lemmas.Grind.{one_shifted, pow_more}

pub square_mono : (a b : ℕ) → a ≤ b → a * a ≤ b * b
square_mono a b h = mul-le a a b b h h

pub short_power : (m b : ℕ) → 2 ^ b ≤ m → m < 2 ^ 126 → b < 126
short_power m b small high =
    elim (cases_lt b 126) [
      | inl lt ↦ lt
      | inr le ↦ absurd (let p : 2 ^ 126 ≤ 2 ^ b = pow_mono le in omega arith)
    ]

-- what `1 << k` is
pub shifted : (k : ℕ) → k < 64 → (1 * 2 ^ k % 18446744073709551616 ≡ 2 ^ k) × (0 < 2 ^ k)
shifted k lt = one_shifted k 18446744073709551615 refl lt

pub power_enough : (n b : ℕ) → 0 < n → n - 1 < 2 * 2 ^ b → n ≤ 2 ^ (b / 2 + 1) * 2 ^ (b / 2 + 1)
power_enough n b some lt =
    let k = b / 2 + 1 in
    let p : 2 ^ (b + 1) ≤ 2 ^ (k + k) = pow_mono (omega arith) in
    let q : 2 ^ (k + k) ≡ 2 ^ k * 2 ^ k = pow-add 2 k k in
    let r : 2 ^ (b + 1) ≡ 2 ^ b * 2 = pow_more 2 b in
    omega (arith, p, q, r)
