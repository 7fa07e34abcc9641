-- What cells, turns and headings are, in plain words.
use Rattle.std.proofs.Common.{◌≡◌, ℕ, ℤ, pos, negsuc, zero, suc, ◌+◌, ◌*◌, ◌/◌, ◌%◌, ◌<◌, ◌≤◌, ◌<ℤ◌, ◌⊎◌, inl, inr, sym}
use Rattle.std.proofs.Common.{ap, subst, arith}
use Rattle.std.proofs.Math.Nat.{add-mod_right, div-eq_of_lt-le, eq-or-lt_of_le, mod-eq_of_lt, mod_self, mul-le-mul_left}
use Rattle.std.proofs.lemmas.Int.{ints}
use Rattle.sbpl_cfg.specs.Place.{cell_of, heading_of, turn_of, full_turn, IsCellOf, IsInBin, IsTurnOf}

pub IsCellOf-cell_of : (size x : ℤ) → pos 0 <ℤ size → IsCellOf size x (cell_of size x)
IsCellOf-cell_of (pos s) (pos a) some = record { from = omega (arith, ints); to = omega (arith, ints) }
IsCellOf-cell_of (pos s) (negsuc a) some = record { from = omega (arith, ints); to = omega (arith, ints) }
IsCellOf-cell_of (negsuc s) x some = absurd (omega (arith, ints))

quotient : (s a m : ℕ) → m * s ≤ a → a < (m + 1) * s → a / s ≡ m
quotient s a m low high = div-eq_of_lt-le s low high

pub cell_of_is : (size x q : ℤ) → pos 0 <ℤ size → IsCellOf size x q → cell_of size x ≡ q
cell_of_is (pos s) (pos a) (pos m) some h =
    let low = h.from in let high = h.to in
    ap pos (quotient s a m (omega (arith, ints)) (omega (arith, ints)))
cell_of_is (pos s) (pos a) (negsuc zero) some h = let high = h.to in absurd (omega (arith, ints))
cell_of_is (pos s) (pos a) (negsuc (suc m)) some h = let high = h.to in absurd (omega (arith, ints))
cell_of_is (pos s) (negsuc a) (pos m) some h = let low = h.from in absurd (omega (arith, ints))
cell_of_is (pos s) (negsuc a) (negsuc zero) some h =
    let low = h.from in
    ap negsuc (quotient s a zero (omega arith) (omega (arith, ints)))
cell_of_is (pos s) (negsuc a) (negsuc (suc m)) some h =
    let low = h.from in let high = h.to in
    ap negsuc (quotient s a (suc m) (omega (arith, ints)) (omega (arith, ints)))
cell_of_is (negsuc s) x q some h = absurd (omega (arith, ints))

pub IsTurnOf-turn_of : (a : ℤ) → IsTurnOf a (turn_of a)
IsTurnOf-turn_of (pos a) = record { within = omega arith; apart = (pos (a / full_turn), omega (arith, ints)) }
IsTurnOf-turn_of (negsuc a) = record { within = omega arith; apart = (negsuc (a / full_turn), omega (arith, ints)) }

-- the bin before the last step, which may be that of the next turn
bin_of : ℕ → ℕ → ℕ
bin_of n b = (2 * n * b + full_turn) / (2 * full_turn)

bin-le : (n b : ℕ) → b < full_turn → bin_of n b ≤ n
unfolding bin_of
bin-le n b h = omega (arith, mul-le-mul_left n h)

wrapped : (n c : ℕ) → 0 < n → c ≤ n → (c ≡ c % n) ⊎ (c ≡ c % n + n)
wrapped n c some h = elim (eq-or-lt_of_le h) [
  | inl at ↦ inr (subst (λ m. m ≡ m % n + n) (sym at) (omega (arith, mod_self n)))
  | inr below ↦ inl (sym (mod-eq_of_lt below))
]

pub IsInBin-heading_of : (n : ℕ) (a : ℤ) → 0 < n → IsInBin n (heading_of n a) (turn_of a)
unfolding heading_of bin_of
IsInBin-heading_of n a some =
    let small = (IsTurnOf-turn_of a).within in
    record {
      centre = bin_of n (turn_of a);
      heading = wrapped n _ some (bin-le n (turn_of a) small);
      from = omega arith;
      to = omega arith;
    }

pub heading_of_is : (n t : ℕ) (a : ℤ) → t < n → IsInBin n t (turn_of a) → heading_of n a ≡ t
unfolding heading_of
heading_of_is n t a small h =
    let low = h.from in let high = h.to in
    let e : (2 * n * turn_of a + full_turn) / (2 * full_turn) ≡ h.centre =
    quotient (2 * full_turn) _ h.centre (omega arith) (omega arith) in
    rw e (elim h.heading [
      | inl here ↦ rw here (mod-eq_of_lt small)
      | inr further ↦ rw (further, add-mod_right) (mod-eq_of_lt small)
    ])

pub heading_of-lt : (n : ℕ) (a : ℤ) → 0 < n → heading_of n a < n
unfolding heading_of
heading_of-lt n a some = omega arith
