-- The bound of a path is a quotient rounded up, and at least one whole.
use Rattle.std.proofs.Common.{◌≡◌, ℕ, ◌+◌, ◌*◌, ◌<◌, ◌≤◌, max, arith, ⊎_elim}
use Rattle.std.proofs.Math.Nat.{mul-le-mul_right}
use Rattle.std.proofs.lemmas.Bool.{cases_lt}
use Rattle.std.proofs.lemmas.Grind.{div_ceil_times}
use Rattle.std.specs.Int.{div_ceil}
use Rattle.sbpl_graph.specs.Bound.{IsBound}

pub bound_rounded_up : (cost low q b : ℕ) → 0 < low → q ≡ div_ceil (1000 * cost) low
    → b ≡ max q 1000 → IsBound cost low b
bound_rounded_up cost low q b some quotient greater =
    let above : 1000 * cost ≤ q * low = rw quotient (div_ceil_times (1000 * cost) low some).0 in
    let below : q * low < 1000 * cost + low = rw quotient (div_ceil_times (1000 * cost) low some).1 in
    record {
      at_least_one = omega arith;
      reaches = let more : q ≤ b = omega arith in omega (arith, mul-le-mul_right low more);
      least = λ a one enough.
          let at_quotient : q ≤ a =
          ⊎_elim (λ (short : a < q). let next : a + 1 ≤ q = omega arith in
          absurd (omega (arith, mul-le-mul_right low next))) (λ (h : q ≤ a). h) (cases_lt a q) in
          omega arith;
    }
