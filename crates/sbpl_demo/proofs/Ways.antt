-- Poses on a straight way.
use Rattle.std.proofs.Common.{◌≡◌, ℕ, ℤ, pos, negsuc, neg_ℤ, ◌+◌, ◌*◌, ◌≤◌, ◌<ℤ◌, ◌≤ℤ◌, ◌-ℤ◌, SFits, w32, to_z, of_z}
use Rattle.std.proofs.Common.{refl, arith, rules}
use Rattle.std.specs.Int.RustNames.{unsigned_abs}
use Rattle.std.proofs.lemmas.Int.{ints, to_z-of_z, to_z_pos}
use Rattle.sbpl_demo.specs.Primitives.{along, nearest_ninth}

pub small_up : (r : ℕ) → r ≤ 2000 → to_z w32 r ≡ pos r
small_up r h = to_z_pos w32 r (omega arith)

minus : (m : ℕ) → pos 0 -ℤ pos m ≡ neg_ℤ (pos m)
minus m = omega (arith, ints)

fits_down : (r : ℕ) → r ≤ 2000 → SFits w32 (pos 0 -ℤ pos r)
fits_down r h = search rules

pub small_down : (r : ℕ) → r ≤ 2000 → to_z w32 (of_z w32 (pos 0 -ℤ to_z w32 r)) ≡ pos 0 -ℤ pos r
small_down r h = rw (small_up r h) (to_z-of_z w32 (pos 0 -ℤ pos r) (fits_down r h))

pub along_up : (z : ℤ) (j : ℕ) → pos 0 ≤ℤ z → pos (nearest_ninth (250 * (unsigned_abs z * j))) ≡ along z j
unfolding along
along_up (pos n) j h = refl
along_up (negsuc n) j h = absurd (omega (arith, ints))

pub along_down : (z : ℤ) (j : ℕ) → z <ℤ pos 0 → pos 0 -ℤ pos (nearest_ninth (250 * (unsigned_abs z * j))) ≡ along z j
unfolding along
along_down (pos n) j h = absurd (omega (arith, ints))
along_down (negsuc n) j h =
    let e : unsigned_abs (negsuc n) ≡ n + 1 = omega (arith, ints) in
    rw e (minus (nearest_ninth (250 * ((n + 1) * j))))
