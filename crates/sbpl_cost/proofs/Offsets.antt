-- How large the offsets of cells can be.
use Rattle.std.proofs.Common.{◌≡◌, ℕ, suc, ℤ, pos, negsuc, ◌+◌, ◌*◌, ◌/◌, ◌^◌, ◌<◌, ◌≤◌, ◌+ℤ◌, ◌-ℤ◌, ◌*ℤ◌, ◌≤ℤ◌, ◌⊎◌}
use Rattle.std.proofs.Common.{inl, inr, Bool, true, false, cond, int_lt, refl, ap, subst, arith}
use lib.IntN.{neg_ℤ}
use Rattle.std.proofs.Math.Nat.{div-le_self, mul-le-mul}
use Rattle.std.specs.Int.RustNames.{unsigned_abs}
use Rattle.std.proofs.lemmas.Bool.{cases_lt}
use Rattle.std.specs.Int.{int_div_euclid}
use Rattle.std.proofs.lemmas.Int.{ints}
use Rattle.sbpl_sweep.specs.sbpl_cfg.Environment.{IsWithin}
use Rattle.sbpl_sweep.specs.sbpl_mprim.Primitives.{offset_cell}
use Rattle.sbpl_sweep.specs.sbpl_mprim.declared.prim.Primitive.{Primitive}
use Rattle.sbpl_sweep.specs.sbpl_mprim.Primitives.{IsPrimitive}
use Rattle.sbpl_sweep.specs.Sweep.{IsSwept, distance_to_cell}
use Rattle.sbpl_cost.proofs.Heads.{natural_part}

-- a quotient lies in the range from -(m + 1) to m where the number does
quotient_within : (z : ℤ) (n m : ℕ) → 1 ≤ n → IsWithin (negsuc m) (pos m) z
    → IsWithin (negsuc m) (pos m) (int_div_euclid z (pos n))
quotient_within (pos a) n m some h =
    let le : a / n ≤ a = div-le_self a n in (omega (arith, ints, h.1), omega (arith, ints, h.1))
quotient_within (negsuc a) n m some h =
    let le : a / n ≤ a = div-le_self a n in (omega (arith, ints, h.0), omega (arith, ints, h.0))

-- the cell of an offset is at most 4 * 10 ^ 12 cells away
pub offset_within : (cell x : ℤ) → IsWithin (pos 1) (pos 1000000000000) cell
    → IsWithin (negsuc 999999999999) (pos 1000000000000) x
    → IsWithin (negsuc 4000000000000) (pos 4000000000000) (offset_cell cell x)
offset_within cell x c h =
    let side = natural_part cell (omega (arith, ints, c.0)) in
    let some : 1 ≤ 2 * side.0 = omega (arith, ints, c.0, side.1) in
    let doubled : pos 2 *ℤ cell ≡ pos (2 * side.0) = ap (λ s. pos 2 *ℤ s) side.1 in
    let sum : IsWithin (negsuc 4000000000000) (pos 4000000000000) (cell +ℤ (pos 2 *ℤ x)) =
    (omega (arith, ints, c.0, c.1, h.0, h.1), omega (arith, ints, c.0, c.1, h.0, h.1)) in
    rw doubled (quotient_within (cell +ℤ (pos 2 *ℤ x)) (2 * side.0) 4000000000000 some sum)

-- a number is no further from zero than its product with a positive number
below_product : (a x : ℤ) (most : ℕ) → pos 1 ≤ℤ a → (a *ℤ x) ≤ℤ pos most → x ≤ℤ pos most
below_product (pos m) (pos n) most some h =
    let positive : 1 ≤ m = omega (arith, ints, some) in
    let same : n ≤ n = omega arith in
    let grows : 1 * n ≤ m * n = mul-le-mul positive same in
    let bound : pos (m * n) ≤ℤ pos most = h in
    omega (arith, ints)
below_product (pos m) (negsuc n) most some h = omega (arith, ints)
below_product (negsuc m) x most some h = absurd (omega (arith, ints, some))

above_product : (a x : ℤ) (most : ℕ) → pos 1 ≤ℤ a → negsuc most ≤ℤ (a *ℤ x) → negsuc most ≤ℤ x
above_product (pos m) (pos n) most some h = omega (arith, ints)
above_product (pos m) (negsuc n) most some h =
    let positive : 1 ≤ m = omega (arith, ints, some) in
    let same : suc n ≤ suc n = omega arith in
    let grows : 1 * suc n ≤ m * suc n = mul-le-mul positive same in
    let bound : negsuc most ≤ℤ neg_ℤ (pos (m * suc n)) = h in
    omega (arith, ints)
above_product (negsuc m) x most some h = absurd (omega (arith, ints, some))

-- what the distance from an interval says of its start and its end
start_by : (low p : ℤ) (b : Bool) (rest d : ℕ) → int_lt p low ≡ b
    → cond b (unsigned_abs (low -ℤ p)) rest < d → low ≤ℤ (p +ℤ pos d)
start_by low p true rest d e h = omega (arith, ints)
start_by low p false rest d e h = grind (arith, ints)

end_by : (low high p : ℤ) (b c : Bool) (d : ℕ) → int_lt p low ≡ b → int_lt high p ≡ c
    → cond b (unsigned_abs (low -ℤ p)) (cond c (unsigned_abs (p -ℤ high)) 0) < d → (p ≤ℤ (high +ℤ pos d)) ⊎ (p ≤ℤ low)
end_by low high p true c d e f h = inr (grind (arith, ints))
end_by low high p false true d e f h = inl (omega (arith, ints))
end_by low high p false false d e f h = inl (grind (arith, ints))

-- a cell that is near to a point is not far off
near_within : (cell offset x : ℤ) (reach : ℕ) → IsWithin (pos 1) (pos 1000000000000) cell
    → IsWithin (negsuc 999999999999) (pos 1000000000000) offset → reach ≤ 2 * 10 ^ 12
    → distance_to_cell cell offset x < reach → IsWithin (negsuc 10000000000000) (pos 10000000000000) x
near_within cell offset x reach c h few near =
    let low = pos 2 *ℤ cell *ℤ x in
    let high = pos 2 *ℤ cell *ℤ (x +ℤ pos 1) in
    let p = cell +ℤ pos 2 *ℤ offset in
    let some : pos 1 ≤ℤ (pos 2 *ℤ cell) = omega (arith, ints, c.0) in
    let start = start_by low p (int_lt p low) _ reach refl near in
    let right = below_product (pos 2 *ℤ cell) x 6000000000000 some (omega (arith, ints, c.1, h.1, start)) in
    let left : negsuc 10000000000000 ≤ℤ x =
    elim (end_by low high p (int_lt p low) (int_lt high p) reach refl refl near) [
      | inl end ↦
          let next =
          above_product (pos 2 *ℤ cell) (x +ℤ pos 1) 6000000000000 some (omega (arith, ints, c.0, h.0, end)) in
          omega (arith, ints, next)
      | inr after ↦
          let own = above_product (pos 2 *ℤ cell) x 6000000000000 some (omega (arith, ints, c.0, h.0, after)) in
          omega (arith, ints, own)
    ] in
    (left, omega (arith, ints, right))

less_by_squares : (d e r : ℕ) → d * d + e * e < r * r → d < r
less_by_squares d e r h = elim (cases_lt d r) [
  | inl less ↦ less
  | inr more ↦ let grows : r * r ≤ d * d = mul-le-mul more more in absurd (omega arith)
]

-- the cells that a motion sweeps are not far off
pub swept_within : (cell size : ℤ) (headings radius : ℕ) (p : Primitive) (x y : ℤ)
    → IsWithin (pos 1) (pos 1000000000000) cell → IsPrimitive size headings p → radius ≤ 10 ^ 12
    → IsSwept cell radius p.poses x y
    → IsWithin (negsuc 10000000000000) (pos 10000000000000) x × IsWithin (negsuc 10000000000000) (pos 10000000000000) y
swept_within cell size headings radius p x y c good few (inl centre) =
    let pose = good.poses centre.number centre.pose centre.stands in
    let P : ℤ → Type 0 = λ z. IsWithin (negsuc 4000000000000) (pos 4000000000000) z in
    let column = subst P centre.column (offset_within cell centre.pose.x c pose.x) in
    let row = subst P centre.row (offset_within cell centre.pose.y c pose.y) in (
      (omega (arith, ints, column.0), omega (arith, ints, column.1)),
      (omega (arith, ints, row.0), omega (arith, ints, row.1)),
    )
swept_within cell size headings radius p x y c good few (inr touched) =
    let pose = good.poses touched.number touched.pose touched.stands in
    let dx = distance_to_cell cell touched.pose.x x in
    let dy = distance_to_cell cell touched.pose.y y in
    let near_x = less_by_squares dx dy (2 * radius) touched.near in
    let near_y = less_by_squares dy dx (2 * radius) (omega (arith, touched.near)) in (
      near_within cell touched.pose.x x (2 * radius) c pose.x (omega arith) near_x,
      near_within cell touched.pose.y y (2 * radius) c pose.y (omega arith) near_y,
    )
