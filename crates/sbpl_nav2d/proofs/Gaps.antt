-- Octile distances are lower bounds.
use Rattle.std.proofs.Common.{◌≡◌, ℕ, ℤ, pos, negsuc, ◌+◌, ◌^◌, ◌<◌, ◌≤◌, ◌+ℤ◌, ◌≤ℤ◌, ◌⊎◌, inl, inr, arith}
use Rattle.std.specs.Int.{abs_diff}
use Rattle.std.proofs.lemmas.Int.{ints}
use Rattle.sbpl_nav2d.specs.declared.cell.Cell.{Cell}
use Rattle.sbpl_nav2d.specs.Directions.{IsStep}
use Rattle.sbpl_nav2d.specs.Gap.{octile}

-- ---- one step

diagonal : (p q p' q' : ℕ) → p ≤ p' + 1 → q ≤ q' + 1 → octile p q ≤ 1414 + octile p' q'
diagonal p q p' q' a b = omega arith

along_x : (p q p' q' : ℕ) → p ≤ p' + 1 → q ≤ q' → octile p q ≤ 1000 + octile p' q'
along_x p q p' q' a b = omega arith

along_y : (p q p' q' : ℕ) → p ≤ p' → q ≤ q' + 1 → octile p q ≤ 1000 + octile p' q'
along_y p q p' q' a b = omega arith

-- the differences to a third number of two numbers that are one apart
near : (a a' b : ℕ) (d : ℤ) → (pos a +ℤ d) ≡ pos a' → negsuc 0 ≤ℤ d → d ≤ℤ pos 1 → abs_diff a b ≤ abs_diff a' b + 1
near a a' b d e low high = let above : a' ≤ a + 1 = omega (arith, ints) in let below : a ≤ a' + 1 =
    omega (arith, ints) in omega arith

same : (a a' b : ℕ) (d : ℤ) → (pos a +ℤ d) ≡ pos a' → d ≡ pos 0 → abs_diff a b ≤ abs_diff a' b
same a a' b d e zero = let equal : a ≡ a' = omega (arith, ints) in omega arith

-- a step of a cell, by its length
pub step_along : (xs xt xb ys yt yb c : ℕ) (d : Cell) → (pos xs +ℤ d.x) ≡ pos xt → (pos ys +ℤ d.y) ≡ pos yt → IsStep d
    → 1414 ≤ c
    → octile (abs_diff xs xb) (abs_diff ys yb) ≤ c + octile (abs_diff xt xb) (abs_diff yt yb)
step_along xs xt xb ys yt yb c d x y step cost =
    let bound = diagonal (abs_diff xs xb) (abs_diff ys yb) (abs_diff xt xb) (abs_diff yt yb)
    (near xs xt xb d.x x step.0.0 step.0.1) (near ys yt yb d.y y step.1.0 step.1.1) in
    omega (arith, bound)

pub straight_along : (xs xt xb ys yt yb c : ℕ) (d : Cell) → (pos xs +ℤ d.x) ≡ pos xt → (pos ys +ℤ d.y) ≡ pos yt
    → IsStep d → 1000 ≤ c → (d.x ≡ pos 0) ⊎ (d.y ≡ pos 0)
    → octile (abs_diff xs xb) (abs_diff ys yb) ≤ c + octile (abs_diff xt xb) (abs_diff yt yb)
straight_along xs xt xb ys yt yb c d x y step cost (inl none) =
    let bound = along_y (abs_diff xs xb) (abs_diff ys yb) (abs_diff xt xb) (abs_diff yt yb) (same xs xt xb d.x x none)
    (near ys yt yb d.y y step.1.0 step.1.1) in
    omega (arith, bound)
straight_along xs xt xb ys yt yb c d x y step cost (inr none) =
    let bound = along_x (abs_diff xs xb) (abs_diff ys yb) (abs_diff xt xb) (abs_diff yt yb)
    (near xs xt xb d.x x step.0.0 step.0.1) (same ys yt yb d.y y none) in
    omega (arith, bound)

-- ---- small

pub octile_small : (p q : ℕ) → p ≤ 4294967296 → q ≤ 4294967296 → octile p q < 2 ^ 55
octile_small p q a b = omega arith

pub apart_small : (a b : ℕ) → a ≤ 4294967296 → b ≤ 4294967296 → abs_diff a b ≤ 4294967296
apart_small a b h k = omega arith

pub octile_none : (a b : ℕ) → octile (abs_diff a a) (abs_diff b b) ≡ 0
octile_none a b = omega arith
