-- Counting numbers that pass a test.
use Rattle.std.proofs.Common.{◌≡◌, ℕ, zero, suc, ◌+◌, ◌<◌, ◌≤◌, Bool, true, false, inl, inr, nat_lt, ap, arith}
use Rattle.std.proofs.lemmas.Bool.{cases_eq, cases_lt, lt-ltb, le-ltb}

abbrev pub one_if : Bool → ℕ
one_if true = 1
one_if false = 0

-- how many numbers below n have a label below x
unfoldable pub count_below : (ℕ → ℕ) → ℕ → ℕ → ℕ
count_below g x zero = 0
count_below g x (suc n) = one_if (nat_lt (g n) x) + count_below g x n

-- no fewer are below a greater bound
one_grows : (a x y : ℕ) → x ≤ y → one_if (nat_lt a x) ≤ one_if (nat_lt a y)
one_grows a x y low = elim (cases_lt a x) [
  | inl less ↦
      let first : one_if (nat_lt a x) ≡ 1 = ap one_if (lt-ltb a x less) in
      let second : one_if (nat_lt a y) ≡ 1 = ap one_if (lt-ltb a y (omega arith)) in
      omega arith
  | inr more ↦ let first : one_if (nat_lt a x) ≡ 0 = ap one_if (le-ltb a x more) in omega arith
]

pub count_grows : (g : ℕ → ℕ) (x y n : ℕ) → x ≤ y → count_below g x n ≤ count_below g y n
unfolding count_below
count_grows g x y zero low = omega arith
count_grows g x y (suc n) low = let rest = count_grows g x y n low in omega (arith, one_grows (g n) x y low)

-- and more where a label lies between
pub count_more : (g : ℕ → ℕ) (x y n q : ℕ) → q < n → x ≤ g q → g q < y → count_below g x n + 1 ≤ count_below g y n
unfolding count_below
count_more g x y zero q inside low high = absurd (omega arith)
count_more g x y (suc n) q inside low high = elim (cases_eq n q) [
  | inl at ↦
      let same : g n ≡ g q = ap g at in
      let rest = count_grows g x y n (omega arith) in
      let first : one_if (nat_lt (g n) x) ≡ 0 = ap one_if (le-ltb (g n) x (omega arith)) in
      let second : one_if (nat_lt (g n) y) ≡ 1 = ap one_if (lt-ltb (g n) y (omega arith)) in
      omega arith
  | inr beside ↦
      let rest = count_more g x y n q (omega arith) low high in
      omega (arith, one_grows (g n) x y (omega arith))
]

one_most : (b : Bool) → one_if b ≤ 1
one_most true = omega arith
one_most false = omega arith

-- no more than all
pub count_most : (g : ℕ → ℕ) (x n : ℕ) → count_below g x n ≤ n
unfolding count_below
count_most g x zero = omega arith
count_most g x (suc n) = let rest = count_most g x n in omega (arith, one_most (nat_lt (g n) x))
