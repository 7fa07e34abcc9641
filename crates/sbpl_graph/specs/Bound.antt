-- The bound of a path in thousandths, and the low that labels give.
use Rattle.std.specs.Prelude.{◌≢◌, ℕ, ◌+◌, ◌*◌, ◌<◌, ◌≤◌}

-- b is the least number of thousandths, at least one whole, that low times b reaches the cost
pub record IsBound (cost low b : ℕ) : Type 0 where
  pub at_least_one : 1000 ≤ b
  pub reaches : 1000 * cost ≤ b * low
  pub least : (a : ℕ) → 1000 ≤ a → 1000 * cost ≤ a * low → b ≤ a

-- low is the least of g at the goal and of g + h over the states whose g and v differ
pub record IsLow (states goal : ℕ) (g v h : ℕ → ℕ) (low : ℕ) : Type 0 where
  pub at_goal : low ≤ g goal
  pub unsettled : (s : ℕ) → s < states → v s ≢ g s → low ≤ g s + h s
  pub greatest : (x : ℕ) → x ≤ g goal → ((s : ℕ) → s < states → v s ≢ g s → x ≤ g s + h s) → x ≤ low
