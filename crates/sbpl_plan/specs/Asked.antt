-- What a plan is asked for.
use Rattle.std.specs.Prelude.{ℕ, ◌+◌, ◌-◌, ◌/◌, ◌≤◌, max}
use Rattle.sbpl_plan.specs.declared.ask.Ask.{Ask}

-- inflations and the bound lie in their ranges
pub record IsAsk (ask : Ask) : Type 0 where
  pub first_low : 1000 ≤ ask.first
  pub first_high : ask.first ≤ 100000
  pub step_low : 1 ≤ ask.step
  pub step_high : ask.step ≤ 99000
  pub bound_low : 1000 ≤ ask.bound

-- the inflation of the pass after one of this inflation: lower by the step, and never below 1000
abbrev pub lowered : (step eps : ℕ) → ℕ
lowered step eps = max 1000 (eps - step)

-- how many passes there can be from this inflation on
abbrev pub most_passes : (step eps : ℕ) → ℕ
most_passes step eps = (eps - 1000 + (step - 1)) / step + 1

-- no plan makes more passes: the first inflation is at most 100.000, and falls by at least 0.001
abbrev pub MOST_PASSES : ℕ
MOST_PASSES = 99001
