-- The numbers of an environment file of a grid, and which of them it may give.
use Rattle.std.specs.Prelude.{ℕ, ◌*◌, ◌/◌, ◌%◌, ◌<◌, ◌≤◌}

-- the numbers of an environment file of a grid; its start and its end are states
pub record NavEnvironment : Type 0 where
  pub width : ℕ
  pub height : ℕ
  pub obsthresh : ℕ
  pub start : ℕ
  pub end : ℕ

-- the column and the row of a state: states are the cells, numbered row by row
abbrev pub column_of : (width : ℕ) → (state : ℕ) → ℕ
column_of width s = s % width

abbrev pub row_of : (width : ℕ) → (state : ℕ) → ℕ
row_of width s = s / width

-- each number lies in its range, there are at most 2 ^ 28 states, and the start and the end are states
pub record IsNavEnvironment (e : NavEnvironment) : Type 0 where
  pub width : (1 ≤ e.width) × (e.width ≤ 268435456)
  pub height : (1 ≤ e.height) × (e.height ≤ 268435456)
  pub obsthresh : e.obsthresh ≤ 255
  pub states : e.width * e.height ≤ 268435456
  pub start : e.start < e.width * e.height
  pub end : e.end < e.width * e.height
