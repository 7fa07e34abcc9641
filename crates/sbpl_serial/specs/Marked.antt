-- Sets of states as lists of tests.
use Rattle.std.specs.Prelude.{ℕ, ◌<◌, ◌≤◌, Bool, false, List, length, slice_index, slice_index_or}

-- whether a state is among the closed ones
abbrev pub closed_at : List Bool → ℕ → Bool
closed_at closed s = slice_index_or closed s false

-- no mark is above the number of the pass
abbrev pub AreMarks : List ℕ → ℕ → Type 0
AreMarks marks pass = (s : ℕ) → s < length marks → slice_index marks s ≤ pass
