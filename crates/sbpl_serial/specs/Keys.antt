-- The keys by which open states are ordered.
use Rattle.std.specs.Prelude.{ℕ, ◌+◌, ◌*◌, nat_lt, if◌then◌else◌}

-- the key of a state with g < v: its guide is inflated by eps thousandths
abbrev pub over_key : (eps g h : ℕ) → ℕ × ℕ
over_key eps g h = (1000 * g + eps * h, g)

-- the key of a state with v < g: its guide is not inflated
abbrev pub under_key : (v h : ℕ) → ℕ × ℕ
under_key v h = (1000 * (v + h), v)

-- the key of a state whose g and v differ
abbrev pub key_of : (eps g v h : ℕ) → ℕ × ℕ
key_of eps g v h = if nat_lt g v then over_key eps g h else under_key v h

-- the key that the goal has by its g alone
abbrev pub goal_key : ℕ → ℕ × ℕ
goal_key g = (1000 * g, g)
