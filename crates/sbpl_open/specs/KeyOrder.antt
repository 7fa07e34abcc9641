-- The order of open states by their keys.
use Rattle.std.specs.Prelude.{◌≡◌, ℕ, ◌<◌, ◌⊎◌}

-- a key has two parts, and keys compare by the first, then by the second
abbrev pub IsBelow : ℕ × ℕ → ℕ × ℕ → Type 0
IsBelow a b = (a.0 < b.0) ⊎ ((a.0 ≡ b.0) × (a.1 < b.1))

-- state s of key a comes before state u of key b: its key is below, or the keys are alike and its number is lower
abbrev pub ComesBefore : ℕ × ℕ → ℕ → ℕ × ℕ → ℕ → Type 0
ComesBefore a s b u = IsBelow a b ⊎ ((a.0 ≡ b.0) × (a.1 ≡ b.1) × (s < u))
