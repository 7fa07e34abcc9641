-- Cells of coordinates and headings of angles.
use Rattle.std.specs.Prelude.{◌≡◌, ℕ, ℤ, pos, ◌+◌, ◌*◌, ◌/◌, ◌%◌, ◌<◌, ◌≤◌, ◌+ℤ◌, ◌*ℤ◌, ◌≤ℤ◌, ◌<ℤ◌, ◌⊎◌}
use Rattle.std.specs.Int.{int_div_euclid, int_rem_euclid}
use Rattle.std.specs.Int.RustNames.{unsigned_abs}

-- the cell of a coordinate: the floor of the coordinate divided by the size, also below zero
abbrev pub cell_of : ℤ → ℤ → ℤ
cell_of size x = int_div_euclid x size

-- cell q begins at q times the size, and the next cell begins one size further
pub record IsCellOf (size x q : ℤ) : Type 0 where
  pub from : (q *ℤ size) ≤ℤ x
  pub to : x <ℤ ((q *ℤ size) +ℤ size)

-- a full turn, in nanoradians
abbrev pub full_turn : ℕ
full_turn = 6283185307

-- an angle within one turn, never negative
abbrev pub turn_of : ℤ → ℕ
turn_of a = unsigned_abs (int_rem_euclid a (pos full_turn))

-- b is the angle within one turn, and they differ by whole turns
pub record IsTurnOf (a : ℤ) (b : ℕ) : Type 0 where
  pub within : b < full_turn
  pub apart : (k : ℤ) × (a ≡ (pos b +ℤ (k *ℤ pos full_turn)))

-- the heading of an angle among n: the nearest bin
unfoldable pub heading_of : ℕ → ℤ → ℕ
heading_of n a = (2 * n * turn_of a + full_turn) / (2 * full_turn) % n

-- The angle b of one turn lies in the bin of heading t among n. The bin's centre is at t, or a turn further at t + n, in
-- steps of a full turn divided by n; the bin reaches half a step to both sides of it. All is multiplied by 2 * n.
pub record IsInBin (n t b : ℕ) : Type 0 where
  pub centre : ℕ
  pub heading : (centre ≡ t) ⊎ (centre ≡ t + n)
  pub from : 2 * full_turn * centre ≤ 2 * n * b + full_turn
  pub to : 2 * n * b < 2 * full_turn * centre + full_turn

-- The angle b of one turn lies halfway between the bins c and c + 1 among n. All is multiplied by 2 * n.
abbrev pub IsHalfway : ℕ → ℕ → ℕ → Type 0
IsHalfway n c b = 2 * n * b ≡ 2 * full_turn * c + full_turn
