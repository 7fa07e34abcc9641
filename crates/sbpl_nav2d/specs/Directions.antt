-- The eight directions of a grid.
use Rattle.std.specs.Prelude.{ℕ, ℤ, pos, negsuc, ◌+◌, ◌+ℤ◌, ◌-ℤ◌, ◌%◌, ◌==◌, Bool, if◌then◌else◌, List, [], ◌∷◌, slice_index_or}
use Rattle.sbpl_terrain.specs.sbpl_cfg.Environment.{IsWithin}
use Rattle.sbpl_nav2d.specs.declared.cell.Cell.{Cell}

-- so far along x and so far along y
abbrev pub by : ℤ → ℤ → Cell
by x y = record { x = x; y = y }

-- how far one step leads in each direction
abbrev pub directions : List Cell
directions =
    by (pos 1) (pos 0)
    ∷ by (pos 1) (pos 1)
    ∷ by (pos 0) (pos 1)
    ∷ by (negsuc 0) (pos 1)
    ∷ by (negsuc 0) (pos 0)
    ∷ by (negsuc 0) (negsuc 0)
    ∷ by (pos 0) (negsuc 0)
    ∷ by (pos 1) (negsuc 0)
    ∷ []

-- the step in direction k
unfoldable pub direction : ℕ → Cell
direction k = slice_index_or directions k (by (pos 0) (pos 0))

-- the odd directions are the diagonals
abbrev pub is_diagonal : ℕ → Bool
is_diagonal k = k % 2 == 1

-- what a step costs over cells of cost 0, in thousandths of a cell's side: as much as it is long
abbrev pub step_cost : ℕ → ℕ
step_cost k = if is_diagonal k then 1414 else 1000

-- the cell that lies a step away from another, and the one from which it does
abbrev pub moved : Cell → Cell → Cell
moved from step = by (from.x +ℤ step.x) (from.y +ℤ step.y)

abbrev pub moved_back : Cell → Cell → Cell
moved_back to step = by (to.x -ℤ step.x) (to.y -ℤ step.y)

-- a step leads by at most one cell along x and along y
abbrev pub IsStep : Cell → Type 0
IsStep d = IsWithin (negsuc 0) (pos 1) d.x × IsWithin (negsuc 0) (pos 1) d.y

-- a coordinate is a number of 32 bits, but for this many steps
abbrev pub IsNumber : (steps : ℕ) → ℤ → Type 0
IsNumber steps z = IsWithin (negsuc steps) (pos (4294967295 + steps)) z

-- both coordinates of a cell are
abbrev pub IsNear : (steps : ℕ) → Cell → Type 0
IsNear steps c = IsNumber steps c.x × IsNumber steps c.y
