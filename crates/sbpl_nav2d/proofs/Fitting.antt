-- The coordinates of near cells are numbers of 64 bits.
use Rattle.std.proofs.Common.{ℤ, pos, negsuc, ◌≤ℤ◌, SFits, w64, arith}
use Rattle.std.proofs.lemmas.Int.{ints}
use Rattle.sbpl_nav2d.specs.declared.cell.Cell.{Cell}
use Rattle.sbpl_nav2d.specs.Directions.{IsNear}

pub fits : (z : ℤ) → negsuc 4294967296 ≤ℤ z → z ≤ℤ pos 8589934592 → SFits w64 z
fits (pos n) low high = record { sfits = omega (arith, ints, high) }
fits (negsuc n) low high = record { sfits = omega (arith, ints, low) }

pub fits_x : (c : Cell) → IsNear 2 c → SFits w64 c.x
fits_x c near = fits c.x (omega (arith, ints, near.0.0)) (omega (arith, ints, near.0.1))

pub fits_y : (c : Cell) → IsNear 2 c → SFits w64 c.y
fits_y c near = fits c.y (omega (arith, ints, near.1.0)) (omega (arith, ints, near.1.1))
