-- How far a disc reaches beyond the cell in which its centre lies. All lengths are half nanometres.
use Rattle.std.specs.Prelude.{◌≡◌, ℕ, ℤ, pos, ◌+◌, ◌*◌, ◌<◌, ◌≤◌, ◌+ℤ◌, ◌*ℤ◌}
use Rattle.sbpl_mprim.specs.sbpl_cfg.Place.{cell_of}
use Rattle.sbpl_sweep.specs.declared.reach.Axis.{Axis}

-- the square of how far away the cell with number n beyond the next one begins, where the next one begins after a gap
abbrev pub squared_step : ℕ → ℕ → ℕ → ℕ
squared_step gap side n = (gap + side * n) * (gap + side * n)

-- this many cells beyond a point's own begin nearer to it than the root of a number, and no others do
pub record IsReach (gap side most count : ℕ) : Type 0 where
  pub reached : (n : ℕ) → n < count → squared_step gap side n < most
  pub beyond : (n : ℕ) → count ≤ n → most ≤ squared_step gap side n

-- where a point lies on one axis: in its own cell, between the cell's sides
pub record IsAxis (side : ℕ) (at : ℤ) (a : Axis) : Type 0 where
  pub own : a.own ≡ cell_of (pos side) at
  pub start : (pos side *ℤ a.own) +ℤ pos a.before ≡ at
  pub whole : a.before + a.after ≡ side
  pub some : 1 ≤ a.after
