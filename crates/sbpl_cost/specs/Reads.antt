-- Which cells an arc reads.
use Rattle.std.specs.Prelude.{◌≡◌, ℕ, ℤ}
use Rattle.sbpl_sweep.specs.sbpl_mprim.declared.prim.Primitive.{Primitive}
use Rattle.sbpl_sweep.specs.Reads.{IsRead}
use Rattle.sbpl_cost.specs.Arc.{IsArcBy, column_from, row_from}
use Rattle.sbpl_cost.specs.World.{World}

-- judging arc k of state s reads cell (x, y): it is the source cell, the end cell, a centre cell or a swept cell
pub record ReadsCell (w : World) (s k : ℕ) (x y : ℤ) : Type 0 where
  pub index : ℕ
  pub prim : Primitive
  pub by : IsArcBy w s k index prim
  pub dx : ℤ
  pub dy : ℤ
  pub column : column_from w s dx ≡ x
  pub row : row_from w s dy ≡ y
  pub read : IsRead w.env.cell w.sweeps.radius prim dx dy
