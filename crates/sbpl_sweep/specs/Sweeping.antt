-- The cells that a motion sweeps, pose by pose.
use Rattle.std.specs.Prelude.{◌≡◌, ℕ, ℤ, ◌≤◌, List, length, slice_get, Some}
use Rattle.sbpl_mprim.specs.sbpl_cfg.declared.pose.Pose.{Pose}
use Rattle.sbpl_mprim.specs.declared.prim.Primitive.{Primitive}
use Rattle.sbpl_mprim.specs.Primitives.{Primitives}
use Rattle.sbpl_sweep.specs.declared.cell.Cell.{Cell}
use Rattle.sbpl_sweep.specs.declared.stop.SweepStop.{SweepStop}
use Rattle.sbpl_sweep.specs.declared.stop.SweepStop.TheVariants.{TooMany}
use Rattle.sbpl_sweep.specs.declared.stop.SweepStop.TheVariants.{NoMemory as StopNoMemory}
use Rattle.sbpl_sweep.specs.declared.fault.SweepFault.{SweepFault}
use Rattle.sbpl_sweep.specs.declared.fault.SweepFault.TheVariants.{TooWide, NoMemory}
use Rattle.sbpl_sweep.specs.Centres.{AreSwept}
use Rattle.sbpl_sweep.specs.Widths.{SweepsMoreThan, IsTooWideItself, most_cells}

-- the cells that a motion sweeps, and not too many
pub record AreFewSwept (cell : ℤ) (radius : ℕ) (poses : List Pose) (cells : List Cell) : Type 0 where
  pub swept : AreSwept cell radius poses cells
  pub few : length cells ≤ most_cells

-- why the cells that a motion sweeps are not listed
abbrev pub IsSweepStop : ℤ → ℕ → List Pose → SweepStop → Type 0
IsSweepStop cell radius poses TooMany = SweepsMoreThan cell radius poses most_cells
IsSweepStop cell radius poses StopNoMemory = Unit {0}

-- the cells that the primitive at an index of the file sweeps
abbrev pub AreFewSweptAt : Primitives → ℕ → ℕ → List Cell → Type 0
AreFewSweptAt prims radius i cells = (p : Primitive) → slice_get prims.items i ≡ Some p → AreFewSwept prims.cell radius p.poses cells

-- why the cells of the primitive at an index of the file are not listed
abbrev pub IsOwnCause : Primitives → ℕ → ℕ → SweepFault → Type 0
IsOwnCause prims radius i (TooWide j) = (j ≡ i) × IsTooWideItself prims radius i
IsOwnCause prims radius i NoMemory = Unit {0}
