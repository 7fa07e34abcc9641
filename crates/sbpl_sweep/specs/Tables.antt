-- Tables with one list of cells for each primitive.
use Rattle.std.specs.Prelude.{◌≡◌, ℕ, List, length, slice_get, Some}
use Rattle.sbpl_mprim.specs.declared.prim.Primitive.{Primitive}
use Rattle.sbpl_mprim.specs.Primitives.{Primitives}
use Rattle.sbpl_sweep.specs.declared.cell.Cell.{Cell}
use Rattle.sbpl_sweep.specs.Centres.{AreCentres, AreSwept}

-- each primitive has its centre cells
pub record HaveCentres (prims : Primitives) (table : List (List Cell)) : Type 0 where
  pub count : length table ≡ length prims.items
  pub each : (i : ℕ) (p : Primitive) → slice_get prims.items i ≡ Some p → (cells : List Cell) × (slice_get table i ≡ Some cells) × AreCentres prims.cell p.poses cells

-- each primitive has its swept cells
pub record HaveSwept (prims : Primitives) (radius : ℕ) (table : List (List Cell)) : Type 0 where
  pub count : length table ≡ length prims.items
  pub each : (i : ℕ) (p : Primitive) → slice_get prims.items i ≡ Some p → (cells : List Cell) × (slice_get table i ≡ Some cells) × AreSwept prims.cell radius p.poses cells
