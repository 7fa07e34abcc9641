-- Which cells judging a motion reads, as offsets from its source cell.
use Rattle.std.specs.Prelude.{◌≡◌, ℕ, ℤ, pos, List, slice_get, Some}
use Rattle.sbpl_mprim.specs.declared.prim.Primitive.{Primitive}
use Rattle.sbpl_mprim.specs.Primitives.{Primitives}
use Rattle.sbpl_sweep.specs.declared.reads.Read.{Read}
use Rattle.sbpl_sweep.specs.Sweep.{IsCentre, IsSwept}

-- judging a motion reads its source cell, its end cell, the cells in which its poses lie, and the cells that it sweeps
pub data IsRead (cell : ℤ) (radius : ℕ) (p : Primitive) (x y : ℤ) : Type 0 where
  at_source : x ≡ pos 0 → y ≡ pos 0 → IsRead cell radius p x y
  at_target : x ≡ p.dx → y ≡ p.dy → IsRead cell radius p x y
  at_centre : IsCentre cell p.poses x y → IsRead cell radius p x y
  at_swept : IsSwept cell radius p.poses x y → IsRead cell radius p x y

-- the list holds each pair of a primitive's index in the file and a cell that judging it reads, each once, and no others
pub record HaveReads (prims : Primitives) (radius : ℕ) (reads : List Read) : Type 0 where
  pub each : (j : ℕ) (r : Read) → slice_get reads j ≡ Some r → (p : Primitive) × (slice_get prims.items r.prim ≡ Some p) × IsRead prims.cell radius p r.cell.x r.cell.y
  pub all : (i : ℕ) (p : Primitive) (x y : ℤ) → slice_get prims.items i ≡ Some p → IsRead prims.cell radius p x y
      → (j : ℕ) × (slice_get reads j ≡ Some (record { prim = i; cell = record { y = y; x = x } }))
  pub once : (j k : ℕ) (r : Read) → slice_get reads j ≡ Some r → slice_get reads k ≡ Some r → j ≡ k
