use Rattle.std.proofs.Common.{◌≡◌, ℕ, ◌<◌, List, length, slice_get, Some}
use Rattle.sbpl_mprim.specs.declared.prim.Primitive.{Primitive}
use Rattle.sbpl_sweep.specs.declared.cell.Cell.{Cell}
use Rattle.sbpl_sweep.specs.Centres.{AreCentres}
use Rattle.sbpl_sweep.proofs.tables.centre_table.Given as goal

abbrev pub invariant-loop-prim : goal.invariant-loop-prim
invariant-loop-prim l =
    (length l.table ≡ l.prim-index)
    × ((k : ℕ) (p : Primitive) → k < l.prim-index → slice_get l.prims.items k ≡ Some p
    → (cells : List Cell) × (slice_get l.table k ≡ Some cells) × AreCentres l.prims.cell p.poses cells)
