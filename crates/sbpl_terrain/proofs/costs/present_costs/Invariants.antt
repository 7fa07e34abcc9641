use Rattle.std.proofs.Common.{◌≡◌, ℕ, ◌<◌, slice_get, Some}
use Rattle.sbpl_map.specs.declared.write.Write.{Write}
use Rattle.sbpl_terrain.specs.Noted.{AreCosts, IsNoted}
use Rattle.sbpl_terrain.proofs.costs.present_costs.Given as goal

abbrev pub invariant-loop-write : goal.invariant-loop-write
invariant-loop-write g l = record {
  sound : AreCosts (g.W.Terrain.cells.map l.world) l.costs;
  complete : (i : ℕ) (w : Write) → i < l.write-index → slice_get l.batch i ≡ Some w → IsNoted l.costs w.x w.y;
}
