use Rattle.std.proofs.Common.{◌≡◌, take}
use Rattle.sbpl_map.specs.MapAfter.{AreWritten}
use Rattle.sbpl_terrain.proofs.batch.write_batch.Given as goal

abbrev pub invariant-loop-write : goal.invariant-loop-write
invariant-loop-write g l = record {
  written : AreWritten (g.W.Terrain.cells.map l.fn.world) (take l.write-index l.batch) (g.W.Terrain.cells.map l.world);
  others : l.world ≡ g.W.Terrain.cells.over l.fn.world (g.W.Terrain.cells.map l.world);
  width : (g.W.Terrain.cells.map l.world).width ≡ (g.W.Terrain.cells.map l.fn.world).width;
  height : (g.W.Terrain.cells.map l.world).height ≡ (g.W.Terrain.cells.map l.fn.world).height;
}
