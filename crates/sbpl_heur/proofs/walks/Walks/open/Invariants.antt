use Rattle.std.proofs.Common.{◌≡◌, ◌≢◌, ℕ, ◌<◌, slice_index}
use Rattle.sbpl_serial.specs.sbpl_graph.declared.TheConstants.{FAR}
use Rattle.sbpl_heur.specs.Followed.{DiffersInWalls, IsWall}
use Rattle.sbpl_heur.proofs.walks.Walks.open.Given as goal

abbrev pub invariant-loop-cell : goal.invariant-loop-cell
invariant-loop-cell l = record {
  rest : l.self ≡ record l.fn.self { distances = l.self.distances };
  differs : DiffersInWalls l.fn.self l.self.distances;
  far : (a : ℕ) → a < l.cell → a ≢ l.fn.self.goal → IsWall l.fn.self.board a → slice_index l.self.distances a ≡ FAR;
}
