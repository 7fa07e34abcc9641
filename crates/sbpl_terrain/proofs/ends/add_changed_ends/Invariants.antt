use Rattle.std.proofs.Common.{ℕ, ◌<◌, ◌⊎◌}
use Rattle.std.specs.List.{Contains}
use Rattle.sbpl_terrain.specs.ChangedEnds.{IsChangedEnd, IsEndOf}
use Rattle.sbpl_terrain.proofs.ends.add_changed_ends.Given as goal

abbrev pub invariant-loop-cell : goal.invariant-loop-cell
invariant-loop-cell g l = record {
  sound : (t : ℕ) → Contains l.ends.items t → IsEndOf g.W.Graph.network g.W.Terrain.cells l.end l.world l.costs t;
  complete : (x y c t : ℕ) → Contains l.costs.entries ((x, y), c)
      → IsChangedEnd g.W.Graph.network g.W.Terrain.cells l.end l.world x y c t
      → Contains l.cell-iterator ((x, y), c) ⊎ Contains l.ends.items t;
  states : (t : ℕ) → Contains l.ends.items t → t < (g.W.Graph.network l.world).states;
}
