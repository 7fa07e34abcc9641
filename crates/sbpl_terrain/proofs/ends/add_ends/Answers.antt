use Rattle.sbpl_terrain.proofs.Adding.{adds_ends, differs}
use Rattle.sbpl_terrain.proofs.ends.add_ends.Goals as goal

pub returns-in_ok-ends_reading : goal.returns-in_ok-ends_reading
returns-in_ok-ends_reading g c = record {
  added =
      adds_ends g.W.Graph.network g.W.Terrain.cells c.args.end c.args.world.now c.args.x c.args.y c.args.was
      c.args.ends.now.items c.ends_reading.new.into.items
      (differs c.present_cost.result _ c.args.was c.ne.result c.if-ne.true c.ne.ensures
      c.present_cost.ensures.value) c.in_ok-ends_reading.ensures.ends;
}
