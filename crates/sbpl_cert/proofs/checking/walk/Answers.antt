use Rattle.std.proofs.Common.{arith}
use Rattle.sbpl_cert.proofs.Paths.{one_step_more}
use Rattle.sbpl_cert.proofs.checking.walk.Goals as goal

pub loop-i-preserved : goal.loop-i-preserved
loop-i-preserved g c =
    record {
      inside = c.in-Some.ensures.inside;
      small = omega (arith, c.in-Some.ensures.small);
      path = rw c.from-sum.ensures
          (one_step_more (g.G.Graph.network c.args.graph.now) c.args.start c.args.arcs.now c.loop-i.i c.loop-i.at
          c.loop-i.sum c.in-Some.head c.in-Some.cost (omega arith) c.loop-i.invariant.path c.in-Some.ensures.free);
    }
