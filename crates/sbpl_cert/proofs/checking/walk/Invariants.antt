use Rattle.std.proofs.Common.{◌<◌, ◌≤◌, ◌*◌, take}
use Rattle.sbpl_labels.specs.sbpl_graph.Path.{IsFreePath}
use Rattle.sbpl_cert.proofs.checking.walk.Given as goal

abbrev pub invariant-loop-i : goal.invariant-loop-i
invariant-loop-i g l =
    record {
      inside : l.at < (g.G.Graph.network l.graph).states;
      small : l.sum ≤ l.i * 4294967295;
      path : IsFreePath (g.G.Graph.network l.graph) l.start (take l.i l.arcs) l.at l.sum;
    }
