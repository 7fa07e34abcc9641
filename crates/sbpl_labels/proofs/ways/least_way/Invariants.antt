use Rattle.sbpl_labels.specs.Marks.{v_of}
use Rattle.sbpl_labels.specs.Ways.{IsLeastBelow}
use Rattle.sbpl_labels.proofs.ways.least_way.Given as goal

abbrev pub invariant-loop-j : goal.invariant-loop-j
invariant-loop-j g l = IsLeastBelow (g.G.Graph.network l.graph) (v_of l.labels) l.t l.j l.best
