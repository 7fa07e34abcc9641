use Rattle.sbpl_graph.specs.Bound.{IsLow}
use Rattle.sbpl_labels.specs.Marks.{g_of, v_of}
use Rattle.sbpl_labels.proofs.labels.Labels.low.Given as goal

abbrev pub invariant-loop-s : goal.invariant-loop-s
invariant-loop-s g l = IsLow l.s l.goal (g_of l.self) (v_of l.self) (g.H.Guide.distance l.guide) l.low
