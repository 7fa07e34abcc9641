use Rattle.std.proofs.Common.{◌≡◌, vec_capacity}
use Rattle.sbpl_labels.specs.Marks.{g_of, v_of, back_of}
use Rattle.sbpl_labels.proofs.Walking.{Walking, least_of}
use Rattle.sbpl_labels.proofs.labels.Labels.walk.Given as goal

abbrev pub invariant-loop-into : goal.invariant-loop-into
invariant-loop-into g l =
    Walking (g.G.Graph.network l.graph) (g_of l.self) (v_of l.self) (back_of l.self) l.goal l.at l.cost l.into.items
    × (vec_capacity l.into ≡ vec_capacity l.initial.into)

abbrev pub decreases-loop-into : goal.decreases-loop-into
decreases-loop-into g l = least_of (g_of l.self) (v_of l.self) l.at
