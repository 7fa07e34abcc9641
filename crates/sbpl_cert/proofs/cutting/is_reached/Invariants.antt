use Rattle.std.proofs.Common.{ℕ, ◌<◌}
use Rattle.sbpl_labels.specs.Cut.{kept_v}
use Rattle.sbpl_labels.specs.Marks.{g_of}
use Rattle.sbpl_cert.specs.Cut.{IsReachedBy}
use Rattle.sbpl_cert.proofs.cutting.is_reached.Given as goal

abbrev pub invariant-loop-j : goal.invariant-loop-j
invariant-loop-j g l =
    (i : ℕ) → i < l.j
    → IsReachedBy (g.G.Graph.network l.graph) (kept_v (g_of l.labels) (g.H.Guide.distance l.guide) l.low) l.t i → ⊥
