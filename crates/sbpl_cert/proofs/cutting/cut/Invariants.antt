use Rattle.sbpl_cert.proofs.CutRows.{AreRowsTo}
use Rattle.sbpl_cert.proofs.cutting.cut.Given as goal

abbrev pub invariant-loop-s : goal.invariant-loop-s
invariant-loop-s g l =
    AreRowsTo l.outcome (g.G.Graph.network l.graph) l.labels (g.H.Guide.distance l.guide) l.low l.rows.items l.s
