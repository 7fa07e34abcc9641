use Rattle.std.proofs.Common.{ℕ, ◌<◌}
use Rattle.sbpl_cert.specs.Checking.{IsArcKept}
use Rattle.sbpl_cert.proofs.checking.check_arcs_of.Given as goal

abbrev pub invariant-loop-k : goal.invariant-loop-k
invariant-loop-k g l = (j : ℕ) → j < l.k
    → IsArcKept (g.G.Graph.network l.graph) (g.T.LabelTable.labelling l.labels).g
    (g.T.LabelTable.labelling l.labels).v l.from.state j
