use Rattle.std.proofs.Common.{ℕ, ◌<◌}
use Rattle.sbpl_cert.specs.Checking.{IsArcKept}
use Rattle.sbpl_cert.proofs.checking.check_arcs.Given as goal

abbrev pub invariant-loop-i : goal.invariant-loop-i
invariant-loop-i g l =
    (j : ℕ) → j < l.i → (k : ℕ)
    → IsArcKept (g.G.Graph.network l.graph) (g.T.LabelTable.labelling l.labels).g (g.T.LabelTable.labelling l.labels).v
    ((g.T.LabelTable.labelling l.labels).state j) k
