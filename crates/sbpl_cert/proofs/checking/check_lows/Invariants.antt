use Rattle.std.proofs.Common.{ℕ, ◌<◌}
use Rattle.sbpl_cert.specs.Checking.{IsLowKept}
use Rattle.sbpl_cert.proofs.checking.check_lows.Given as goal

abbrev pub invariant-loop-i : goal.invariant-loop-i
invariant-loop-i g l =
    (j : ℕ) → j < l.i → IsLowKept (g.T.LabelTable.labelling l.labels).g (g.T.LabelTable.labelling l.labels).v
    (g.H.Guide.distance l.guide) l.low ((g.T.LabelTable.labelling l.labels).state j)
