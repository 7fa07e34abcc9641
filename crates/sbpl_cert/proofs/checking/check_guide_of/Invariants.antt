use Rattle.std.proofs.Common.{ℕ, ◌<◌}
use Rattle.sbpl_cert.specs.Checking.{IsGuideKept}
use Rattle.sbpl_cert.proofs.checking.check_guide_of.Given as goal

abbrev pub invariant-loop-k : goal.invariant-loop-k
invariant-loop-k g l = (j : ℕ) → j < l.k → IsGuideKept (g.G.Graph.network l.graph) (g.H.Guide.distance l.guide) l.s j
