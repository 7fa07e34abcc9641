use Rattle.std.proofs.Common.{ℕ, ◌<◌}
use Rattle.sbpl_cert.specs.Checking.{IsGuideKept}
use Rattle.sbpl_cert.proofs.checking.check_guides.Given as goal

abbrev pub invariant-loop-s : goal.invariant-loop-s
invariant-loop-s g l =
    (u : ℕ) → u < l.s → (k : ℕ) → IsGuideKept (g.G.Graph.network l.graph) (g.H.Guide.distance l.guide) u k
