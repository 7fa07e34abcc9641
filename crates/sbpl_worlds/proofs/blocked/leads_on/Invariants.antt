use Rattle.std.proofs.Common.{ℕ, ◌<◌}
use Rattle.sbpl_promises.specs.sbpl_graph.Network.{IsFreeArc}
use Rattle.sbpl_worlds.proofs.blocked.leads_on.Given as goal

-- none of the arcs so far is free
abbrev pub invariant-loop-k : goal.invariant-loop-k
invariant-loop-k g l = (k t c : ℕ) → k < l.k → IsFreeArc (g.G.Graph.network l.graph) l.s k t c → ⊥
