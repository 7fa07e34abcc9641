use Rattle.sbpl_worlds.proofs.Blocking.{NoneInto}
use Rattle.sbpl_worlds.proofs.blocked.is_led_to.Given as goal

-- none of the tails so far is free
abbrev pub invariant-loop-j : goal.invariant-loop-j
invariant-loop-j g l = NoneInto (g.G.Graph.network l.graph) l.t l.j
