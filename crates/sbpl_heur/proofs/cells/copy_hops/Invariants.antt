use Rattle.std.proofs.Common.{◌≡◌, take, vec_capacity}
use Rattle.sbpl_heur.proofs.cells.copy_hops.Given as goal

abbrev pub invariant-loop-hop : goal.invariant-loop-hop
invariant-loop-hop l = (l.into.items ≡ take l.hop-index l.hops) × (vec_capacity l.into ≡ vec_capacity l.initial.into)
