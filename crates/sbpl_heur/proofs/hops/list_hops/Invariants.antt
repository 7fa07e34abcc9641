use Rattle.std.proofs.Common.{◌≡◌, ◌≤◌, length, vec_capacity}
use Rattle.sbpl_heur.proofs.Hopping.{AreHopsOfFirst}
use Rattle.sbpl_heur.proofs.hops.list_hops.Given as goal

abbrev pub invariant-loop-i : goal.invariant-loop-i
invariant-loop-i l =
    AreHopsOfFirst l.lattice.env l.lattice.prims.items l.i l.hops.items × (length l.hops.items ≤ l.i)
    × (vec_capacity l.hops ≡ vec_capacity l.initial.hops)
