use Rattle.std.proofs.Common.{◌≡◌, ℕ, ◌+◌, ◌*◌, ◌/◌, ◌<◌, length, slice_index}
use Rattle.sbpl_cost.specs.Lattices.{network_of}
use Rattle.sbpl_heur.proofs.cap.turn.Given as goal

abbrev pub invariant-loop-heading : goal.invariant-loop-heading
invariant-loop-heading l =
    ((t : ℕ) → t < l.heading → slice_index l.turns.items t
    ≡ (network_of l.lattice).gap (l.goal / l.lattice.env.headings * l.lattice.env.headings + t) l.goal)
    × (length l.turns.items ≡ l.headings)
