use Rattle.std.proofs.Common.{◌≡◌, ℕ, ◌+◌, ◌*◌, ◌<◌, ◌≤◌, ◌-ℤ◌, pos, slice_get, slice_index, Some}
use Rattle.sbpl_heur.specs.declared.hop.Hop.{Hop}
use Rattle.sbpl_heur.specs.Boards.{cell_in}
use Rattle.sbpl_heur.proofs.cells.first_farther.Given as goal

abbrev pub invariant-loop-j : goal.invariant-loop-j
invariant-loop-j l =
    (i a : ℕ) (h : Hop) → l.from ≤ i → i < l.j → slice_get l.hops i ≡ Some h
    → cell_in l.env (pos l.spot.x -ℤ h.dx) (pos l.spot.y -ℤ h.dy) ≡ Some a
    → slice_index l.distances a ≤ h.cost * l.times + l.distance
