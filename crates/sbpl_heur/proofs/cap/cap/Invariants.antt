use Rattle.std.proofs.Common.{◌≡◌, ℕ, ◌<◌, ◌≤◌, length, slice_index}
use Rattle.sbpl_heur.specs.Caps.{capped_to}
use Rattle.sbpl_heur.proofs.cap.cap.Given as goal

abbrev pub invariant-loop-cell : goal.invariant-loop-cell
invariant-loop-cell l =
    (length l.distances.items ≡ length l.initial.distances.items)
    × ((a : ℕ) → a < l.cell
    → slice_index l.distances.items a ≡ capped_to l.lattice l.goal l.most a (slice_index l.initial.distances.items a))
    × ((a : ℕ) → l.cell ≤ a → slice_index l.distances.items a ≡ slice_index l.initial.distances.items a)
