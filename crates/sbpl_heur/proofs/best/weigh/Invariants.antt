use Rattle.std.proofs.Common.{◌≡◌, ℕ, ◌<◌, length, slice_index}
use Rattle.sbpl_heur.specs.Followed.{distance}
use Rattle.sbpl_heur.proofs.best.weigh.Given as goal

abbrev pub invariant-loop-cell : goal.invariant-loop-cell
invariant-loop-cell l =
    (length l.distances.items ≡ length l.initial.distances.items)
    × ((a : ℕ) → a < l.cell → slice_index l.distances.items a ≡ distance l.walks a)
