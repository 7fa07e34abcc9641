use Rattle.std.proofs.Common.{◌≡◌, ℕ, ◌<◌, get_or, false}
use Rattle.sbpl_heur.proofs.walks.take.Given as goal

abbrev pub invariant-loop-cell : goal.invariant-loop-cell
invariant-loop-cell l =
    (l.marks.items ≡ l.initial.marks.items) × ((a : ℕ) → a < l.cell → get_or l.marks.items a false ≡ false)
