use Rattle.std.proofs.Common.{◌≡◌, ℕ, ◌<◌, length, get_or}
use Rattle.sbpl_heur.specs.declared.hop.Hop.{Hop}
use Rattle.sbpl_heur.proofs.cells.have_same.Given as goal

abbrev pub invariant-loop-j : goal.invariant-loop-j
invariant-loop-j l =
    (length l.hops ≡ length l.others) × ((k : ℕ) (d : Hop) → k < l.j → get_or l.hops k d ≡ get_or l.others k d)
