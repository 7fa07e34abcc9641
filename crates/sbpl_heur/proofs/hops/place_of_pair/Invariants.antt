use Rattle.std.proofs.Common.{◌≡◌, ℕ, ◌<◌, slice_get, Some}
use Rattle.sbpl_heur.specs.declared.hop.Hop.{Hop}
use Rattle.sbpl_heur.specs.Hops.{SamePair}
use Rattle.sbpl_heur.proofs.hops.place_of_pair.Given as goal

abbrev pub invariant-loop-j : goal.invariant-loop-j
invariant-loop-j l = (k : ℕ) (g : Hop) → k < l.j → slice_get l.hops k ≡ Some g → SamePair g l.hop → ⊥
