use Rattle.std.proofs.Common.{◌≡◌, ℕ, ◌<◌, ◌≤ℤ◌, ◌+ℤ◌, pos, slice_get, Some}
use Rattle.sbpl_heur.specs.declared.hop.Hop.{Hop}
use Rattle.sbpl_heur.proofs.cells.Cells.reach.Given as goal

abbrev pub invariant-loop-hop : goal.invariant-loop-hop
invariant-loop-hop l = record {
  column : (j : ℕ) (h : Hop) → j < l.hop-index → slice_get l.self.hops j ≡ Some h
      → (h.dx ≤ℤ pos l.reach.x) × (pos 0 ≤ℤ (pos l.reach.x +ℤ h.dx));
  row : (j : ℕ) (h : Hop) → j < l.hop-index → slice_get l.self.hops j ≡ Some h
      → (h.dy ≤ℤ pos l.reach.y) × (pos 0 ≤ℤ (pos l.reach.y +ℤ h.dy));
}
