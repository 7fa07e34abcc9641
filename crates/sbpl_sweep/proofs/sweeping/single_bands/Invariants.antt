use Rattle.std.proofs.Common.{◌≡◌, map, take}
use Rattle.sbpl_sweep.proofs.Listings.{band_at}
use Rattle.sbpl_sweep.proofs.sweeping.single_bands.Given as goal

abbrev pub invariant-loop-cell : goal.invariant-loop-cell
invariant-loop-cell l = l.bands.items ≡ map band_at (take l.cell-index l.cells)
