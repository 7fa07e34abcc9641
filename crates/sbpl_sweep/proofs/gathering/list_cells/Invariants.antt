use Rattle.sbpl_sweep.proofs.Listings.{AreListedBefore}
use Rattle.sbpl_sweep.proofs.gathering.list_cells.Given as goal

abbrev pub invariant-loop-band : goal.invariant-loop-band
invariant-loop-band l = AreListedBefore l.bands l.band-index l.cells.items
