use Rattle.sbpl_sweep.specs.contracts.band.BandOrd.TheImpl.Laws.{total-law}
use Rattle.sbpl_sweep.proofs.BandOrders.{sorted_bands, same_covered}
use Rattle.sbpl_sweep.proofs.gathering.sort_bands.Goals as goal

pub returns-clause-sorted : goal.returns-clause-sorted
returns-clause-sorted c = sorted_bands c.sort.new.self.items total-law c.in_ok-sort.ensures.sorted

pub returns-clause-same : goal.returns-clause-same
returns-clause-same c = same_covered c.args.bands.now.items c.sort.new.self.items c.in_ok-sort.ensures.permutation
