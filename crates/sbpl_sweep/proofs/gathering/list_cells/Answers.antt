use Rattle.std.proofs.Common.{arith, subst, sym, slice_index_or}
use Rattle.std.proofs.lemmas.Option.{slice_get-get_or}
use Rattle.std.proofs.lemmas.Result.{err_from_is_err_and}
use Rattle.sbpl_sweep.proofs.Listings.{none_listed, goes_on, listed_more, too_many_listed, all_listed, stop_of}
use Rattle.sbpl_sweep.proofs.Listings.{bounded_band, no_band, AreListedBefore}
use Rattle.sbpl_sweep.proofs.gathering.list_cells.Goals as goal

pub loop-band-init : goal.loop-band-init
loop-band-init c =
    subst (λ l. AreListedBefore c.args.bands.now 0 l) (sym c.new-cells.ensures.items) (none_listed c.args.bands.now)

pub push_band-requires-clause-few : goal.push_band-requires-clause-few
push_band-requires-clause-few c = c.loop-band.invariant.few

pub push_band-requires-clause-ordered : goal.push_band-requires-clause-ordered
push_band-requires-clause-ordered c = c.loop-band.invariant.ordered

pub push_band-requires-clause-goes_on : goal.push_band-requires-clause-goes_on
push_band-requires-clause-goes_on c =
    let at = slice_get-get_or c.args.bands.now c.loop-band.band-index no_band (omega arith) in
    goes_on c.args.bands.now c.loop-band.band-index (slice_index_or c.args.bands.now c.loop-band.band-index no_band)
    c.loop-band.cells.items at c.requires.in_order c.requires.bounded c.loop-band.invariant

pub push_band-requires-clause-end : goal.push_band-requires-clause-end
push_band-requires-clause-end c =
    let at = slice_get-get_or c.args.bands.now c.loop-band.band-index no_band (omega arith) in
    bounded_band c.args.bands.now c.loop-band.band-index
    (slice_index_or c.args.bands.now c.loop-band.band-index no_band) at c.requires.bounded

pub loop-band-preserved : goal.loop-band-preserved
loop-band-preserved c =
    let at = slice_get-get_or c.args.bands.now c.loop-band.band-index no_band (omega arith) in
    listed_more c.args.bands.now c.loop-band.band-index (slice_index_or c.args.bands.now c.loop-band.band-index no_band)
    c.loop-band.cells.items c.push_band.new.cells.items at c.loop-band.invariant c.in_ok-push_band.ensures.added
    c.in_ok-push_band.ensures.all c.in_ok-push_band.ensures.few

pub returns-in_err-push_band-clause-stop : goal.returns-in_err-push_band-clause-stop
returns-in_err-push_band-clause-stop c =
    let at = slice_get-get_or c.args.bands.now c.loop-band.band-index no_band (omega arith) in
    let p = err_from_is_err_and c.from_residual.result c.from_residual.ensures.1 in
    rw (p.1, p.2) (stop_of c.args.bands.now _ (λ h.
    let more = c.in_err-push_band.ensures.more h in
    too_many_listed c.args.bands.now c.loop-band.band-index (slice_index_or c.args.bands.now c.loop-band.band-index
    no_band) c.loop-band.cells.items c.push_band.new.cells.items at c.loop-band.invariant more.0 more.1))

pub returns-clause-cells : goal.returns-clause-cells
returns-clause-cells c =
    all_listed c.args.bands.now c.loop-band.band-index c.loop-band.cells.items
    c.loop-band-test.false c.loop-band.invariant
