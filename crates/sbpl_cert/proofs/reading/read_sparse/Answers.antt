use Rattle.sbpl_cert.proofs.ReadLaws.{sparse_fits}
use Rattle.sbpl_cert.proofs.reading.read_sparse.Goals as goal

pub invariant_of-result : goal.invariant_of-result
invariant_of-result c =
    rw c.of.ensures.items
    (sparse_fits c.unsigned_numbers_are_their_digits.ensures.law c.reading_is_what_is_said.ensures.law c.args.plan
    c.args.states c.args.reader.now c.read_sparse_parts.new.reader _ c.ranges.plan.fits
    c.ranges.states.fits c.in_ok-low.ensures.read)
