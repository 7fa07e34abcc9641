use Rattle.std.proofs.Common.{subst, pos, ◌+ℤ◌, ◌≤ℤ◌, arith, rules, w64, to_z, FitsSigned}
use Rattle.std.proofs.lemmas.Int.{ints, to_z-of_z, fits_signed_from_abs}
use Rattle.std.proofs.lemmas.Result.{err_from_is_err_and}
use Rattle.sbpl_sweep.specs.Gathered.{IsNext}
use Rattle.sbpl_sweep.proofs.Listings.{band_none, band_more, next_more, all_of_band}
use Rattle.sbpl_sweep.proofs.gathering.push_band.Goals as goal

pub loop-x-init : goal.loop-x-init
loop-x-init c =
    let x : FitsSigned w64 c.next_column-x.result = search rules in
    let next =
    subst (λ l. IsNext l c.args.band.now c.next_column-x.result) c.deref.ensures.value c.next_column-x.ensures.next in
    simp to_z-of_z (record {
      added = band_none c.args.cells.now.items c.args.band.now c.requires.ordered;
      next = next;
      few = c.requires.few;
    })

pub returns-in_err-push_cell-clause-more : goal.returns-in_err-push_cell-clause-more
returns-in_err-push_cell-clause-more c =
    let y : FitsSigned w64 c.args.band.now.y = search rules in
    let x : FitsSigned w64 (to_z w64 c.loop-x.x-bits) = search rules in
    let p = err_from_is_err_and c.from_residual.result c.from_residual.ensures.1 in
    rw (p.1, p.2) (λ h.
    let more = c.in_err-push_cell.ensures.more h in
    let added = simp to_z-of_z at more.0 in (
      band_more c.args.cells.now.items c.loop-x.cells.items c.push_cell.new.cells.items c.args.band.now
          (to_z w64 c.loop-x.x-bits) added (omega (arith, ints, c.loop-x-test.true))
          c.loop-x.invariant.added c.loop-x.invariant.next,
      more.1,
    ))

pub loop-x-preserved : goal.loop-x-preserved
loop-x-preserved c =
    let y : FitsSigned w64 c.args.band.now.y = search rules in
    let x : FitsSigned w64 (to_z w64 c.loop-x.x-bits) = search rules in
    let to : to_z w64 c.loop-x.x-bits ≤ℤ c.args.band.now.last = omega (arith, ints, c.loop-x-test.true) in
    let from = c.loop-x.invariant.next.from in
    let end : c.args.band.now.last ≤ℤ pos 1000000000000000 = c.requires.end (omega (arith, ints, from, to)) in
    let next : FitsSigned w64 (to_z w64 c.loop-x.x-bits +ℤ pos 1) =
    fits_signed_from_abs w64 (to_z w64 c.loop-x.x-bits +ℤ pos 1) (omega (arith, ints, x.sfits)) in
    let added = simp to_z-of_z at c.in_ok-push_cell.ensures.added in
    simp to_z-of_z (record {
      added =
          band_more c.args.cells.now.items c.loop-x.cells.items c.push_cell.new.cells.items c.args.band.now
          (to_z w64 c.loop-x.x-bits) added to c.loop-x.invariant.added c.loop-x.invariant.next;
      next =
          next_more c.loop-x.cells.items c.push_cell.new.cells.items c.args.band.now (to_z w64 c.loop-x.x-bits) added
          c.loop-x.invariant.next;
      few = c.in_ok-push_cell.ensures.few;
    })

pub returns-clause-all : goal.returns-clause-all
returns-clause-all c =
    all_of_band c.loop-x.cells.items c.args.band.now (to_z w64 c.loop-x.x-bits) c.loop-x.invariant.next
    (omega (arith, ints, c.loop-x-test.false))

pub loop-x-smaller : goal.loop-x-smaller
loop-x-smaller c =
    let to : to_z w64 c.loop-x.x-bits ≤ℤ c.args.band.now.last = omega (arith, ints, c.loop-x-test.true) in
    let from = c.loop-x.invariant.next.from in
    let end = c.requires.end (omega (arith, ints, from, to)) in
    omega (arith, ints)
