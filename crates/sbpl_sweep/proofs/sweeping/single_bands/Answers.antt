use Rattle.std.proofs.Common.{◌≤◌, ◌∙◌, ap, sym, subst, length, map, arith}
use Rattle.std.proofs.lemmas.List.{take_all}
use Rattle.sbpl_sweep.specs.Bands.{IsCovered}
use Rattle.sbpl_sweep.proofs.Listings.{band_at, single_kept, single_each}
use Rattle.sbpl_sweep.proofs.sweeping.single_bands.Goals as goal

pub returns-clause-kept : goal.returns-clause-kept
returns-clause-kept c = λ x y l.
    let done : length c.args.cells.now ≤ c.loop-cell.cell-index = omega arith in
    let made = c.loop-cell.invariant ∙ ap (map band_at) (take_all c.loop-cell.cell-index c.args.cells.now done) in
    subst (λ b. IsCovered b x y) (sym made) (single_kept c.args.cells.now x y l)

pub returns-clause-each : goal.returns-clause-each
returns-clause-each c = λ x y covered.
    let done : length c.args.cells.now ≤ c.loop-cell.cell-index = omega arith in
    let made = c.loop-cell.invariant ∙ ap (map band_at) (take_all c.loop-cell.cell-index c.args.cells.now done) in
    single_each c.args.cells.now x y (subst (λ b. IsCovered b x y) made covered)
