use Rattle.std.proofs.Common.{◌≡◌, pos, ◌+ℤ◌, ◌-ℤ◌, refl, arith}
use Rattle.std.proofs.lemmas.Int.{ints}
use Rattle.sbpl_sweep.specs.declared.band.Band.{Band}
use Rattle.sbpl_sweep.proofs.DiscsTouched.{wide_row, own_row}
use Rattle.sbpl_sweep.proofs.rows.push_disc.Goals as goal

pub returns-then-left-right-ge-MOST_CELLS-clause-wide : goal.returns-then-left-right-ge-MOST_CELLS-clause-wide
returns-then-left-right-ge-MOST_CELLS-clause-wide c = λ cell radius p disc stopped.
    let d = c.args.disc.now in
    let b : Band = record {
      y = d.row.own;
      first = d.column.own -ℤ pos c.reach_of-left.result;
      last = d.column.own +ℤ pos c.reach_of-right.result;
    } in
    let first : b.first +ℤ pos c.reach_of-left.result ≡ d.column.own = omega (arith, ints) in
    let row =
    own_row cell radius p d b c.reach_of-left.result c.reach_of-right.result disc refl first refl
    c.reach_of-left.ensures.reach c.reach_of-right.ensures.reach in
    wide_row cell radius p d disc b c.reach_of-left.result c.reach_of-right.result row refl (omega arith)
