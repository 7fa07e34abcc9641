use Rattle.std.proofs.Common.{◌<◌, ap, sym, w64, ◌∙◌, subst}
use Rattle.std.proofs.lemmas.Int.{to_z-of_z}
use Rattle.sbpl_cost.specs.States.{IsOff}
use Rattle.sbpl_heur.proofs.Locating.{none_beside, none_above, cell_in_at}
use Rattle.sbpl_heur.proofs.cells.cell_in.Goals as goal

pub returns-in_err-column-clause-value : goal.returns-in_err-column-clause-value
returns-in_err-column-clause-value c =
    let off = rw (to_z-of_z w64 c.args.x c.ranges.x) at c.in_err-column.ensures.outside in
    c.from_residual.ensures ∙ sym (none_beside c.args.env.now c.args.x c.args.y
    (subst (λ n. IsOff n c.args.x) (ap (λ e. e.width) c.env.view_is) off))

pub returns-in_err-row-clause-value : goal.returns-in_err-row-clause-value
returns-in_err-row-clause-value c =
    let off = rw (to_z-of_z w64 c.args.y c.ranges.y) at c.in_err-row.ensures.outside in
    c.from_residual-in_err-row.ensures
    ∙ sym (none_above c.args.env.now c.args.x c.args.y
    (subst (λ n. IsOff n c.args.y) (ap (λ e. e.height) c.env.view_is) off))

pub returns-clause-value : goal.returns-clause-value
returns-clause-value c =
    let column = rw (to_z-of_z w64 c.args.x c.ranges.x) at c.in_ok-column.ensures.cell in
    let row = rw (to_z-of_z w64 c.args.y c.ranges.y) at c.in_ok-row.ensures.cell in
    sym (cell_in_at c.args.env.now c.args.x c.args.y c.in_ok-column.column c.in_ok-row.row c.number_of.result column row
    (subst (λ n. c.in_ok-column.column < n) (ap (λ e. e.width) c.env.view_is) c.in_ok-column.ensures.inside)
    (subst (λ n. c.in_ok-row.row < n) (ap (λ e. e.height) c.env.view_is) c.in_ok-row.ensures.inside)
    c.number_of.ensures.number)
