use Rattle.std.proofs.Common.{arith, ap, sym, ◌∙◌}
use Rattle.std.proofs.lemmas.Int.{ints}
use Rattle.sbpl_cost.proofs.Plane.{off_column, off_row, place_at}
use Rattle.sbpl_cost.proofs.places.place_on_map.Goals as goal

pub returns-in_err-column-clause-value : goal.returns-in_err-column-clause-value
returns-in_err-column-clause-value c =
    let wide = ap (λ e. e.width) c.env.view_is in
    c.from_residual.ensures ∙ off_column c.args.env.now c.args.t _ c.args.x c.args.y _ wide (omega (arith, ints))
    c.in_err-column.ensures.outside

pub returns-in_err-row-clause-value : goal.returns-in_err-row-clause-value
returns-in_err-row-clause-value c =
    let high = ap (λ e. e.height) c.env.view_is in
    c.from_residual-in_err-row.ensures
    ∙ off_row c.args.env.now c.args.t _ c.args.x c.args.y _ high (omega (arith, ints)) c.in_err-row.ensures.outside

pub returns-clause-value : goal.returns-clause-value
returns-clause-value c =
    let column = c.in_ok-column.ensures in
    let row = c.in_ok-row.ensures in
    let wide = ap (λ e. e.width) c.env.view_is in
    let high = ap (λ e. e.height) c.env.view_is in
    sym (place_at c.args.env.now c.args.x c.args.y c.args.t c.in_ok-column.column c.in_ok-row.row
    (omega (arith, ints, column.cell)) (omega (arith, ints, row.cell))
    (omega (arith, wide, column.inside)) (omega (arith, high, row.inside)))
