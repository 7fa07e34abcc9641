use Rattle.std.proofs.Common.{◌<◌, ◌+◌, ◌++◌, ◌∷◌, [], ◌∙◌, ap, length, arith}
use Rattle.std.proofs.lemmas.Result.{err_from_is_err_and}
use Rattle.sbpl_sweep.proofs.TablesSwept.{tabled_more, tabled_all, none_wide, own_too_wide, sum_too_wide}
use Rattle.sbpl_sweep.proofs.tables.swept_table.Goals as goal

pub returns-in_err-cells-clause-cause : goal.returns-in_err-cells-clause-cause
returns-in_err-cells-clause-cause c =
    let p = err_from_is_err_and c.from_residual-in_err-cells.result c.from_residual-in_err-cells.ensures.1 in
    rw (p.1, p.2) (own_too_wide c.args.prims.now c.args.radius c.loop-i.i c.loop-i.table c.loop-i.total _
    c.loop-i.invariant c.in_err-cells.ensures.cause)

pub returns-then-total-gt-MOST_TOGETHER-clause-cause : goal.returns-then-total-gt-MOST_TOGETHER-clause-cause
returns-then-total-gt-MOST_TOGETHER-clause-cause c =
    let within : c.loop-i.i < length c.args.prims.now.items =
    omega (arith, c.loop-i-test.true, c.len-i-end.ensures.count) in
    sum_too_wide c.args.prims.now c.args.radius c.loop-i.i c.loop-i.table c.loop-i.total c.in_ok-cells.cells.items
    within c.loop-i.invariant c.in_ok-cells.ensures.swept
    (omega (arith, c.len.ensures, c.in_ok-cells.cells.ok.0))

pub loop-i-preserved : goal.loop-i-preserved
loop-i-preserved c =
    let within : c.loop-i.i < length c.args.prims.now.items =
    omega (arith, c.loop-i-test.true, c.len-i-end.ensures.count) in
    let added = c.in_ok-push.ensures.added ∙ ap (λ l. c.loop-i.table ++ l ∷ []) c.as_slice.ensures.value in
    tabled_more c.args.prims.now c.args.radius c.loop-i.i c.loop-i.table c.push.new.self c.loop-i.total
    (c.loop-i.total + c.len.result) c.in_ok-cells.cells.items within c.loop-i.invariant c.in_ok-cells.ensures.swept
    added (omega (arith, c.len.ensures, c.in_ok-cells.cells.ok.0)) (omega arith)

pub returns-clause-table : goal.returns-clause-table
returns-clause-table c =
    tabled_all c.args.prims.now c.args.radius c.loop-i.i c.loop-i.table c.loop-i.total
    (omega (arith, c.loop-i-test.false, c.loop-i.auto.i-end, c.len-i-end.ensures.count)) c.loop-i.invariant

pub returns-clause-narrow : goal.returns-clause-narrow
returns-clause-narrow c =
    none_wide c.args.prims.now c.args.radius c.loop-i.i c.loop-i.table c.loop-i.total
    (omega (arith, c.loop-i-test.false, c.loop-i.auto.i-end, c.len-i-end.ensures.count)) c.loop-i.invariant

pub returns-clause-few : goal.returns-clause-few
returns-clause-few c = omega (arith, c.loop-i.invariant.total_is, c.loop-i.invariant.few)
