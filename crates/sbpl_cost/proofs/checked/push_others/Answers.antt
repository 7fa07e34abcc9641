use Rattle.std.proofs.Common.{sym, ◌∙◌}
use Rattle.std.proofs.lemmas.Option.{slice_get-get_or}
use Rattle.sbpl_cost.proofs.Checks.{added_more, skipped_more, known_where_equal}
use Rattle.sbpl_cost.proofs.checked.push_others.Goals as goal
use Rattle.sbpl_cost.proofs.checked.push_others.Goals.{then-next-known+then-eq, else-next-known+in_ok-push}

pub loop-cell-preserved : goal.loop-cell-preserved
loop-cell-preserved c =
    let there = slice_get-get_or c.args.cells.now c.loop-cell.cell-index _ c.loop-cell-test.true in
    elim c.if-next-known.branch [
      | then-next-known+then-eq w ↦
          rw w.list-is (skipped_more c.args.list.now.items c.args.cells.now c.args.known.now c.loop-cell.list.items
          c.loop-cell.cell-index _ there c.loop-cell.invariant
          (known_where_equal c.args.known.now c.loop-cell.next _ w.if-next-known.true
          (sym w.eq.ensures ∙ w.if-eq.true)))
      | else-next-known+in_ok-push w ↦
          rw w.list-is (added_more c.args.list.now.items c.args.cells.now c.args.known.now c.loop-cell.list.items
          c.loop-cell.cell-index _ there c.loop-cell.invariant w.push.new.self.items w.in_ok-push.ensures.items)
    ]
