use Rattle.std.proofs.Common.{◌∙◌}
use Rattle.sbpl_map.proofs.Kept.{cell_kept, replan_kept, start_kept}
use Rattle.sbpl_map.proofs.read.Draft.add.Goals as goal

pub returns-in-Nothing : goal.returns-in-Nothing
returns-in-Nothing c = record { added = λ d e. rw c.in-Nothing.is e }

pub returns-in_ok-push-in-Cell : goal.returns-in_ok-push-in-Cell
returns-in_ok-push-in-Cell c = record {
  added = λ d e.
      let pushed = c.in_ok-push-in-Cell.ensures.items in
      rw c.in-Cell.is (cell_kept d c.args.number c.in-Cell.write _ c.push.new.self.items (c.self.view_is ∙ e) pushed);
}

pub returns-in-Start : goal.returns-in-Start
returns-in-Start c =
    record { added = λ d e. rw c.in-Start.is (start_kept d c.args.number c.in-Start.place _ (c.self.view_is ∙ e)) }

pub returns-in_ok-push-in-Replan-2 : goal.returns-in_ok-push-in-Replan-2
returns-in_ok-push-in-Replan-2 c = record {
  added = λ d e.
      let batches = rw c.as_slice.ensures.value at c.in_ok-push-in-Replan.ensures.added in
      let moves = c.in_ok-push-in-Replan-2.ensures.added in
      let step =
      replan_kept d c.args.number _ c.push-in-Replan.new.self c.push-in-Replan-2.new.self c.clear.new.self.items
      (c.self.view_is ∙ e) batches moves c.clear.ensures.items in
      rw c.in-Replan.is step;
}
