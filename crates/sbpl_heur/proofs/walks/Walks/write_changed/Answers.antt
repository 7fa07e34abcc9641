use Rattle.std.proofs.Common.{◌≡◌, ◌+◌, arith, ap, sym, ◌∙◌, subst, refl, slice_index, length}
use Rattle.sbpl_heur.specs.Boards.{Board}
use Rattle.sbpl_heur.specs.Followed.{Walking, HasLeast}
use Rattle.sbpl_heur.proofs.Following.{AreWrittenBelow, kept_written, more_written, all_written}
use Rattle.sbpl_heur.proofs.Settling.{doubtful}
use Rattle.sbpl_heur.proofs.walks.Walks.write_changed.Goals as goal
use Rattle.sbpl_heur.proofs.walks.Walks.write_changed.Goals.{then-not-has_cost, else-not-has_cost}

pub loop-i-init : goal.loop-i-init
loop-i-init c =
    let rest = c.clear_marks.ensures.rest in
    let board : c.clear_marks.new.self.board ≡ c.args.self.now.board = ap (λ (z : Walking). z.board) rest in
    record {
      written = record {
        rest = board ∙ ap (λ (l : Board). record c.args.self.now.board { costs = l.costs }) (sym board);
        size = ap (λ (b : Board). length b.costs) board;
        same = λ j below. absurd (omega (arith, below));
      };
      goal = ap (λ (z : Walking). z.goal) rest;
      doubtful = doubtful c.clear_marks.new.self c.clear_marks.ensures.sizes (subst HasLeast (sym rest) c.requires.least);
    }

pub loop-i-preserved : goal.loop-i-preserved
loop-i-preserved c =
    let costs = c.args.costs.now in
    let i = c.loop-i.i in
    let so_far = c.loop-i.invariant.written in
    elim c.if-not-has_cost.branch [
      | then-not-has_cost w ↦ rw w.self-is (record {
        written =
            subst (λ b. AreWrittenBelow c.args.self.now.board b costs (i + 1)) (sym w.write.ensures.board)
            (more_written c.args.self.now.board c.loop-i.self.board costs i _
            (omega (arith, c.loop-i-test.true, c.requires.size, so_far.size)) refl so_far);
        goal = w.write.ensures.goal ∙ c.loop-i.invariant.goal;
        doubtful = w.write.ensures.doubtful;
      })
      | else-not-has_cost w ↦ rw w.self-is (record {
        written =
            kept_written c.args.self.now.board c.loop-i.self.board costs i (ap (λ z. slice_index z.board.costs i)
            (sym c.self.view_is) ∙ c.has_cost.ensures.value.0 w.if-not-has_cost.false) so_far;
        goal = c.loop-i.invariant.goal;
        doubtful = c.loop-i.invariant.doubtful;
      })
    ]

pub returns : goal.returns
returns c = record {
  board =
      all_written c.args.self.now.board c.loop-i.self.board c.args.costs.now c.loop-i.i c.requires.size
      c.loop-i-test.false c.loop-i.invariant.written;
  goal = c.loop-i.invariant.goal;
  doubtful = c.loop-i.invariant.doubtful;
}
