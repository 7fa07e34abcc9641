use Rattle.std.proofs.Common.{ap, sym, ◌∙◌, subst}
use Rattle.std.proofs.lemmas.Bool.{false≢true}
use Rattle.sbpl_heur.specs.Followed.{Walking, IsDoubtful, IsSinking}
use Rattle.sbpl_heur.proofs.Doubting.{doubt_taken, doubt_inside, none_doubted}
use Rattle.sbpl_heur.proofs.walks.Walks.check_all.Goals as goal

pub loop-look-init : goal.loop-look-init
loop-look-init c = record {
  board = ap (λ (z : Walking). z.board) c.list_doubted.ensures.same;
  goal = ap (λ (z : Walking). z.goal) c.list_doubted.ensures.same;
  doubtful = subst IsDoubtful (sym c.list_doubted.ensures.same) c.requires.doubtful;
}

pub returns-in_default : goal.returns-in_default
returns-in_default c =
    let same = c.in_default.ensures.kept in
    record {
      board = ap (λ (z : Walking). z.board) same ∙ c.loop-look.invariant.board;
      goal = ap (λ (z : Walking). z.goal) same ∙ c.loop-look.invariant.goal;
      sinking = λ _.
          subst IsSinking (sym same)
          (none_doubted c.loop-look.self c.in_default.ensures.none c.loop-look.invariant.doubtful);
    }

pub check-requires : goal.check-requires
check-requires c = record {
  cell = doubt_inside c.loop-look.self c.take_doubted.new.self c.in-Some.cell c.in-Some.ensures.takes c.in-Some.ensures.sizes;
  doubtful =
      doubt_taken c.loop-look.self c.take_doubted.new.self c.in-Some.cell c.in-Some.ensures.rest c.in-Some.ensures.takes
      c.loop-look.invariant.doubtful;
}

pub loop-look-preserved : goal.loop-look-preserved
loop-look-preserved c =
    let rest = c.in-Some.ensures.rest in
    record {
      board = c.check.ensures.board ∙ ap (λ (z : Walking). z.board) rest ∙ c.loop-look.invariant.board;
      goal = c.check.ensures.goal ∙ ap (λ (z : Walking). z.goal) rest ∙ c.loop-look.invariant.goal;
      doubtful = c.check.ensures.doubtful;
    }

pub returns : goal.returns
returns c = record {
  board = c.loop-look.invariant.board;
  goal = c.loop-look.invariant.goal;
  sinking = λ never. absurd (false≢true never);
}
