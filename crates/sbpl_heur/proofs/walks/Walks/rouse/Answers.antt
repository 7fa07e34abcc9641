use Rattle.std.proofs.Common.{◌≡◌, ℕ, ap, sym, ◌∙◌, arith}
use Rattle.sbpl_heur.specs.Boards.{start_of, end_of}
use Rattle.sbpl_heur.specs.Followed.{Walking, distance}
use Rattle.sbpl_heur.proofs.Doubting.{more_marks}
use Rattle.sbpl_heur.proofs.walks.Walks.rouse.Goals as goal

pub wake_after-requires : goal.wake_after-requires
wake_after-requires c =
    let board = ap (λ (z : Walking). z.board) c.doubt_before.ensures.marks.rest in
    record { spot = rw board c.requires.spot; hop = rw board c.requires.hop }

pub returns : goal.returns
returns c =
    let old = c.args.self.now in
    let between = c.doubt_before.new.self in
    let new = c.wake_after.new.self in
    let first = c.doubt_before.ensures.marks in
    let second = c.wake_after.ensures.marks in
    let marks = more_marks old between new first second in
    let board : new.board ≡ old.board = ap (λ (z : Walking). z.board) marks.rest in
    let board_between : between.board ≡ old.board = ap (λ (z : Walking). z.board) first.rest in
    let same : (a : ℕ) → distance new a ≡ distance old a = λ a. ap (λ (z : Walking). distance z a) marks.rest in
    let same_between : (a : ℕ) → distance between a ≡ distance old a =
    λ a. ap (λ (z : Walking). distance z a) first.rest in
    record {
      marks = marks;
      roused = record {
        doubts = λ a start beyond near.
            second.doubts a (c.doubt_before.ensures.doubted a (ap (λ b. start_of b c.args.cell c.args.k) (sym board) ∙ start)
            (omega (arith, same a, beyond)) (omega (arith, same a, near)));
        waits = λ a end near.
            c.wake_after.ensures.waits a
            (ap (λ b. end_of b c.args.cell c.args.k) (board_between ∙ sym board) ∙ end)
            (omega (arith, same a, same_between a, near));
      };
    }
