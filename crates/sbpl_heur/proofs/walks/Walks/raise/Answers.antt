use Rattle.std.proofs.Common.{◌≡◌, length, arith, ap, sym, ◌∙◌, subst}
use Rattle.sbpl_heur.specs.Boards.{cell_count}
use Rattle.sbpl_heur.specs.Followed.{Walking, distance, AreRoused, IsDoubtful}
use Rattle.sbpl_heur.proofs.Doubting.{still_beside, forgotten}
use Rattle.sbpl_heur.proofs.walks.Walks.raise.Goals as goal

pub forget-requires : goal.forget-requires
forget-requires c =
    let rest = c.rouse_around.ensures.marks.rest in
    record {
      cell = omega (arith, c.requires.cell, ap (λ (z : Walking). cell_count z.board) rest);
      beside = λ same. c.requires.beside (same ∙ ap (λ (z : Walking). z.goal) rest);
    }

pub returns : goal.returns
returns c =
    let old = c.args.self.now in
    let s = c.rouse_around.new.self in
    let rest = c.rouse_around.ensures.marks.rest in
    let made = c.forget.ensures.forgotten in
    let was : distance old c.args.cell ≡ distance s c.args.cell = ap (λ (z : Walking). distance z c.args.cell) (sym rest) in
    let hops : length old.board.hops ≡ length s.board.hops = ap (λ (z : Walking). length z.board.hops) (sym rest) in
    let roused = subst (λ n. AreRoused s c.args.cell n (length s.board.hops)) was
    (subst (λ n. AreRoused s c.args.cell (distance old c.args.cell) n) hops c.rouse_around.ensures.roused) in
    record {
      board = ap (λ (z : Walking). z.board) made ∙ ap (λ (z : Walking). z.board) rest;
      goal = ap (λ (z : Walking). z.goal) made ∙ ap (λ (z : Walking). z.goal) rest;
      doubtful = subst IsDoubtful (sym made) (forgotten s c.forget.ensures.sizes c.args.cell
          (omega (arith, c.requires.cell, ap (λ (z : Walking). cell_count z.board) rest)) roused
          (still_beside old s c.args.cell c.rouse_around.ensures.marks c.requires.doubtful));
    }
