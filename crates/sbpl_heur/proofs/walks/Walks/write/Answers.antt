use Rattle.std.proofs.Common.{◌≡◌, length, arith, ap, sym, ◌∙◌, subst, set}
use Rattle.sbpl_heur.specs.Boards.{IsBoard, cell_count}
use Rattle.sbpl_heur.specs.Followed.{Walking, distance, AreRoused, IsDoubtful}
use Rattle.sbpl_heur.proofs.Doubting.{still_doubtful, written}
use Rattle.sbpl_heur.proofs.walks.Walks.write.Goals as goal

pub set-requires : goal.set-requires
set-requires c = record {
  cell = omega (arith, c.requires.cell, ap (λ (z : Walking). cell_count z.board) c.rouse_around.ensures.marks.rest);
}

pub returns : goal.returns
returns c =
    let old = c.args.self.now in
    let s = c.rouse_around.new.self in
    let rest = c.rouse_around.ensures.marks.rest in
    let made = c.set.ensures.set in
    let was : distance old c.args.cell ≡ distance s c.args.cell = ap (λ (z : Walking). distance z c.args.cell) (sym rest) in
    let hops : length old.board.hops ≡ length s.board.hops = ap (λ (z : Walking). length z.board.hops) (sym rest) in
    let roused = subst (λ n. AreRoused s c.args.cell n (length s.board.hops)) was
    (subst (λ n. AreRoused s c.args.cell (distance old c.args.cell) n) hops c.rouse_around.ensures.roused) in
    let board = ap (λ (z : Walking). z.board) made in
    record {
      board = board ∙ ap (λ (z : Walking). record z.board { costs = set z.board.costs c.args.cell c.args.cost }) rest;
      goal = ap (λ (z : Walking). z.goal) made ∙ ap (λ (z : Walking). z.goal) rest;
      doubtful = subst IsDoubtful (sym made) (written s c.set.ensures.sizes c.args.cell c.args.cost
          (omega (arith, c.requires.cell, ap (λ (z : Walking). cell_count z.board) rest))
          (subst IsBoard board c.set.ensures.kept.board) roused
          (still_doubtful old s c.rouse_around.ensures.marks c.requires.doubtful));
    }
