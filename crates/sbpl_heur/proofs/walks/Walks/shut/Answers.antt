use Rattle.std.proofs.Common.{sym, subst, arith}
use Rattle.sbpl_heur.specs.Followed.{IsShut}
use Rattle.sbpl_heur.proofs.Sinking.{one_written, now_shut}
use Rattle.sbpl_heur.proofs.walks.Walks.shut.Goals as goal
use Rattle.sbpl_heur.proofs.walks.Walks.shut.Goals.{then-is_blocked, else-is_blocked}

pub loop-cell-preserved : goal.loop-cell-preserved
loop-cell-preserved c =
    let so_far = c.loop-cell.invariant in
    elim c.if-is_blocked.branch [
      | then-is_blocked w ↦
          let made =
          one_written c.args.self.now c.loop-cell.self w.set_distance.new.self c.loop-cell.cell 0 so_far.rest
          so_far.differs w.set_distance.ensures.set (c.is_blocked.ensures.wall w.if-is_blocked.true)
          (c.is_blocked.ensures.beside w.if-is_blocked.true) (omega arith) in
          rw w.self-is (record { rest = made.0; differs = made.1 })
      | else-is_blocked w ↦ rw w.self-is (record { rest = so_far.rest; differs = so_far.differs })
    ]

pub returns-clause-shut : goal.returns-clause-shut
returns-clause-shut c =
    let done = c.loop-cell.invariant in
    subst IsShut (sym done.rest) (now_shut c.args.self.now c.loop-cell.self.distances done.differs c.requires.sinking)
