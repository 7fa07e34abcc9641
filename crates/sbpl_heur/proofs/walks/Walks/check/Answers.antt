use Rattle.std.proofs.Common.{arith, ap, ◌∙◌}
use Rattle.sbpl_heur.proofs.Doubting.{cleared}
use Rattle.sbpl_heur.proofs.walks.Walks.check.Goals as goal
use Rattle.sbpl_heur.proofs.walks.Walks.check.Goals.{else-cell-self-via-then-cell-self+then-weight-lt-FAR+else-not-is_supported}
use Rattle.sbpl_heur.proofs.walks.Walks.check.Goals.{else-cell-self-via-then-cell-self+else-weight-lt-FAR}
use Rattle.sbpl_heur.proofs.walks.Walks.check.Goals.{else-cell-self-via-else-cell-self}

pub returns-else-cell-self-clause-doubtful : goal.returns-else-cell-self-clause-doubtful
returns-else-cell-self-clause-doubtful c =
    let s = c.args.self.now in
    cleared s c.args.cell (λ near beside. elim c.else-cell-self.branch [
      | else-cell-self-via-then-cell-self+then-weight-lt-FAR+else-not-is_supported w ↦
          w.is_supported.ensures.supported w.if-not-is_supported.false
      | else-cell-self-via-then-cell-self+else-weight-lt-FAR w ↦
          absurd (omega (arith, near, w.weight.ensures.value, w.if-weight-lt-FAR.false))
      | else-cell-self-via-else-cell-self w ↦
          absurd (beside (w.if-cell-self.false ∙ ap (λ z. z.goal) c.self.view_is))
    ]) c.requires.doubtful
