use Rattle.sbpl_nav2d.proofs.GraphLaws.{above_step}
use Rattle.sbpl_nav2d.proofs.nav.NavGraph.floor.Goals as goal

pub returns-clause-floor : goal.returns-clause-floor
returns-clause-floor c = λ cost is. rw c.step_cost.ensures.value (above_step c.args.self.now c.args._s c.args.k cost is)
