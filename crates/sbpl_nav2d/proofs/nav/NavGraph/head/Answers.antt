use Rattle.std.proofs.Common.{◌∙◌}
use Rattle.sbpl_nav2d.proofs.Networks.{fan_is, head_by}
use Rattle.sbpl_nav2d.proofs.nav.NavGraph.head.Goals as goal

pub direction-requires : goal.direction-requires
direction-requires c = record { number = rw fan_is at c.requires.number }

pub returns-clause-value : goal.returns-clause-value
returns-clause-value c =
    c.state_at.ensures.value
    ∙ head_by c.args.self.now c.args.s c.args.k c.cell_of.result c.direction.result c.moved.result
    c.cell_of.ensures.cell c.direction.ensures.value c.moved.ensures.cell
