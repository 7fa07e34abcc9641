use Rattle.std.proofs.Common.{ap, sym, ◌∙◌}
use Rattle.sbpl_nav2d.specs.Gap.{gap_of}
use Rattle.sbpl_nav2d.proofs.Networks.{gap_is}
use Rattle.sbpl_nav2d.proofs.nav.NavGraph.gap.Goals as goal

pub returns-clause-value : goal.returns-clause-value
returns-clause-value c =
    rw (← c.self.view_is)
    (c.gap_between.ensures.value ∙ ap (λ width. gap_of width c.args.a c.args.b) c.width.ensures.value
    ∙ sym (gap_is _ c.args.a c.args.b))
