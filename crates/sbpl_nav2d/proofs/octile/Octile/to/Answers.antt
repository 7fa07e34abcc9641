use Rattle.std.proofs.Common.{◌*◌, ◌<◌, ap, sym, subst, ◌∙◌}
use Rattle.sbpl_nav2d.specs.Environment.{NavEnvironment}
use Rattle.sbpl_nav2d.proofs.Guiding.{guides}
use Rattle.sbpl_nav2d.proofs.octile.Octile.to.Goals as goal

pub returns-clause-guides : goal.returns-clause-guides
returns-clause-guides c w is_world env =
    let same = c.env.view_is ∙ sym env in
    let inside = subst (λ (e : NavEnvironment). c.args.goal < e.width * e.height) (sym env) c.requires.state in
    guides w (record { width = c.env.inside.width; goal = c.args.goal }) is_world
    (ap (λ (e : NavEnvironment). e.width) same) inside
