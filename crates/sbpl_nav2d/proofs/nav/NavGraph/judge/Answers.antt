use Rattle.std.proofs.Common.{◌+◌, ◌*◌, ap, sym, ◌∙◌}
use Rattle.std.specs.Option.{option_map}
use Rattle.sbpl_nav2d.specs.Directions.{step_cost}
use Rattle.sbpl_nav2d.specs.World.{GridWorld}
use Rattle.sbpl_nav2d.proofs.GraphLaws.{headed}
use Rattle.sbpl_nav2d.proofs.Networks.{fan_is, cost_by}
use Rattle.sbpl_nav2d.proofs.nav.NavGraph.judge.Goals as goal

pub greatest_read-requires-clause-number : goal.greatest_read-requires-clause-number
greatest_read-requires-clause-number c = rw fan_is at c.requires.number

pub returns-in_err-greatest-clause-value : goal.returns-in_err-greatest-clause-value
returns-in_err-greatest-clause-value c =
    let is = cost_by c.args.self.now c.args.s c.args.k c.limit_of.result c.self.inside.map c.cell_of.result
    (c.limit_of.ensures.limit ∙ ap (λ (w : GridWorld). w.env.obsthresh) c.self.view_is)
    (ap (λ (w : GridWorld). w.map) c.self.view_is) c.cell_of.ensures.cell in
    c.from_residual.ensures
    ∙ ap (option_map (λ greatest. step_cost c.args.k * (greatest + 1))) c.in_err-greatest.ensures.value ∙ is

pub returns-clause-value : goal.returns-clause-value
returns-clause-value c =
    let is = cost_by c.args.self.now c.args.s c.args.k c.limit_of.result c.self.inside.map c.cell_of.result
    (c.limit_of.ensures.limit ∙ ap (λ (w : GridWorld). w.env.obsthresh) c.self.view_is)
    (ap (λ (w : GridWorld). w.map) c.self.view_is) c.cell_of.ensures.cell in
    rw (c.step_cost.ensures.value, c.from.ensures)
    (ap (option_map (λ greatest. step_cost c.args.k * (greatest + 1))) c.in_ok-greatest.ensures.value ∙ is)

pub returns-clause-headed : goal.returns-clause-headed
returns-clause-headed c = headed c.args.self.now c.args.s c.args.k _ (sym (returns-clause-value c))
