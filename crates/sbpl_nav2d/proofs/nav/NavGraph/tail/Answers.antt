use Rattle.std.proofs.Common.{arith, ap, ◌∙◌}
use Rattle.std.specs.Option.{option_map}
use Rattle.sbpl_nav2d.proofs.Networks.{fan_is, tail_fan_is, tail_by}
use Rattle.sbpl_nav2d.proofs.nav.NavGraph.tail.Goals as goal

pub direction-requires : goal.direction-requires
direction-requires c = let few = rw tail_fan_is at c.requires.number in record { number = omega arith }

pub returns-in_err-source-clause-value : goal.returns-in_err-source-clause-value
returns-in_err-source-clause-value c =
    let is = tail_by c.args.self.now c.args.t c.args.j c.cell_of.result c.direction.result c.moved_back.result
    c.cell_of.ensures.cell c.direction.ensures.value c.moved_back.ensures.cell in
    c.from_residual.ensures ∙ ap (option_map (λ s. (s, c.args.j))) c.in_err-source.ensures.value ∙ is

pub returns-clause-value : goal.returns-clause-value
returns-clause-value c =
    let is = tail_by c.args.self.now c.args.t c.args.j c.cell_of.result c.direction.result c.moved_back.result
    c.cell_of.ensures.cell c.direction.ensures.value c.moved_back.ensures.cell in
    ap (option_map (λ s. (s, c.args.j))) c.in_ok-source.ensures.value ∙ is

pub returns-clause-inside : goal.returns-clause-inside
returns-clause-inside c =
    let few = rw tail_fan_is at c.requires.number in
    (c.in_ok-source.ensures.inside, rw fan_is few)
