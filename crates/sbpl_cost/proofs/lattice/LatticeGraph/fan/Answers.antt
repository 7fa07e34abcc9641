use Rattle.std.proofs.Common.{arith, rules, ap, sym, ◌≤◌, ◌∙◌, length}
use Rattle.std.proofs.lemmas.Option.{same_Some, slice_get_within}
use Rattle.sbpl_cost.specs.Lattices.{leaving}
use Rattle.sbpl_cost.proofs.Views.{fan_is, few_leaving}
use Rattle.sbpl_cost.proofs.lattice.LatticeGraph.fan.Goals as goal

pub overflow_cast-result : goal.overflow_cast-result
overflow_cast-result c =
    let entry =
    c.self.invariant.leaving c.heading_of.result
    (omega (arith, c.heading_of.ensures.heading, c.self.invariant.world.headings)) in
    let same = same_Some c.at.result.now _ (sym c.at.ensures.list ∙ entry) in
    let few : length c.at.result.now ≤ 4096 = omega (
      arith,
      ap length same,
      few_leaving c.self.inside.prims.items c.heading_of.result,
      c.self.invariant.world.prims.count,
    ) in
    search rules

pub returns-clause-value : goal.returns-clause-value
returns-clause-value c =
    let entry =
    c.self.invariant.leaving c.heading_of.result
    (omega (arith, c.heading_of.ensures.heading, c.self.invariant.world.headings)) in
    let same = same_Some c.at.result.now _ (sym c.at.ensures.list ∙ entry) in
    rw (← c.self.view_is) (ap length same
    ∙ ap (λ t. length (leaving c.self.inside.prims.items t)) c.heading_of.ensures.value ∙ sym (fan_is _ c.args.s))

pub returns-clause-few : goal.returns-clause-few
returns-clause-few c =
    let entry =
    c.self.invariant.leaving c.heading_of.result
    (omega (arith, c.heading_of.ensures.heading, c.self.invariant.world.headings)) in
    let same = same_Some c.at.result.now _ (sym c.at.ensures.list ∙ entry) in
    omega (
      arith,
      ap length same,
      few_leaving c.self.inside.prims.items c.heading_of.result,
      c.self.invariant.world.prims.count,
    )

pub at-requires : goal.at-requires
at-requires c = record {
  number =
      slice_get_within c.self.inside.leaving c.heading_of.result _ (c.self.invariant.leaving c.heading_of.result
      (omega (arith, c.heading_of.ensures.heading, c.self.invariant.world.headings)));
}
