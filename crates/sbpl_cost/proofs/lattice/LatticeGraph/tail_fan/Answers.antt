use Rattle.std.proofs.Common.{arith, rules, ap, sym, ◌≤◌, ◌∙◌, length}
use Rattle.std.proofs.lemmas.Option.{same_Some, slice_get_within}
use Rattle.sbpl_cost.specs.Lattices.{entering}
use Rattle.sbpl_cost.proofs.Tails.{few_entering}
use Rattle.sbpl_cost.proofs.TailViews.{tail_fan_is}
use Rattle.sbpl_cost.proofs.lattice.LatticeGraph.tail_fan.Goals as goal

pub overflow_cast-result : goal.overflow_cast-result
overflow_cast-result c =
    let entry =
    c.self.invariant.entering c.heading_of.result
    (omega (arith, c.heading_of.ensures.heading, c.self.invariant.world.headings)) in
    let same = same_Some c.at.result.now _ (sym c.at.ensures.list ∙ entry) in
    let few : length c.at.result.now ≤ 4096 = omega (
      arith,
      ap length same,
      few_entering c.self.inside.prims.items c.heading_of.result,
      c.self.invariant.world.prims.count,
    ) in
    search rules

pub returns-clause-value : goal.returns-clause-value
returns-clause-value c =
    let entry =
    c.self.invariant.entering c.heading_of.result
    (omega (arith, c.heading_of.ensures.heading, c.self.invariant.world.headings)) in
    let same = same_Some c.at.result.now _ (sym c.at.ensures.list ∙ entry) in
    rw (← c.self.view_is) (ap length same
    ∙ ap (λ t. length (entering c.self.inside.prims.items t)) c.heading_of.ensures.value ∙ sym (tail_fan_is _ c.args.t))

pub returns-clause-few : goal.returns-clause-few
returns-clause-few c =
    let entry =
    c.self.invariant.entering c.heading_of.result
    (omega (arith, c.heading_of.ensures.heading, c.self.invariant.world.headings)) in
    let same = same_Some c.at.result.now _ (sym c.at.ensures.list ∙ entry) in
    omega (
      arith,
      ap length same,
      few_entering c.self.inside.prims.items c.heading_of.result,
      c.self.invariant.world.prims.count,
    )

pub at-requires : goal.at-requires
at-requires c = record {
  number =
      slice_get_within c.self.inside.entering c.heading_of.result _ (c.self.invariant.entering c.heading_of.result
      (omega (arith, c.heading_of.ensures.heading, c.self.invariant.world.headings)));
}
