use Rattle.std.proofs.Common.{◌+◌, ◌<◌, ◌≤◌, ◌∙◌, length, arith, rules, ap, subst, get_or}
use Rattle.std.proofs.Math.ListN.{set}
use Rattle.std.proofs.lemmas.Option.{slice_get_within}
use Rattle.sbpl_cost.proofs.ArcNumbers.{counted_more, read_there, few_before, read_inside, numbers_from}
use Rattle.sbpl_cost.proofs.tables.number_table.Goals as goal

pub index-number-requires : goal.index-number-requires
index-number-requires c = omega (
  arith,
  read_inside c.args.end c.args.prims.now.cell c.args.prims.now.headings c.heading_at-heading.result c.get.result.now
      (c.headings.ensures.kept.each c.loop-i.i c.get.result.now c.get.ensures.prim)
      c.heading_at-heading.ensures.heading,
  c.loop-i.invariant.size,
)

pub overflow_add-number : goal.overflow_add-number
overflow_add-number c =
    let h = c.heading_at-heading.result in
    let inside =
    read_inside c.args.end c.args.prims.now.cell c.args.prims.now.headings c.heading_at-heading.result c.get.result.now
    (c.headings.ensures.kept.each c.loop-i.i c.get.result.now c.get.ensures.prim)
    c.heading_at-heading.ensures.heading in
    let within : h < length c.loop-i.counts.items = omega (arith, inside, c.loop-i.invariant.size) in
    let is = read_there c.loop-i.counts.items h c.index-number.result.now within c.index-number.ensures in
    let place = slice_get_within c.args.prims.now.items c.loop-i.i c.get.result.now c.get.ensures.prim in
    let few = few_before c.args.end c.args.prims.now.items h c.loop-i.i (omega (arith, place)) in
    let small : c.index-number.result.now ≤ 4096 =
    omega (arith, is, few, c.loop-i.invariant.counts h inside, place, c.headings.ensures.kept.count) in
    search rules

pub index_mut-requires : goal.index_mut-requires
index_mut-requires c = omega (
  arith,
  read_inside c.args.end c.args.prims.now.cell c.args.prims.now.headings c.heading_at-heading.result c.get.result.now
      (c.headings.ensures.kept.each c.loop-i.i c.get.result.now c.get.ensures.prim)
      c.heading_at-heading.ensures.heading,
  c.loop-i.invariant.size,
)

pub loop-i-preserved : goal.loop-i-preserved
loop-i-preserved c =
    let h = c.heading_at-heading.result in
    let same = c.heading_at-heading.ensures.heading in
    let inside =
    read_inside c.args.end c.args.prims.now.cell c.args.prims.now.headings c.heading_at-heading.result c.get.result.now
    (c.headings.ensures.kept.each c.loop-i.i c.get.result.now c.get.ensures.prim)
    c.heading_at-heading.ensures.heading in
    let within : h < length c.loop-i.counts.items = omega (arith, inside, c.loop-i.invariant.size) in
    let is = read_there c.loop-i.counts.items h c.index-number.result.now within c.index-number.ensures in
    counted_more c.args.end c.args.prims.now.items c.args.prims.now.headings c.loop-i.counts.items
    c.loop-i.numbers.items c.loop-i.i c.get.result.now
    c.loop-i.invariant c.get.ensures.prim (subst (λ x. x < c.args.prims.now.headings) same inside)
    _ _ c.index-number.result.now (is ∙ ap (λ x. get_or c.loop-i.counts.items x 0) same) c.in_ok-push.ensures.items
    (ap (λ x. set c.loop-i.counts.items x (c.index-number.result.now + 1)) same)

pub returns : goal.returns
returns c = record {
  numbers =
      numbers_from c.args.end c.args.prims.now.items c.args.prims.now.headings c.loop-i.i
      c.loop-i.counts.items c.loop-i.numbers.items
      (omega (arith, c.loop-i.auto.i-end, c.loop-i-test.false, c.len-i-end.ensures.count)) c.loop-i.invariant;
}
