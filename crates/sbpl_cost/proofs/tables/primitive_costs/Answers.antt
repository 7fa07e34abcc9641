use Rattle.std.proofs.Common.{arith, subst}
use Rattle.std.proofs.lemmas.Option.{slice_get_within}
use Rattle.sbpl_sweep.specs.sbpl_mprim.Primitives.{IsPrimitive}
use Rattle.sbpl_cost.proofs.CostTables.{costs_more, read_there}
use Rattle.sbpl_cost.proofs.tables.primitive_costs.Goals as goal

pub prim_cost-requires-clause-primitive : goal.prim_cost-requires-clause-primitive
prim_cost-requires-clause-primitive c =
    let there =
    read_there c.as_slice-primitives.result.now c.args.prims.now.items c.loop-i.i c.index-primitives-i.result
    c.as_slice-primitives.ensures.prims (omega (arith, c.loop-i-test.true, c.len-i-end.ensures.count))
    c.index-primitives-i.is in
    let good = c.as_slice-primitives.ensures.kept.each c.loop-i.i c.index-primitives-i.result there in
    subst (λ n. IsPrimitive c.args.env.now.cell n c.index-primitives-i.result) c.requires.headings
    (subst (λ n. IsPrimitive n c.args.prims.now.headings c.index-primitives-i.result) c.requires.cell good)

pub returns-in_default-clause-cause : goal.returns-in_default-clause-cause
returns-in_default-clause-cause c =
    let there =
    read_there c.as_slice-primitives.result.now c.args.prims.now.items c.loop-i.i c.index-primitives-i.result
    c.as_slice-primitives.ensures.prims (omega (arith, c.loop-i-test.true, c.len-i-end.ensures.count))
    c.index-primitives-i.is in
    record {
      here = (c.index-primitives-i.result, there, c.in_default.ensures.none);
      before = λ i p before at. (c.loop-i.invariant.1 i p before at).1;
    }

pub loop-i-preserved : goal.loop-i-preserved
loop-i-preserved c =
    let there =
    read_there c.as_slice-primitives.result.now c.args.prims.now.items c.loop-i.i c.index-primitives-i.result
    c.as_slice-primitives.ensures.prims (omega (arith, c.loop-i-test.true, c.len-i-end.ensures.count))
    c.index-primitives-i.is in
    costs_more c.args.env.now c.args.prims.now.items c.loop-i.costs.items c.push.new.self.items c.loop-i.i
    c.in-Some.cost c.index-primitives-i.result there c.loop-i.invariant
    c.in-Ok.ensures.items c.in-Some.ensures.value c.in-Some.ensures.limit c.in-Some.ensures.positive

pub returns-clause-cheap : goal.returns-clause-cheap
returns-clause-cheap c = λ i p at. c.loop-i.invariant.1 i p
    (omega (arith, slice_get_within c.args.prims.now.items i p at, c.len-i-end.ensures.count, c.loop-i-test.false)) at
