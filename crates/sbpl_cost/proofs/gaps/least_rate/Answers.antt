use Rattle.std.proofs.Common.{ap, ◌∙◌, length, refl}
use Rattle.std.proofs.lemmas.List.{take_all}
use Rattle.std.proofs.lemmas.Option.{slice_get_read}
use Rattle.sbpl_cost.specs.Gaps.{least_floor}
use Rattle.sbpl_cost.proofs.CostTables.{cheap_at}
use Rattle.sbpl_cost.proofs.Lessers.{least_more, rate_found, none_found}
use Rattle.sbpl_cost.proofs.gaps.least_rate.Goals as goal

pub fraction_by-requires-clause-primitive : goal.fraction_by-requires-clause-primitive
fraction_by-requires-clause-primitive c =
    c.requires.primitives c.loop-i.i _
    (slice_get_read c.args.prims.now (length c.args.prims.now) c.loop-i.i _ refl c.loop-i-test.true c.index-prims-i.is)

pub fraction_by-requires-clause-cheap : goal.fraction_by-requires-clause-cheap
fraction_by-requires-clause-cheap c =
    cheap_at c.args.env.now c.args.prims.now c.args.costs.now c.loop-i.i c.requires.costs
    c.requires.cheap c.loop-i-test.true

pub loop-i-preserved : goal.loop-i-preserved
loop-i-preserved c =
    least_more c.args.env.now c.args.way c.args.prims.now c.loop-i.i c.index-prims-i.result c.loop-i.least
    c.fraction_by.result c.lesser-least.result
    (slice_get_read c.args.prims.now (length c.args.prims.now) c.loop-i.i _ refl c.loop-i-test.true
    c.index-prims-i.is) c.loop-i.invariant c.fraction_by.ensures.floor c.lesser-least.ensures.floor

pub returns-in_default : goal.returns-in_default
returns-in_default c =
    record {
      rate =
          none_found c.args.env.now c.args.way c.args.prims.now c.loop-i.least (λ n. c.loop-i.invariant n
          ∙ ap (least_floor c.args.env.now c.args.way n) (take_all c.loop-i.i c.args.prims.now c.loop-i-test.false))
          c.in_default.is;
    }

pub returns : goal.returns
returns c =
    record {
      rate =
          rate_found c.args.env.now c.args.way c.args.prims.now c.loop-i.least c.in-Some.rate (λ n. c.loop-i.invariant n
          ∙ ap (least_floor c.args.env.now c.args.way n) (take_all c.loop-i.i c.args.prims.now c.loop-i-test.false))
          c.in-Some.is;
    }
