use Rattle.std.proofs.Common.{◌≡◌, ◌*◌, max, arith}
use Rattle.sbpl_cost.specs.PrimitiveCost.{linear_time, angular_time, primitive_cost}
use Rattle.sbpl_cost.proofs.Costs.{product-some, time-some}
use Rattle.sbpl_cost.proofs.primitive_cost.prim_cost.Goals as goal

pub returns-then-cost-from-clause-value : goal.returns-then-cost-from-clause-value
unfolding primitive_cost
returns-then-cost-from-clause-value c =
    let time = c.max-time.ensures in
    rw (c.from.ensures, time, c.milliseconds_of_way.ensures.value, c.milliseconds_of_turn.ensures.value)

pub returns-then-cost-from-clause-positive : goal.returns-then-cost-from-clause-positive
returns-then-cost-from-clause-positive c =
    let some =
    time-some _ _ c.milliseconds_of_way.result c.milliseconds_of_turn.result c.args.p.now c.requires.primitive
    c.milliseconds_of_way.ensures.positive c.milliseconds_of_turn.ensures.positive in
    let mult = (c.requires.primitive.mult).0 in
    product-some c.from.result c.max-time.result (omega arith) (omega arith)

pub returns-else-cost-from-clause-none : goal.returns-else-cost-from-clause-none
unfolding primitive_cost
returns-else-cost-from-clause-none c =
    let is : c.from.result * c.max-time.result
    ≡ c.args.p.now.mult * max (linear_time c.args.env.now c.args.p.now) (angular_time c.args.env.now c.args.p.now) =
    rw (
      c.from.ensures,
      c.max-time.ensures,
      c.milliseconds_of_way.ensures.value,
      c.milliseconds_of_turn.ensures.value,
    ) in
    rw (← is) (omega arith)
