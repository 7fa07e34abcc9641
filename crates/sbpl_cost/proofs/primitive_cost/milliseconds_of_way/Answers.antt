use Rattle.std.proofs.Common.{◌≡◌, ◌∙◌, ◌*◌, ◌<◌, SFits, w64, to_z-of_z, rules, arith}
use Rattle.std.proofs.lemmas.Int.{ints}
use Rattle.std.proofs.Math.Nat.{le-mul_of_pos_right}
use Rattle.sbpl_cost.specs.PrimitiveCost.{way_length}
use Rattle.sbpl_cost.proofs.RoundedUp.{ceiling-is}
use Rattle.sbpl_cost.proofs.Costs.{quotient-some}
use Rattle.sbpl_cost.proofs.primitive_cost.milliseconds_of_way.Goals as goal

pub length_of_way-requires-clause-in_range : goal.length_of_way-requires-clause-in_range
length_of_way-requires-clause-in_range c = rw c.as_slice.ensures.items c.requires.primitive.poses

pub returns-clause-value : goal.returns-clause-value
returns-clause-value c =
    let fits : SFits w64 c.env.inside.speed = search rules in
    let speed = simp to_z-of_z at c.unsigned_abs.ensures.value in
    let way = rw c.as_slice.ensures.items at c.length_of_way.ensures.value in
    let gone : 1000 * c.from-way.result ≡ 1000 * way_length c.args.p.now.poses = rw (c.from-way.ensures, way) in
    rw (← c.env.view_is) (ceiling-is _ _ _ _ _ gone (c.from.ensures ∙ speed) (omega (arith, ints))
    c.ceil_div.ensures.enough c.ceil_div.ensures.least)

pub returns-clause-positive : goal.returns-clause-positive
returns-clause-positive c = λ goes.
    let way = rw c.as_slice.ensures.items at c.length_of_way.ensures.value in
    quotient-some (1000 * c.from-way.result) _ _ (omega arith) c.ceil_div.ensures.enough

pub returns-clause-small : goal.returns-clause-small
returns-clause-small c =
    let fits : SFits w64 c.env.inside.speed = search rules in
    let speed = simp to_z-of_z at c.unsigned_abs.ensures.value in
    let some : 0 < c.from.result = omega (arith, ints) in
    let poses = rw c.as_slice.ensures.items at c.length_of_way.ensures.small in
    let least = c.ceil_div.ensures.least (1000 * c.from-way.result) (le-mul_of_pos_right _ some) in
    omega arith
