use Rattle.std.proofs.Common.{◌≡◌, ◌*◌, ◌^◌, ◌<◌, ◌≤◌, SFits, w64, to_z-of_z, rules, arith}
use Rattle.std.specs.Int.RustNames.{unsigned_abs}
use Rattle.std.proofs.lemmas.Int.{ints}
use Rattle.std.proofs.lemmas.Nat.{mul-le}
use Rattle.std.proofs.Math.Nat.{le-mul_of_pos_right}
use Rattle.sbpl_cost.specs.PrimitiveCost.{heading_gap}
use Rattle.sbpl_cost.proofs.RoundedUp.{ceiling-is}
use Rattle.sbpl_cost.proofs.HeadingGaps.{heading_gap-some}
use Rattle.sbpl_cost.proofs.Costs.{product-some, quotient-some}
use Rattle.sbpl_cost.proofs.primitive_cost.milliseconds_of_turn.Goals as goal

pub returns-clause-value : goal.returns-clause-value
returns-clause-value c =
    let fits : SFits w64 c.env.inside.turn45 = search rules in
    let turn45 = simp to_z-of_z at c.unsigned_abs.ensures.value in
    let turned : 8000 * c.from-bins.result * c.from-turn45.result
    ≡ 8000 * heading_gap c.env.inside.headings c.args.p.now.from c.args.p.now.to * unsigned_abs c.env.inside.turn45 =
    rw (c.from-bins.ensures, c.bins_turned.ensures.bins, c.from-turn45.ensures, turn45) in
    let timed : c.from-all_bins.result * 1000000000 ≡ c.env.inside.headings * 10 ^ 9 = rw c.from-all_bins.ensures in
    rw (← c.env.view_is)
    (ceiling-is _ _ _ _ _ turned timed (omega arith) c.ceil_div.ensures.enough c.ceil_div.ensures.least)

pub returns-clause-positive : goal.returns-clause-positive
returns-clause-positive c = λ differ.
    let fits : SFits w64 c.env.inside.turn45 = search rules in
    let turn45 = simp to_z-of_z at c.unsigned_abs.ensures.value in
    let from = rw (← c.env.view_is) at c.requires.primitive.from in
    let to = rw (← c.env.view_is) at c.requires.primitive.to in
    let gap = heading_gap-some c.env.inside.headings c.args.p.now.from c.args.p.now.to from to differ in
    let bins : 0 < 8000 * c.from-bins.result = omega arith in
    let timed : 0 < c.from-turn45.result = omega (arith, ints) in
    quotient-some _ _ _ (product-some _ _ bins timed) c.ceil_div.ensures.enough

pub returns-clause-small : goal.returns-clause-small
returns-clause-small c =
    let fits : SFits w64 c.env.inside.turn45 = search rules in
    let turn45 = simp to_z-of_z at c.unsigned_abs.ensures.value in
    let timed : c.from-turn45.result ≤ 1000000000000 = omega (arith, ints) in
    let few =
    mul-le (8000 * c.from-bins.result) c.from-turn45.result (8000 * 4294967296) 1000000000000 (omega arith) timed in
    let least =
    c.ceil_div.ensures.least (8000 * c.from-bins.result * c.from-turn45.result) (le-mul_of_pos_right _ (omega arith)) in
    omega arith
