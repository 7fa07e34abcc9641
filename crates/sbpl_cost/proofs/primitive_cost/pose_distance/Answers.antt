use Rattle.std.proofs.Common.{◌≡◌, ◌+◌, SFits, w64, to_z-of_z, rules, arith}
use Rattle.sbpl_cost.specs.PrimitiveCost.{squared_distance}
use Rattle.sbpl_cost.proofs.RoundedUp.{root_above-is}
use Rattle.sbpl_cost.proofs.primitive_cost.pose_distance.Goals as goal

pub returns-clause-value : goal.returns-clause-value
returns-clause-value c =
    let px : SFits w64 c.args.p.now.x = search rules in
    let py : SFits w64 c.args.p.now.y = search rules in
    let qx : SFits w64 c.args.q.now.x = search rules in
    let qy : SFits w64 c.args.q.now.y = search rules in
    let along_x = simp to_z-of_z at c.squared_difference.ensures.value in
    let along_y = simp to_z-of_z at c.squared_difference-2.ensures.value in
    let same : c.squared_difference.result + c.squared_difference-2.result
    ≡ squared_distance c.args.p.now c.args.q.now = rw (along_x, along_y) in
    root_above-is _ _ _ same c.ceil_root.ensures.enough c.ceil_root.ensures.least

pub returns-clause-small : goal.returns-clause-small
returns-clause-small c = c.ceil_root.ensures.least 3000000000000 (omega arith)
