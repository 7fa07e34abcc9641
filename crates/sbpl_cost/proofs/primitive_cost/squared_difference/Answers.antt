use Rattle.std.proofs.Common.{◌≤◌, SFits, w64, to_z-of_z, arith}
use Rattle.std.proofs.Math.Nat.{mul-le-mul}
use Rattle.sbpl_cost.proofs.Ways.{apart-le}
use Rattle.sbpl_cost.proofs.primitive_cost.squared_difference.Goals as goal

pub returns-clause-small : goal.returns-clause-small
returns-clause-small c =
    let near = apart-le c.args.a c.args.b c.requires.a c.requires.b in
    let fits_a : SFits w64 c.args.a = c.ranges.a in
    let fits_b : SFits w64 c.args.b = c.ranges.b in
    let is = simp to_z-of_z at c.abs_diff.ensures in
    let le : c.from-apart.result ≤ 2000000000000 = omega arith in
    mul-le-mul le le
