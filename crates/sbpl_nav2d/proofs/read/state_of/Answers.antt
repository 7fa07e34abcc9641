use Rattle.std.proofs.Common.{arith, nat_lt}
use Rattle.std.proofs.lemmas.Bool.{and_parts, ltb-true}
use Rattle.std.proofs.lemmas.Nat.{mul-add-lt}
use Rattle.sbpl_nav2d.proofs.read.state_of.Goals as goal

pub returns-clause-inside : goal.returns-clause-inside
returns-clause-inside c =
    let p = c.args.p.now in
    let size = c.args.size.now in
    let both = and_parts (nat_lt p.x size.width) (nat_lt p.y size.height) c.requires.on_map in
    let inside = mul-add-lt p.y size.width p.x size.height (ltb-true p.y size.height both.1)
    (ltb-true p.x size.width both.0) in
    omega (arith, inside)
