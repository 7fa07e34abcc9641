use Rattle.std.proofs.Common.{refl, subst, rules, w64, FitsSigned}
use Rattle.std.proofs.lemmas.Int.{to_z-of_z}
use Rattle.sbpl_sweep.specs.Reach.{IsAxis}
use Rattle.sbpl_sweep.proofs.rows.disc_of.Goals as goal

pub returns-clause-disc : goal.returns-clause-disc
returns-clause-disc c =
    let cell : FitsSigned w64 c.args.cell = c.ranges.cell in
    let x : FitsSigned w64 c.args.pose.now.x = search rules in
    let y : FitsSigned w64 c.args.pose.now.y = search rules in
    let p : FitsSigned w64 c.position_of.result = search rules in
    let q : FitsSigned w64 c.position_of-2.result = search rules in
    let side = simp to_z-of_z at c.side_of-side.ensures.side in
    let at_x = simp to_z-of_z at c.position_of.ensures.value in
    let at_y = simp to_z-of_z at c.position_of-2.ensures.value in
    let column = simp to_z-of_z at c.axis_at.ensures.axis in
    let row = simp to_z-of_z at c.axis_at-2.ensures.axis in
    record {
      side_is = side;
      twice = refl;
      column = subst (λ z. IsAxis c.side_of-side.result z c.axis_at.result) at_x column;
      row = subst (λ z. IsAxis c.side_of-side.result z c.axis_at-2.result) at_y row;
    }
