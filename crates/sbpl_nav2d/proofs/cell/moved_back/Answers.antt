use Rattle.std.proofs.Common.{◌-ℤ◌, w64, refl, arith}
use Rattle.std.proofs.lemmas.Int.{ints, to_z-of_z}
use Rattle.sbpl_nav2d.proofs.Fitting.{fits}
use Rattle.sbpl_nav2d.proofs.cell.moved_back.Goals as goal

pub returns-clause-cell : goal.returns-clause-cell
returns-clause-cell c =
    let from = c.args.to in
    let step = c.args.step in
    let near = c.requires.to in
    let small = c.requires.step in
    let from_x = fits from.x (omega (arith, ints, near.0.0)) (omega (arith, ints, near.0.1)) in
    let from_y = fits from.y (omega (arith, ints, near.1.0)) (omega (arith, ints, near.1.1)) in
    let step_x = fits step.x (omega (arith, ints, small.0.0)) (omega (arith, ints, small.0.1)) in
    let step_y = fits step.y (omega (arith, ints, small.1.0)) (omega (arith, ints, small.1.1)) in
    let x = fits (from.x -ℤ step.x) (omega (arith, ints, near.0.0, small.0.1))
    (omega (arith, ints, near.0.1, small.0.0)) in
    let y = fits (from.y -ℤ step.y) (omega (arith, ints, near.1.0, small.1.1))
    (omega (arith, ints, near.1.1, small.1.0)) in
    rw (
      to_z-of_z w64 from.x from_x,
      to_z-of_z w64 from.y from_y,
      to_z-of_z w64 step.x step_x,
      to_z-of_z w64 step.y
          step_y,
      to_z-of_z w64 (from.x -ℤ step.x) x,
      to_z-of_z w64 (from.y -ℤ step.y) y,
    ) refl
