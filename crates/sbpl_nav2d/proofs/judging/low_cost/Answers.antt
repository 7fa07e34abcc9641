use Rattle.std.proofs.Common.{w64, refl}
use Rattle.std.proofs.lemmas.Int.{to_z-of_z}
use Rattle.std.proofs.lemmas.Bool.{lt-ltb, le-ltb}
use Rattle.sbpl_nav2d.proofs.Fitting.{fits_x, fits_y}
use Rattle.sbpl_nav2d.proofs.judging.low_cost.Goals as goal

pub returns-in_err-cost : goal.returns-in_err-cost
returns-in_err-cost c =
    let h = rw (
      to_z-of_z w64 c.args.cell.x (fits_x c.args.cell c.requires.near),
      to_z-of_z w64 c.args.cell.y
          (fits_y c.args.cell c.requires.near),
    ) at c.in_err-cost.ensures.value in
    record { value = rw (← h) c.from_residual.ensures }

pub returns-then-cost-limit : goal.returns-then-cost-limit
returns-then-cost-limit c =
    let h = rw (
      to_z-of_z w64 c.args.cell.x (fits_x c.args.cell c.requires.near),
      to_z-of_z w64 c.args.cell.y
          (fits_y c.args.cell c.requires.near),
    ) at c.in_ok-cost.ensures.value in
    let low = lt-ltb c.in_ok-cost.cost c.args.limit c.if-cost-limit.true in
    record { value = rw (← h, low) refl }

pub returns-else-cost-limit : goal.returns-else-cost-limit
returns-else-cost-limit c =
    let h = rw (
      to_z-of_z w64 c.args.cell.x (fits_x c.args.cell c.requires.near),
      to_z-of_z w64 c.args.cell.y
          (fits_y c.args.cell c.requires.near),
    ) at c.in_ok-cost.ensures.value in
    let high = le-ltb c.in_ok-cost.cost c.args.limit c.if-cost-limit.false in
    record { value = rw (← h, high) refl }
