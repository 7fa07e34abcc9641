use Rattle.std.proofs.Common.{arith, ◌-◌}
use Rattle.std.proofs.lemmas.Nat.{mul-add-lt}
use Rattle.sbpl_demo.proofs.environment.draw_grid.Goals as goal

pub index_mut-requires : goal.index_mut-requires
index_mut-requires c =
    let w = c.args.width in
    omega (
      arith,
      c.in_ok-cells.ensures.size,
      mul-add-lt 1 w 1 c.args.height (omega (arith, c.requires.height.0)) (omega (arith, c.requires.width.0)),
    )

pub index_mut-requires-2 : goal.index_mut-requires-2
index_mut-requires-2 c =
    let w = c.args.width in
    let h = c.args.height in
    omega (
      arith,
      c.in_ok-cells.ensures.size,
      mul-add-lt (h - 2) w (w - 2) h (omega (arith, c.requires.height.0)) (omega (arith, c.requires.width.0)),
    )
