use Rattle.std.proofs.Common.{arith}
use Rattle.sbpl_cfg.proofs.PrintLaws.{grid_done, grid_more}
use Rattle.sbpl_cfg.proofs.print.put_grid.Goals as goal

pub loop-y-preserved : goal.loop-y-preserved
loop-y-preserved c = record {
  size = omega (arith, c.loop-y.invariant.size);
  text =
      grid_more _ _ c.args.height c.args.width c.loop-y._y c.loop-y-test.true
      c.split_at.ensures.front c.split_at.ensures.back
      c.in_ok-push_line.ensures.appended c.loop-y.invariant.text;
}

pub returns : goal.returns
returns c =
    record { ok = grid_done _ c.args.height c.args.width c.loop-y._y c.loop-y-test.false c.loop-y.invariant.text }
