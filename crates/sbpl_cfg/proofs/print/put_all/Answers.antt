use Rattle.std.proofs.Common.{◌≡◌, ap}
use Rattle.sbpl_cfg.specs.Printed.{end_lines, grid_lines, heading_lines, rate_lines, size_lines, threshold_lines}
use Rattle.sbpl_cfg.proofs.PrintLaws.{after_lines}
use Rattle.sbpl_cfg.proofs.print.put_all.Goals as goal

pub returns : goal.returns
returns c =
    let e = c.args.env.now in
    let width : c.env.inside.width ≡ e.width = ap (λ x. x.width) c.env.view_is in
    let height : c.env.inside.height ≡ e.height = ap (λ x. x.height) c.env.view_is in
    let grid = rw (width, height) at c.in_ok-put_grid.ensures.ok in
    record {
      ok =
          after_lines _ (size_lines e) (heading_lines e) (threshold_lines e) (rate_lines e) (end_lines e)
          (grid_lines e.height e.width c.args.cells.now)
          c.in_ok-put_size.ensures.ok c.in_ok-put_headings.ensures.ok c.in_ok-put_thresholds.ensures.ok
          c.in_ok-put_rates.ensures.ok c.in_ok-put_ends.ensures.ok grid;
    }
