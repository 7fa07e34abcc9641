use Rattle.std.proofs.Common.{◌≡◌, ◌+◌, ◌-◌, ◌*◌, ◌++◌, length}
use Rattle.sbpl_fixed.specs.Printed.{lines_text}
use Rattle.sbpl_cfg.specs.Printed.{grid_lines}
use Rattle.sbpl_cfg.proofs.print.put_grid.Given as goal

-- what is written and what is left make the grid
abbrev pub invariant-loop-y : goal.invariant-loop-y
invariant-loop-y l = record {
  size : length l.rest + l.width * l._y ≡ l.width * l.height;
  text : l.out.items ++ lines_text (grid_lines (l.height - l._y) l.width l.rest)
      ≡ l.fn.out.items ++ lines_text (grid_lines l.height l.width l.cells);
}
