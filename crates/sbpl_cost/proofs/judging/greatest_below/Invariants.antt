use Rattle.std.proofs.Common.{take, pos}
use Rattle.sbpl_cost.specs.Judging.{IsGreatestBelow}
use Rattle.sbpl_cost.proofs.judging.greatest_below.Given as goal

abbrev pub invariant-loop-cell : goal.invariant-loop-cell
invariant-loop-cell l = IsGreatestBelow l.map (take l.cell-index l.cells) (pos l.x) (pos l.y) l.limit l.least l.greatest
