use Rattle.std.proofs.Common.{take, pos}
use Rattle.sbpl_cost.specs.Judging.{AreBelow}
use Rattle.sbpl_cost.specs.Strips.{cells_in}
use Rattle.sbpl_cost.proofs.judging.are_clear_inside.Given as goal

abbrev pub invariant-loop-strip : goal.invariant-loop-strip
invariant-loop-strip l = AreBelow l.map (cells_in (take l.strip-index l.strips)) (pos l.x) (pos l.y) l.limit
