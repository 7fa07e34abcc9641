use Rattle.std.proofs.Common.{take}
use Rattle.sbpl_cost.specs.Reaches.{IsReach, LieWithin}
use Rattle.sbpl_cost.specs.Strips.{cells_in}
use Rattle.sbpl_cost.proofs.reach.reach_of.Given as goal

abbrev pub invariant-loop-strip : goal.invariant-loop-strip
invariant-loop-strip l = IsReach l.reach × LieWithin l.reach (cells_in (take l.strip-index l.strips))
