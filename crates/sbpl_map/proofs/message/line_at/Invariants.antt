use Rattle.std.proofs.Common.{◌-◌}
use Rattle.sbpl_map.proofs.message.line_at.Given as goal

abbrev pub decreases-loop-number : goal.decreases-loop-number
decreases-loop-number l = l.line - l.number
