use Rattle.std.proofs.Common.{length}
use Rattle.plan_in_memory.proofs.+show_steps.Given as goal

-- each call has one arc fewer to go
abbrev pub decreases-show_steps : goal.decreases-show_steps
decreases-show_steps g l = length l.arcs.now
