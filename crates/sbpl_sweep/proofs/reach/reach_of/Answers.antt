use Rattle.std.proofs.Common.{◌-◌, arith}
use Rattle.std.proofs.lemmas.Grind.{div_ceil_times}
use Rattle.sbpl_sweep.proofs.Steps.{reach_by_quotient}
use Rattle.sbpl_sweep.proofs.reach.reach_of.Goals as goal

pub returns-clause-reach : goal.returns-clause-reach
returns-clause-reach c =
    let bounds = div_ceil_times (c.args.radius - c.args.gap) c.args.side (omega arith) in
    let count = c.div_ceil.ensures in
    reach_by_quotient c.args.gap c.args.side c.args.radius c.div_ceil.result c.if-radius-gap.false
    (rw count bounds.0) (rw count bounds.1)
