use Rattle.sbpl_sweep.proofs.Steps.{reach_to_last}
use Rattle.sbpl_sweep.proofs.reach.shrunk.Goals as goal

pub returns-else-not-is_reached-clause-reach : goal.returns-else-not-is_reached-clause-reach
returns-else-not-is_reached-clause-reach c =
    reach_to_last c.args.gap c.args.side c.args.most c.loop-count.count c.loop-count-test.true
    (c.is_reached.ensures.reached.0 c.if-not-is_reached.false) c.loop-count.invariant.1
