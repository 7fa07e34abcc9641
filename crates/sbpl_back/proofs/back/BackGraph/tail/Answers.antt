use Rattle.sbpl_back.proofs.Turning.{tail_answered}
use Rattle.sbpl_back.proofs.back.BackGraph.tail.Goals as goal

pub returns-clause-value : goal.returns-clause-value
returns-clause-value c = rw (← c.self.view_is)
    (tail_answered _ c.self.invariant c.args.t c.args.j c.as_tail.result c.as_tail.ensures.head c.as_tail.ensures.tail)
