use Rattle.sbpl_cost.specs.Judging.{at_source}
use Rattle.sbpl_cost.proofs.judging.greatest_paid.Goals as goal

pub returns-in_default-clause-blocked : goal.returns-in_default-clause-blocked
returns-in_default-clause-blocked c = rw (← c.env.view_is) (at_source c.in_default.ensures.blocked)
