use Rattle.std.proofs.Common.{[]}
use Rattle.sbpl_main.proofs.program.start_given.Goals as goal

pub returns-in-Err-clause-answered : goal.returns-in-Err-clause-answered
returns-in-Err-clause-answered g c = ([], rw c.number.ensures.number (c.runs_may_end_at_once.ensures.law _ _ _))
