use Rattle.std.proofs.Common.{ap, ◌∙◌}
use Rattle.sbpl_worlds.specs.sbpl_report.Statuses.{number_of}
use Rattle.sbpl_checks.specs.Checking.{stopped, unwritten}
use Rattle.sbpl_checks.proofs.check_next.check_next.Goals as goal

pub returns-in-Err-write_holds-clause-ends : goal.returns-in-Err-write_holds-clause-ends
returns-in-Err-write_holds-clause-ends g c =
    unwritten _ _ c.in-Err-write_holds.stop c.in-Ok.ensures.holds c.in-Err-write_holds.ensures.ends
    (ap number_of c.plain.ensures.status ∙ c.status_after.ensures.status) c.plain.ensures.untold

pub returns-in-Err-clause-ends : goal.returns-in-Err-clause-ends
returns-in-Err-clause-ends g c = stopped c.in-Err.stop c.in-Err.ensures.stop c.tell_stop.ensures.ends c.tell_stop.ensures.told
