use Rattle.std.proofs.Common.{ap, ◌∙◌}
use Rattle.sbpl_promises.specs.sbpl_report.Statuses.{number_of}
use Rattle.sbpl_telling.proofs.Endings.{ends_badly}
use Rattle.sbpl_telling.proofs.ending.end_with.Goals as goal

pub returns-in-Err-clause-ends : goal.returns-in-Err-clause-ends
returns-in-Err-clause-ends g c =
    ends_badly c.in-Err.stop c.in-Err.ensures.ends (ap number_of c.plain.ensures.status ∙ c.status_after.ensures.status)
    c.plain.ensures.untold
