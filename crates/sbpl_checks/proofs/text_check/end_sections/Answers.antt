use Rattle.std.proofs.Common.{ap, ◌∙◌}
use Rattle.sbpl_worlds.specs.sbpl_report.Statuses.{number_of}
use Rattle.sbpl_checks.proofs.Verifying.{none_left, some_left}
use Rattle.sbpl_telling.proofs.Writings.{status_ends}
use Rattle.sbpl_checks.proofs.text_check.end_sections.Goals as goal

pub returns-in-Some-clause-ends : goal.returns-in-Some-clause-ends
returns-in-Some-clause-ends g c = some_left c.args.labels.now _ c.in-Some.ensures.first c.tell_fault.ensures.ends c.tell_fault.ensures.told

pub returns-in-None-clause-ends : goal.returns-in-None-clause-ends
returns-in-None-clause-ends g c =
    none_left c.args.labels.now _ c.in-None.ensures.first
    (status_ends _ c.write_last.ensures.ends (ap number_of c.plain.ensures.status ∙ c.status_after.ensures.status))
    c.plain.ensures.untold
