use Rattle.std.proofs.Common.{[], ap, refl}
use Rattle.sbpl_checks.specs.sbpl_lists.Messages.{plain_text}
use Rattle.sbpl_checks.specs.sbpl_promises.Explained.{program}
use Rattle.sbpl_checks.specs.sbpl_report.Statuses.{number_of}
use Rattle.sbpl_checks.proofs.Endings.{ends_at_once}
use Rattle.sbpl_jobs.proofs.running.refuse_words.Goals as goal

pub returns-in-Err-clause-ends : goal.returns-in-Err-clause-ends
returns-in-Err-clause-ends g c =
    (plain_text program [], ([], refl), ends_at_once (ap number_of c.plain.ensures.status) c.plain.ensures.untold)
