use Rattle.std.proofs.Common.{sym}
use Rattle.sbpl_job.specs.Words.{texts}
use Rattle.sbpl_job.proofs.Naming.{names_fault, names_found}
use Rattle.sbpl_job.proofs.Spacing.{unfit_is_none}
use Rattle.sbpl_job.proofs.read.job_in.Goals as goal

pub returns-then-not-are_fit-clause-job : goal.returns-then-not-are_fit-clause-job
returns-then-not-are_fit-clause-job c =
    unfit_is_none c.args.command (texts c.args.words.now) (sym c.if-not-are_fit.ensures.fit)

pub returns-in-Ok-clause-job : goal.returns-in-Ok-clause-job
returns-in-Ok-clause-job c =
    names_found c.args.command (texts c.args.words.now) c.in-Ok.matches c.job_found.result
    (sym c.if-not-are_fit.ensures.fit) c.in-Ok.ensures.finds c.job_found.ensures.job

pub returns-in-Err-clause-job : goal.returns-in-Err-clause-job
returns-in-Err-clause-job c =
    names_fault c.args.command (texts c.args.words.now) c.in-Err.fault
    (sym c.if-not-are_fit.ensures.fit) c.in-Err.ensures.finds
