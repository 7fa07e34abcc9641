use Rattle.sbpl_checks.specs.sbpl_promises.Explained as told
use Rattle.sbpl_checks.specs.sbpl_promises.Promises as ends
use Rattle.sbpl_checks.specs.sbpl_promises.Promises.{MayBeWritten}
use Rattle.sbpl_jobs.proofs.Telling.{refused_so}
use Rattle.sbpl_jobs.proofs.running.run_words.Goals as goal

pub returns-in-Ok-run_job-clause-ends : goal.returns-in-Ok-run_job-clause-ends
returns-in-Ok-run_job-clause-ends g c = record {
  ends = ends.by_job c.in-Ok.job c.in-Ok.ensures.job c.in-Ok-run_job.ensures.ends.ends;
  told = told.by_job (c.in-Ok.job, c.in-Ok.ensures.job, c.in-Ok-run_job.ensures.ends.told);
}

pub returns-in-Err-Refused-clause-ends : goal.returns-in-Err-Refused-clause-ends
returns-in-Err-Refused-clause-ends g c =
    let seen = rw c.in-Err-Refused.field-0-is at c.in-Err-Refused.ensures in
    let ended =
    refused_so c.causes_stand.ensures.law _ (g.D.Desk.state c.run_job.new.desk) _ _ _ c.in-Ok.job
    c.in-Err-Refused.refusal c.in-Err-Refused.why _ seen.unpublished seen.stop.cause
    seen.stop.told seen.unwritten c.refuse-ending.ensures.ends c.refuse-ending.ensures.frame in
    record {
      ends = ends.by_job c.in-Ok.job c.in-Ok.ensures.job ended.ends;
      told = told.by_job (c.in-Ok.job, c.in-Ok.ensures.job, ended.told);
    }
