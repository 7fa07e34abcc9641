use Rattle.sbpl_jobs.proofs.Telling.{ending_of}
use Rattle.sbpl_jobs.proofs.running.run_job.Goals as goal

pub returns-in-Check-clause-ends : goal.returns-in-Check-clause-ends
returns-in-Check-clause-ends g c = ending_of c.run_check.result _ _ _ _ _ c.in-Check.is c.run_check.ensures.ends

pub returns-in-Sweep-clause-ends : goal.returns-in-Sweep-clause-ends
returns-in-Sweep-clause-ends g c = ending_of c.run_sweep.result _ _ _ _ _ c.in-Sweep.is c.run_sweep.ensures.ends

pub returns-in-NavCheck-clause-ends : goal.returns-in-NavCheck-clause-ends
returns-in-NavCheck-clause-ends g c =
    ending_of c.run_navcheck.result _ _ _ _ _ c.in-NavCheck.is c.run_navcheck.ensures.ends

pub returns-in-Plan-clause-frame : goal.returns-in-Plan-clause-frame
returns-in-Plan-clause-frame g c = rw c.in-Plan.is c.run_plan.ensures.frame
