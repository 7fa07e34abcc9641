use Rattle.std.proofs.Common.{None, ap, refl, true}
use Rattle.sbpl_checks.specs.sbpl_job.declared.job.Job.TheVariants as job
use Rattle.sbpl_checks.specs.sbpl_promises.Intents.{Listed}
use Rattle.sbpl_checks.specs.sbpl_report.Statuses.{number_of}
use Rattle.sbpl_jobs.proofs.Ends.{ended}
use Rattle.sbpl_checks.proofs.Writings.{status_ends}
use Rattle.sbpl_jobs.proofs.Telling.{plain_ending, plans_end}
use Rattle.sbpl_jobs.proofs.sweep_job.run_sweep.Goals as goal
use Rattle.sbpl_checks.proofs.Frames.{writes_after}

pub returns-in-Ok-clause-ends : goal.returns-in-Ok-clause-ends
returns-in-Ok-clause-ends g c =
    let ends = status_ends _ c.write_listings.ensures.ends c.status_after-status.ensures.status in
    λ log. plain_ending _ _ log log _ _ _ (ap number_of c.plain.ensures.status) c.plain.ensures.untold (λ is. is)
    (plans_end true _ ends)
    (ended _ (g.D.Desk.state c.read_lattice.new.desk) _ log log (job.Sweep c.args.from.now) (Listed c.in-Ok.lattice) _ tt
    refl (c.in-Ok.ensures.says, c.in-Ok.ensures.kept) c.read_lattice.ensures.frame
    ends c.write_listings.ensures.frame.others)

pub returns-in-Ok-clause-frame : goal.returns-in-Ok-clause-frame
returns-in-Ok-clause-frame g c = writes_after _ _ _ _ c.read_lattice.ensures.frame c.write_listings.ensures.frame

pub returns-in-Err-clause-stop : goal.returns-in-Err-clause-stop
returns-in-Err-clause-stop g c =
    record { cause = c.in-Err.ensures.stop; told = c.in-Err.ensures.explained None None }
