use Rattle.std.proofs.Common.{ℕ, List, Option, Some, refl, subst}
use Rattle.sbpl_checks.specs.sbpl_promises.Causes.{IsReadText, grid_files}
use Rattle.sbpl_checks.specs.sbpl_job.declared.job.Job.TheVariants as job
use Rattle.sbpl_checks.specs.sbpl_report.Refusals.{input_name}
use Rattle.sbpl_checks.specs.sbpl_report.declared.refusal.Input.TheVariants as input
use Rattle.sbpl_jobs.proofs.Ends.{early_stop, labels_stop}
use Rattle.sbpl_checks.proofs.Explaining.{explained_before, unread_told}
use Rattle.sbpl_checks.proofs.Reading.{reads_on}
use Rattle.sbpl_jobs.proofs.nav_job.read_nav_check.Goals as goal

pub returns-in-Err-clause-stop : goal.returns-in-Err-clause-stop
returns-in-Err-clause-stop g c = record {
  cause =
      early_stop (g.D.Desk.state c.args.desk.now) (g.D.Desk.state c.read_grid_updates.new.desk) (grid_files c.args.job.now.sources)
      c.args.job.now.changes c.args.job.now.labels c.in-Err.stop c.in-Err.ensures.stop;
  told = c.in-Err.ensures.explained (Some c.args.job.now.labels);
}

pub returns-in-Err-read_file-clause-stop : goal.returns-in-Err-read_file-clause-stop
returns-in-Err-read_file-clause-stop g c =
    let updates = c.in-Ok.ensures.updates in
    let first = g.D.Desk.state c.args.desk.now in
    let then = g.D.Desk.state c.read_grid_updates.new.desk in
    let last = g.D.Desk.state c.read_file.new.desk in
    let names = input_name (job.NavCheck c.args.job.now) in
    record {
      cause =
          labels_stop first then last (grid_files c.args.job.now.sources) c.args.job.now.changes c.args.job.now.labels c.in-Ok.read.0
          c.in-Ok.read.1 c.in-Err-read_file.stop updates.says updates.updates_are c.in-Ok.ensures.frame
          c.in-Err-read_file.ensures.stop;
      told =
          explained_before first.held then.held names c.in-Err-read_file.stop c.in-Ok.ensures.frame.held
          (unread_told then last then.held names c.args.job.now.labels input.Labels c.in-Err-read_file.stop refl
          c.in-Err-read_file.ensures.stop);
    }

pub returns-in-Err-read_file-clause-frame : goal.returns-in-Err-read_file-clause-frame
returns-in-Err-read_file-clause-frame g c = reads_on _ _ _ c.in-Ok.ensures.frame c.read_file.ensures.frame

pub returns-in-Ok-read_file-clause-frame : goal.returns-in-Ok-read_file-clause-frame
returns-in-Ok-read_file-clause-frame g c = reads_on _ _ _ c.in-Ok.ensures.frame c.read_file.ensures.frame

pub returns-in-Ok-read_file-clause-text : goal.returns-in-Ok-read_file-clause-text
returns-in-Ok-read_file-clause-text g c =
    subst (λ (o : Option (List ℕ)). IsReadText o c.in-Ok-read_file.text.items)
    (c.in-Ok.ensures.frame.held c.args.job.now.labels) c.in-Ok-read_file.ensures.text
