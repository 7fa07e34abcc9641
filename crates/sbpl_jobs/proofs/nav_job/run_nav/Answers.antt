use Rattle.std.proofs.Common.{None, false, refl}
use Rattle.sbpl_checks.specs.sbpl_promises.Causes.{ArePlanned, grid_files}
use Rattle.sbpl_checks.specs.sbpl_promises.GridSite.{grid_site}
use Rattle.std.proofs.lemmas.Result.{err_from_is_err_and}
use Rattle.sbpl_checks.specs.sbpl_job.declared.job.Job.TheVariants as job
use Rattle.sbpl_checks.specs.sbpl_promises.Intents.{Planned}
use Rattle.sbpl_checks.proofs.Frames.{writes_after}
use Rattle.sbpl_plans.specs.Boards.{entries_of}
use Rattle.sbpl_jobs.proofs.Ends.{ended}
use Rattle.sbpl_jobs.proofs.Planned.{all_shown, as_told, planned}
use Rattle.sbpl_jobs.proofs.Telling.{explained, planning_ending, plans_end}
use Rattle.sbpl_jobs.proofs.nav_job.run_nav.Goals as goal

pub returns-clause-ends : goal.returns-clause-ends
returns-clause-ends g c =
    let s = g.D.Desk.state c.args.desk.now in
    let t = g.D.Desk.state c.read_grid_updates.new.desk in
    let files = grid_files c.args.job.now.sources in
    let log = entries_of c.args.live.now in
    let e = as_told grid_site false c.requires.range.2 c.make_plans.ensures.ends in
    let plans : ArePlanned s.held files c.args.job.now.changes c.args.job.now.search c.args.job.now.outputs e.records e.all log e.broken =
    record {
      world = c.in_ok-nav.nav;
      updates = c.in_ok-nav.updates;
      says = c.in_ok-nav.ensures.updates.says;
      changes_say = c.in_ok-nav.ensures.updates.updates_are;
      plans =
          planned grid_site c.in_ok-nav.updates c.ends-start.result.0 e c.ends-start.ensures.start
          c.ends-start.ensures.goal;
    } in
    planning_ending _ _ _ _ (job.Nav c.args.job.now) _ c.make_plans.result e.why_is
    (λ zero is. explained s t _ log files c.args.job.now.changes c.args.job.now.search c.args.job.now.outputs e.records e.all
    e.broken c.args.job.now.sources.env _ _ c.in_ok-nav.ensures.frame plans e.none_broken e.ends zero is)
    (plans_end e.all _ e.ends)
    (ended s t _ _ _ (job.Nav c.args.job.now) (Planned e.records e.all log e.broken) _ refl
    (all_shown grid_site c.in_ok-nav.updates c.ends-start.result.0 e) plans c.in_ok-nav.ensures.frame e.ends
    c.make_plans.ensures.frame.others)

pub returns-clause-frame : goal.returns-clause-frame
returns-clause-frame g c = writes_after _ _ _ _ c.in_ok-nav.ensures.frame c.make_plans.ensures.frame

pub returns-in_err-nav-clause-stop : goal.returns-in_err-nav-clause-stop
returns-in_err-nav-clause-stop g c =
    let p = err_from_is_err_and c.from_residual.result c.from_residual.ensures.1 in
    rw (p.1, p.2) (record { cause = c.in_err-nav.ensures.stop; told = c.in_err-nav.ensures.explained None })
