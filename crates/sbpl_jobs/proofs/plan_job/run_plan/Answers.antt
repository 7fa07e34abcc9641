use Rattle.std.proofs.Common.{ℕ, Bool, [], List, None, refl, subst, true, false, sym, ◌∙◌}
use Rattle.std.proofs.lemmas.Result.{err_from_is_err_and}
use Rattle.sbpl_checks.specs.sbpl_cost.World.{World}
use Rattle.sbpl_checks.specs.sbpl_job.Jobs.{may_move}
use Rattle.sbpl_checks.specs.sbpl_job.declared.job.Job.TheVariants as job
use Rattle.sbpl_checks.specs.sbpl_job.declared.job.PlanJob.{PlanJob}
use Rattle.sbpl_checks.specs.sbpl_promises.Asked.{planner_for}
use Rattle.sbpl_checks.specs.sbpl_promises.LatticeSite.{lattice_site}
use Rattle.sbpl_checks.specs.sbpl_promises.Blocked.{blocked_line}
use Rattle.sbpl_checks.specs.sbpl_promises.Causes.{ArePlanned, EarlyStopsFor, ReadsUpdates, ReadsWorld, lattice_files, plan_files, scope_of}
use Rattle.sbpl_checks.specs.sbpl_promises.Headline.{NoPlan}
use Rattle.sbpl_checks.specs.sbpl_promises.Intents.{Planned, section_writes}
use Rattle.sbpl_checks.specs.sbpl_promises.Promises.{EndsPlans}
use Rattle.sbpl_checks.specs.sbpl_promises.Published.{Entry}
use Rattle.sbpl_checks.specs.sbpl_promises.Sites.{start_after}
use Rattle.sbpl_checks.specs.sbpl_promises.Writing.{DeskState, IsOutputOf, ReadsOnly, WritesOnly}
use Rattle.sbpl_checks.specs.sbpl_promises.declared.updates.Updates.{Updates}
use Rattle.sbpl_checks.specs.sbpl_report.Statuses.{number_of}
use Rattle.sbpl_checks.specs.sbpl_telling.declared.ending.Ending.{Ending}
use Rattle.sbpl_checks.proofs.Frames.{writes_after}
use Rattle.sbpl_jobs.specs.Endings.{IsJobEnding}
use Rattle.sbpl_jobs.proofs.Ends.{ended}
use Rattle.sbpl_jobs.proofs.Planned.{all_shown, as_told, updates_on, planned}
use Rattle.sbpl_jobs.proofs.Telling.{explained, planning_ending, plans_end}
use Rattle.sbpl_jobs.proofs.plan_job.run_plan.Goals as goal

-- the job ends so, where its plans end so on the lattice and the updates that were read
planned_so : (s t u : DeskState) (j : PlanJob) (log shown : List Entry) (w : World) (updates : Updates)
    (start goal : ℕ) (ending : Ending)
    → EndsPlans (planner_for lattice_site j.search.planner) (section_writes j.outputs) (blocked_line j.sources.env) w updates.batches
    j.search j.outputs (start_after lattice_site.reporting w start updates.moves) goal 0 log shown [] ending.why NoPlan t u
    (number_of ending.status)
    → lattice_site.reporting.starts w start → lattice_site.reporting.ends w goal
    → ReadsWorld s.held j.sources w → ReadsUpdates s.held j.changes (scope_of j.sources.states (may_move j.search.planner) w) updates
    → ReadsOnly s t → WritesOnly (IsOutputOf j.outputs) t u → IsJobEnding s u log shown (job.Plan j) ending
planned_so s t u j log shown w updates start goal ending e start_is goal_is says changes_say read wrote =
    let plans : ArePlanned s.held (plan_files j) j.changes j.search j.outputs e.records e.all log e.broken = record {
      world = w;
      updates = updates;
      says = says;
      changes_say = changes_say;
      plans = planned lattice_site updates start e start_is goal_is;
    } in
    planning_ending s u log shown (job.Plan j) _ ending e.why_is
    (λ zero is. explained s t u log (plan_files j) j.changes j.search j.outputs e.records e.all e.broken j.sources.env _ _
    read plans e.none_broken e.ends zero is) (plans_end e.all _ e.ends)
    (ended s t u log shown (job.Plan j) (Planned e.records e.all log e.broken) _ refl
    (all_shown lattice_site updates start e) plans read e.ends wrote.others)

pub make_plans-ending-requires-clause-task : goal.make_plans-ending-requires-clause-task
make_plans-ending-requires-clause-task g c = λ κs live. rw c.new-world.ensures.lattice (record {
  start = c.ends-start.ensures.start_inside;
  goal = c.ends-start.ensures.goal_inside;
  search = c.requires.range.1;
  updates =
      updates_on lattice_site true c.may_move-moving.result true c.in_ok-lattice.lattice c.in_ok-lattice.updates
      c.if-moving.true c.in_ok-lattice.ensures.updates.in_world;
  kept = c.in_ok-lattice.ensures.updates.is_world;
})

pub make_plans-ending-requires-2-clause-task : goal.make_plans-ending-requires-2-clause-task
make_plans-ending-requires-2-clause-task g c = λ κs live. record {
  start = c.ends-start.ensures.start_inside;
  goal = c.ends-start.ensures.goal_inside;
  search = c.requires.range.1;
  updates =
      updates_on lattice_site false c.may_move-moving.result false c.in_ok-lattice.lattice c.in_ok-lattice.updates
      c.if-moving.false c.in_ok-lattice.ensures.updates.in_world;
  kept = c.in_ok-lattice.ensures.updates.is_world;
}

pub returns-then-moving-clause-ends : goal.returns-then-moving-clause-ends
returns-then-moving-clause-ends g c =
    planned_so (g.D.Desk.state c.args.desk.now) (g.D.Desk.state c.read_updates.new.desk) _ c.args.job.now _ _
    c.in_ok-lattice.lattice c.in_ok-lattice.updates c.ends-start.result.0 c.ends-start.result.1 c.make_plans-ending.result
    (as_told lattice_site true (sym c.may_move-moving.ensures.value ∙ c.if-moving.true)
    (rw c.new-world.ensures.lattice at c.make_plans-ending.ensures.ends))
    c.ends-start.ensures.start c.ends-start.ensures.goal c.in_ok-lattice.ensures.updates.says
    (subst (λ (b : Bool). ReadsUpdates (g.D.Desk.state c.args.desk.now).held c.args.job.now.changes
    (scope_of c.args.job.now.sources.states b c.in_ok-lattice.lattice) c.in_ok-lattice.updates)
    c.may_move-moving.ensures.value c.in_ok-lattice.ensures.updates.updates_are)
    c.in_ok-lattice.ensures.frame c.make_plans-ending.ensures.frame

pub returns-clause-ends : goal.returns-clause-ends
returns-clause-ends g c =
    planned_so (g.D.Desk.state c.args.desk.now) (g.D.Desk.state c.read_updates.new.desk) _ c.args.job.now _ _
    c.in_ok-lattice.lattice c.in_ok-lattice.updates c.ends-start.result.0 c.ends-start.result.1 c.make_plans-ending-2.result
    (as_told lattice_site false (sym c.may_move-moving.ensures.value ∙ c.if-moving.false)
    c.make_plans-ending-2.ensures.ends)
    c.ends-start.ensures.start c.ends-start.ensures.goal c.in_ok-lattice.ensures.updates.says
    (subst (λ (b : Bool). ReadsUpdates (g.D.Desk.state c.args.desk.now).held c.args.job.now.changes
    (scope_of c.args.job.now.sources.states b c.in_ok-lattice.lattice) c.in_ok-lattice.updates)
    c.may_move-moving.ensures.value c.in_ok-lattice.ensures.updates.updates_are)
    c.in_ok-lattice.ensures.frame c.make_plans-ending-2.ensures.frame

pub returns-then-moving-clause-frame : goal.returns-then-moving-clause-frame
returns-then-moving-clause-frame g c = writes_after _ _ _ _ c.in_ok-lattice.ensures.frame c.make_plans-ending.ensures.frame

pub returns-clause-frame : goal.returns-clause-frame
returns-clause-frame g c = writes_after _ _ _ _ c.in_ok-lattice.ensures.frame c.make_plans-ending-2.ensures.frame

pub returns-in_err-lattice-clause-stop : goal.returns-in_err-lattice-clause-stop
returns-in_err-lattice-clause-stop g c =
    let p = err_from_is_err_and c.from_residual.result c.from_residual.ensures.1 in
    rw (p.1, p.2) (record {
      cause =
          subst (λ (b : Bool). EarlyStopsFor (g.D.Desk.state c.args.desk.now) (g.D.Desk.state c.read_updates.new.desk)
          (lattice_files c.args.job.now.sources b) c.args.job.now.changes c.in_err-lattice.field-0.0)
          c.may_move-moving.ensures.value c.in_err-lattice.ensures.stop;
      told = c.in_err-lattice.ensures.explained None;
    })
