use Rattle.std.proofs.Common.{◌≡◌, ◌∙◌, inl, [], ◌∷◌, List, Bool, Err, length, refl, sym, ap, subst, false, arith}
use Rattle.sbpl_checks.specs.sbpl_cost.World.{World}
use Rattle.sbpl_checks.specs.sbpl_job.Jobs.{may_move}
use Rattle.sbpl_checks.specs.sbpl_job.declared.job.Job.TheVariants as job
use Rattle.sbpl_checks.specs.sbpl_job.declared.job.SearchJob.{SearchJob}
use Rattle.sbpl_checks.specs.sbpl_promises.Causes.{demo_search, no_outputs}
use Rattle.sbpl_checks.specs.sbpl_promises.Headline.{ArePlans}
use Rattle.sbpl_checks.specs.sbpl_promises.Intents.{Demonstrated, lines_writes}
use Rattle.sbpl_checks.specs.sbpl_promises.LatticeSite.{lattice_site}
use Rattle.sbpl_checks.specs.sbpl_promises.Published.{Entry}
use Rattle.sbpl_checks.specs.sbpl_promises.Texts.{still}
use Rattle.sbpl_checks.specs.sbpl_promises.declared.updates.Updates.{Updates}
use Rattle.sbpl_checks.specs.sbpl_report.declared.record.PlanRecord.{PlanRecord}
use Rattle.sbpl_checks.proofs.Frames.{same_state, writes_on}
use Rattle.sbpl_checks.proofs.Writings.{ends_as_after, status_ends}
use Rattle.sbpl_plans.specs.Boards.{entries_of}
use Rattle.sbpl_jobs.proofs.Ends.{ended}
use Rattle.sbpl_jobs.proofs.Planned.{all_shown, as_told, planned}
use Rattle.sbpl_jobs.proofs.demo_job.demonstrate.Goals as goal

pub returns-in-Err-clause-ends : goal.returns-in-Err-clause-ends
returns-in-Err-clause-ends g c =
    ended _ (g.D.Desk.state c.args.desk.now) _ _ _ (job.Demo c.args.job.now) (Demonstrated c.args.lattice
    (length c.args.updates.now.batches) [] false (entries_of c.args.live.now) []) _ refl refl (
      c.args.updates.now.batches,
      refl,
      record {
        drawn = c.requires.drawn;
        changes = ap (λ (x : Updates). x.batches) c.requires.updates;
        plans = record {
          start = c.ends-start.result.0;
          goal = c.ends-start.result.1;
          start_is = c.ends-start.ensures.start;
          goal_is = c.ends-start.ensures.goal;
          each = tt;
          broken_in = inl refl;
          none_broken = λ is. refl;
          few = omega arith;
          all_made = λ is. absurd (cc);
        };
      },
    )
    (same_state _)
    (status_ends (Err c.in-Err.stop) c.in-Err.ensures.ends c.status_after.ensures.status)
    c.write_first.ensures.frame.others

-- plans by this search, over map updates in which the robot stays, are those of a demonstration
as_asked : {w : World} {updates : Updates} {how : SearchJob} {records : List PlanRecord} {all : Bool} {log : List Entry}
    {broken : _} → how ≡ demo_search → updates ≡ still updates.batches
    → ArePlans lattice_site w updates how no_outputs records all log broken
    → ArePlans lattice_site w (still updates.batches) demo_search no_outputs records all log broken
as_asked {w} {updates} {how} {records} {all} {log} {broken} search stays plans =
    subst (λ (h : SearchJob). ArePlans lattice_site w (still updates.batches) h no_outputs records all log broken) search
    (subst (λ (x : Updates). ArePlans lattice_site w x how no_outputs records all log broken) stays plans)

pub returns-clause-ends : goal.returns-clause-ends
returns-clause-ends g c =
    let search = c.demo_search-how.ensures.search in
    let same = ap (λ (h : SearchJob). h.planner) search in
    let e = as_told lattice_site false (ap may_move same) c.make_plans.ensures.ends in
    let batches = ap (λ (x : Updates). x.batches) c.requires.updates in
    ended _ (g.D.Desk.state c.args.desk.now) _ _ _ (job.Demo c.args.job.now) (Demonstrated c.args.lattice
    (length c.args.updates.now.batches) e.records e.all (entries_of c.args.live.now) e.broken) _
    refl (all_shown lattice_site c.args.updates.now c.ends-start.result.0 e) (
      c.args.updates.now.batches,
      refl,
      record {
        drawn = c.requires.drawn;
        changes = batches;
        plans =
            as_asked search (c.requires.updates ∙ ap still (sym batches))
            (planned lattice_site c.args.updates.now c.ends-start.result.0 e c.ends-start.ensures.start c.ends-start.ensures.goal);
      },
    )
    (same_state _)
    (ends_as_after _ _ _ (_ ∷ []) (lines_writes e.records e.all) _ _ c.in_default.ensures.ends
    c.write_first.ensures.frame.writes e.ends)
    (writes_on _ _ _ _ c.write_first.ensures.frame c.make_plans.ensures.frame).others

pub returns-clause-frame : goal.returns-clause-frame
returns-clause-frame g c = writes_on _ _ _ _ c.write_first.ensures.frame c.make_plans.ensures.frame
