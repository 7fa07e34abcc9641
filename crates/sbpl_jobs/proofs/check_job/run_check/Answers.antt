use Rattle.std.proofs.Common.{List, ℕ, suc, length, refl, subst, ◌∙◌}
use Rattle.sbpl_checks.specs.sbpl_fixed.Formats.{start_at}
use Rattle.sbpl_checks.specs.sbpl_promises.Checked.{AreChecked, IsShownHolding, case_of, to_in}
use Rattle.sbpl_checks.specs.sbpl_promises.Sites.{searched_on}
use Rattle.sbpl_checks.specs.sbpl_promises.LatticeSite.{lattice_site}
use Rattle.sbpl_checks.specs.sbpl_promises.Intents.{Checked}
use Rattle.sbpl_checks.proofs.Frames.{writes_after}
use Rattle.sbpl_checks.proofs.Writings.{ends_since}
use Rattle.sbpl_checks.specs.sbpl_job.declared.job.Job.TheVariants as job
use Rattle.sbpl_checks.specs.sbpl_promises.Causes.{check_files}
use Rattle.sbpl_checks.specs.sbpl_promises.Promises.{IsChecked}
use Rattle.sbpl_jobs.proofs.Telling.{check_told}
use Rattle.sbpl_jobs.proofs.check_job.run_check.Goals as goal

pub returns-clause-ends : goal.returns-clause-ends
returns-clause-ends g c =
    let w = c.in_ok-lattice.lattice in
    let updates = c.in_ok-lattice.updates in
    let ends = c.check_on_lattice-ending.ensures.ends in
    let case =
    case_of (searched_on lattice_site c.args.job.now.back) w updates c.ends-start.result.0 c.ends-start.result.1 in
    let files = check_files c.args.job.now in
    let checked : IsChecked (g.D.Desk.state c.args.desk.now).held files c.args.job.now.changes c.args.job.now.labels
    (to_in case) ends.outcomes ends.end = record {
      world = w;
      updates = updates;
      says = c.in_ok-lattice.ensures.updates.says;
      changes_say = c.in_ok-lattice.ensures.updates.updates_are;
      arcs = c.has_its_arcs.ensures.law;
      is_world = c.in_ok-lattice.ensures.updates.is_world;
      text = c.in_ok-lattice.text.items;
      read = c.in_ok-lattice.ensures.text;
      in_world = record {
        start = c.ends-start.result.0;
        goal = c.ends-start.result.1;
        start_is = c.ends-start.ensures.start;
        goal_is = c.ends-start.ensures.goal;
        goals_are = refl;
        checked =
            subst (λ (t : List ℕ). AreChecked IsShownHolding case 0 (suc (length updates.batches)) (start_at t 0)
            ends.outcomes ends.end) c.as_slice.ensures.value ends.checked;
      };
    } in
    let since = ends_since c.in_ok-lattice.ensures.frame.written c.in_ok-lattice.ensures.frame.writes ends.ends in
    λ log. record {
      ends = record {
        intent = Checked (to_in case) ends.outcomes ends.end;
        gives = checked;
        ends = since;
        others = λ name no.
            c.check_on_lattice-ending.ensures.frame.others name no ∙ c.in_ok-lattice.ensures.frame.written name;
        begins = tt;
        published = refl;
      };
      told =
          check_told _ _ _ files c.args.job.now.changes c.args.job.now.labels (job.Check c.args.job.now) _ (to_in case)
          ends.outcomes ends.end _ checked refl c.as_slice.ensures.value since ends.told (λ is. is) (λ is. is) (λ is. is);
    }

pub returns-clause-frame : goal.returns-clause-frame
returns-clause-frame g c = writes_after _ _ _ _ c.in_ok-lattice.ensures.frame c.check_on_lattice-ending.ensures.frame
