-- What a run promises, by how it ends.
use Rattle.std.proofs.Common.{ℕ, List, Option, arith}
use Rattle.sbpl_promises.specs.Causes.{CausesStand}
use Rattle.sbpl_promises.specs.sbpl_cost.Alike.{AlikeWorldsAreOneGraph}
use Rattle.sbpl_promises.specs.sbpl_desk.Desk.{DeskState}
use Rattle.sbpl_promises.specs.sbpl_job.declared.job.Job.{Job}
use Rattle.sbpl_promises.specs.Clear.{SectionsAreClear, TextsAreClear}
use Rattle.sbpl_promises.specs.GridSite.{grid_site}
use Rattle.sbpl_promises.specs.LatticeSite.{lattice_site}
use Rattle.sbpl_laws.proofs.GridAlike.{AreOneGrid}
use Rattle.sbpl_promises.specs.Determined.{AreAlikeWorlds, FewAreFirst, RecordsAreOne}
use Rattle.sbpl_promises.specs.Promises.{EndsRun}
use Rattle.sbpl_promises.specs.Published.{Entry}
use Rattle.sbpl_promises.specs.RunPromises.{RunPromises}
use Rattle.sbpl_laws.proofs.OneEnding.{OneMap}
use Rattle.sbpl_laws.proofs.Runs.{run_changes_faulty, run_changes_long, run_checked, run_complete, run_cut}
use Rattle.sbpl_laws.proofs.Runs.{run_demonstrated, run_done, run_end_off, run_environment_faulty, run_environment_long}
use Rattle.sbpl_laws.proofs.Runs.{run_faulted, run_flawed, run_grid_changes_faulty, run_grid_changes_long}
use Rattle.sbpl_laws.proofs.Runs.{run_grid_checked, run_grid_complete, run_grid_end_off, run_grid_faulty, run_grid_labels_long}
use Rattle.sbpl_laws.proofs.Runs.{run_grid_long, run_labels_long, run_no_job, run_primitives_faulty}
use Rattle.sbpl_laws.proofs.Runs.{run_primitives_long, run_published, run_refused, run_status, run_stopped}
use Rattle.sbpl_laws.proofs.Runs.{run_too_dear, run_too_wide, run_words, run_write}
use Rattle.sbpl_laws.proofs.Wholes.{run_called, run_prefix, run_whole}

pub promised : CausesStand → TextsAreClear → SectionsAreClear → OneMap → AlikeWorldsAreOneGraph
    → RecordsAreOne lattice_site AreAlikeWorlds → FewAreFirst lattice_site AreAlikeWorlds
    → RecordsAreOne grid_site AreOneGrid → FewAreFirst grid_site AreOneGrid
    → (named : Option Job) (before after : DeskState) (old new : List Entry) (status : ℕ)
    → EndsRun named before after old new status → RunPromises named before after old new status
promised stand clear sections one_map graphs one first one_grid first_grid named before after old new status ends =
    record {
      statuses = run_status before after old new named status ends;
      done = run_done before after old new named status ends;
      flaw = run_flawed before after old new named status ends;
      fault = run_faulted before after old new named status ends;
      words = run_words before after old new named status ends;
      environment =
          λ at. run_refused before after old new named status 3 ends at (omega arith, omega arith, λ h. omega arith)
          (λ h. omega arith);
      primitives =
          λ at. run_refused before after old new named status 4 ends at (omega arith, omega arith, λ h. omega arith)
          (λ h. omega arith);
      changes =
          λ at. run_refused before after old new named status 5 ends at (omega arith, omega arith, λ h. omega arith)
          (λ h. omega arith);
      unread =
          λ at. run_refused before after old new named status 6 ends at (omega arith, omega arith, λ h. omega arith)
          (λ h. omega arith);
      too_long =
          λ at. run_refused before after old new named status 8 ends at (omega arith, omega arith, λ h. omega arith)
          (λ h. omega arith);
      write = run_write before after old new named status ends;
      cut = run_cut before after old new named status ends;
      memory = run_stopped before after old new named status ends;
      published = run_published before after old new named status ends;
      no_job = run_no_job before after old new named status ends;
      environment_faulty = λ from f (j, names, is).
          run_environment_faulty before after old new named status clear ends j from f names is;
      environment_long =
          λ from (j, names, is). run_environment_long before after old new named status clear ends j from names is;
      primitives_long =
          λ from e (j, names, is). run_primitives_long before after old new named status clear ends j from e names is;
      primitives_faulty = λ from e f (j, names, is).
          run_primitives_faulty before after old new named status clear ends j from e f names is;
      too_wide = λ from e ps i (j, names, is).
          run_too_wide before after old new named status clear ends j from e ps i names is;
      too_dear = λ from e ps i (j, names, is).
          run_too_dear before after old new named status clear ends j from e ps i names is;
      changes_long = run_changes_long before after old new named status clear ends;
      changes_faulty = run_changes_faulty before after old new named status clear ends;
      end_off = λ from end (j, names, is).
          run_end_off before after old new named status clear ends j from end names is;
      grid_faulty =
          λ from f (j, names, is). run_grid_faulty before after old new named status clear ends j from f names is;
      grid_end_off = λ from end (j, names, is).
          run_grid_end_off before after old new named status clear ends j from end names is;
      grid_long = λ from (j, names, is). run_grid_long before after old new named status clear ends j from names is;
      grid_changes_long = run_grid_changes_long before after old new named status clear ends;
      grid_changes_faulty = run_grid_changes_faulty before after old new named status clear ends;
      grid_complete = run_grid_complete before after old new named status clear ends;
      complete = run_complete before after old new named status clear ends;
      demonstrated = run_demonstrated before after old new named status ends;
      checked = run_checked before after old new named status clear sections one_map graphs ends;
      labels_long = run_labels_long before after old new named status clear ends;
      grid_checked = run_grid_checked before after old new named status clear sections one_map ends;
      grid_labels_long = run_grid_labels_long before after old new named status clear ends;
      called = run_called before after old new stand named status ends;
      determined = λ j whole is told calls free.
          run_whole clear sections one_map graphs one first one_grid first_grid before after old new named status ends j
          whole is told calls free;
      prefix = λ j whole is told quiet calls.
          run_prefix clear sections one_map graphs one first one_grid first_grid before after
          old new named status ends j
          whole is told quiet calls;
    }
