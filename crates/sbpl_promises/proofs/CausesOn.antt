-- A cause of a refusal stands where other reads have failed.
use Rattle.std.proofs.Common.{ℕ, List, Option, Some, refl, inl, inr}
use Rattle.sbpl_report.specs.sbpl_job.declared.job.Job.{Job}
use Rattle.sbpl_report.specs.sbpl_job.declared.job.Job.TheVariants as job
use Rattle.sbpl_report.specs.sbpl_job.declared.job.GridSources.{GridSources}
use Rattle.sbpl_report.specs.sbpl_job.declared.job.Sources.{Sources}
use Rattle.sbpl_report.specs.declared.refusal.Input.TheVariants as input
use Rattle.sbpl_report.specs.declared.refusal.Refusal.{Refusal}
use Rattle.sbpl_report.specs.declared.refusal.Refusal.TheVariants as refusal
use Rattle.sbpl_promises.specs.Causes.{IsCause, IsChangesCause, IsCheckCause, IsEarlyCause, IsGridCause, IsJobCause}
use Rattle.sbpl_promises.specs.Causes.{IsLabelsCause, check_files, grid_files, plan_files}
use Rattle.sbpl_promises.specs.WorldFiles.{WorldFiles}
use Rattle.sbpl_promises.specs.Writing.{Names, Told}
use Rattle.sbpl_promises.specs.Causes.{IsFailedOn}

module _ (held : Told) (F G : Names) where
  cause_on : (from : Sources) (r : Refusal) → IsFailedOn F G r → IsCause held F from r → IsCause held G from r
  cause_on from (refusal.Read input.Environment) on cause = on refl from.env cause
  cause_on from (refusal.Read input.Primitives) on cause =
      record {
        env = cause.env;
        cells = cause.cells;
        environment = cause.environment;
        holds = on refl from.prims cause.holds;
      }
  cause_on from _ on cause = cause

  grid_cause_on : (from : GridSources) (r : Refusal) → IsFailedOn F G r → IsGridCause held F from r → IsGridCause held G from r
  grid_cause_on from (refusal.Read input.Environment) on cause = on refl from.env cause
  grid_cause_on from _ on cause = cause

  changes_cause_on : {W : Type 0} (f : WorldFiles W) (changes : Option (List ℕ)) (r : Refusal) → IsFailedOn F G r
      → IsChangesCause held F f changes r → IsChangesCause held G f changes r
  changes_cause_on f (Some name) (refusal.Read input.Changes) on (w, says, at) = (w, says, on refl name at)
  changes_cause_on f changes _ on cause = cause

  labels_cause_on : {W : Type 0} (f : WorldFiles W) (changes : Option (List ℕ)) (labels : List ℕ) (r : Refusal)
      → IsFailedOn F G r → IsLabelsCause held F f changes labels r → IsLabelsCause held G f changes labels r
  labels_cause_on f changes labels (refusal.Read input.Labels) on (w, updates, says, changes_say, failed) =
      (w, updates, says, changes_say, on refl labels failed)
  labels_cause_on f changes labels _ on cause = cause

  early_cause_on : {W : Type 0} (f : WorldFiles W) (changes : Option (List ℕ)) (r : Refusal)
      → (f.refused held F r → f.refused held G r) → IsFailedOn F G r → IsEarlyCause held F f changes r
      → IsEarlyCause held G f changes r
  early_cause_on f changes r files on (inl cause) = inl (files cause)
  early_cause_on f changes r files on (inr cause) = inr (changes_cause_on f changes r on cause)

  check_cause_on : {W : Type 0} (f : WorldFiles W) (changes : Option (List ℕ)) (labels : List ℕ) (r : Refusal)
      → (f.refused held F r → f.refused held G r) → IsFailedOn F G r → IsCheckCause held F f changes labels r
      → IsCheckCause held G f changes labels r
  check_cause_on f changes labels r files on (inl cause) = inl (early_cause_on f changes r files on cause)
  check_cause_on f changes labels r files on (inr cause) = inr (labels_cause_on f changes labels r on cause)

  pub job_cause_on : (j : Job) (r : Refusal) → IsFailedOn F G r → IsJobCause held F j r → IsJobCause held G j r
  job_cause_on (job.Plan p) r on cause = early_cause_on (plan_files p) p.changes r (cause_on p.sources r on) on cause
  job_cause_on (job.Check c) r on cause =
      check_cause_on (check_files c) c.changes c.labels r (cause_on c.sources r on) on cause
  job_cause_on (job.Sweep from) r on cause = cause_on from r on cause
  job_cause_on (job.Demo d) r on cause = cause
  job_cause_on (job.Nav j) r on cause =
      early_cause_on (grid_files j.sources) j.changes r (grid_cause_on j.sources r on) on cause
  job_cause_on (job.NavCheck j) r on cause =
      check_cause_on (grid_files j.sources) j.changes j.labels r (grid_cause_on j.sources r on) on cause
