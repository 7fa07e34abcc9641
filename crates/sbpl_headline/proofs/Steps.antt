-- How the steps and the result of a plan's record are told in the headline's words, whatever a place is.
use Rattle.std.specs.Prelude.{List, map}
use Rattle.sbpl_promises.specs.sbpl_plan.declared.result.PlanResult.{PlanResult}
use Rattle.sbpl_promises.specs.sbpl_plan.declared.result.PlanResult.TheVariants as outcome
use Rattle.sbpl_promises.specs.sbpl_report.declared.record.PathRecord.{PathRecord}
use Rattle.sbpl_promises.specs.sbpl_report.declared.record.PathStep.{PathStep}
use Rattle.sbpl_promises.specs.sbpl_report.declared.record.ReportPose.{ReportPose}
use Rattle.sbpl_headline.specs.Path.{Step, Result, Path, NoPath, Unknown}

-- a step, where each report pose stands for a place
abbrev pub told_step : {P : Type 0} → (ReportPose → P) → PathStep → Step P
told_step at step = record { id = step.id; place = at step.report_pose }

-- the steps of a path
abbrev pub told_steps : {P : Type 0} → (ReportPose → P) → List PathStep → List (Step P)
told_steps at steps = map (told_step at) steps

-- the result of a plan
abbrev pub told_result : {P : Type 0} → (ReportPose → P) → PlanResult PathRecord → Result P
told_result at (outcome.Path path) = Path path.cost path.bound (told_steps at path.steps)
told_result at outcome.NoPath = NoPath
told_result at outcome.Unknown = Unknown
