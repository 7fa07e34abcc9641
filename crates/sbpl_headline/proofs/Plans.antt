-- How the records of plans are told in the headline's words, whatever a place is.
use Rattle.std.proofs.Common.{◌≡◌, ◌==◌, false, refl, ℕ, suc, List, [], ◌∷◌, map, codes, decimal}
use Rattle.std.specs.List.{AllByRecursion, list_any}
use Rattle.sbpl_promises.specs.sbpl_fixed.Printed.{milli_text}
use Rattle.sbpl_promises.specs.sbpl_plan.declared.found.Found.{Found}
use Rattle.sbpl_promises.specs.sbpl_plan.declared.found.Found.TheVariants as found
use Rattle.sbpl_promises.specs.sbpl_plan.declared.passes.PassRecord.{PassRecord}
use Rattle.sbpl_promises.specs.sbpl_report.declared.record.PlanRecord.{PlanRecord}
use Rattle.sbpl_promises.specs.sbpl_report.declared.record.ReportPose.{ReportPose}
use Rattle.sbpl_promises.specs.sbpl_report.declared.record.ReportPose.TheVariants as report_pose
use Rattle.sbpl_promises.specs.sbpl_report.declared.record.TraceLine.{TraceLine}
use Rattle.sbpl_headline.specs.Grid.{Square}
use Rattle.sbpl_headline.specs.Path as told
use Rattle.sbpl_headline.specs.Path.{Plan}
use Rattle.sbpl_headline.proofs.InLine.{decimal_in_line, milli_in_line}
use Rattle.sbpl_headline.proofs.Steps.{told_result}

-- the words of what a pass found
abbrev pub told_found : Found → List (List ℕ)
told_found (found.Path cost bound) = codes "best" ∷ decimal cost ∷ codes "bound" ∷ milli_text bound ∷ []
told_found found.None = codes "none" ∷ []
told_found found.Broken = codes "broken" ∷ []

-- which stand in one line
pub found_in_line : (f : Found) → AllByRecursion (λ word. list_any (λ byte. byte == 10) word ≡ false) (told_found f)
found_in_line (found.Path cost bound) = (refl, (decimal_in_line cost, (refl, (milli_in_line bound, tt))))
found_in_line found.None = (refl, tt)
found_in_line found.Broken = (refl, tt)

-- a pass
abbrev pub told_pass : PassRecord TraceLine → told.Pass
told_pass p = record {
  inflation = p.inflation;
  expanded = p.expanded;
  found = told_found p.found;
  in_line = found_in_line p.found;
}

-- a plan that starts at this place, where each report pose stands for a place
abbrev pub told_plan : {P : Type 0} → (ReportPose → P) → (start : P) → PlanRecord → Plan P
told_plan at start r =
    record { passes = map told_pass r.passes; spent = r.spent; start = start; result = told_result at r.outcome }

-- plans in turn, the first of which is plan k, each from its own start
abbrev pub told_plans : {P : Type 0} → (ReportPose → P) → (starts : ℕ → P) → (k : ℕ) → List PlanRecord → List (Plan P)
told_plans at starts k [] = []
told_plans at starts k (r ∷ rs) = told_plan at (starts k) r ∷ told_plans at starts (suc k) rs

-- the place of a report pose on a grid; a pose, which is none there, stands for its cell
abbrev pub square_at : ReportPose → Square
square_at (report_pose.Pose p) = record { x = p.x; y = p.y }
square_at (report_pose.Cell x y) = record { x = x; y = y }
