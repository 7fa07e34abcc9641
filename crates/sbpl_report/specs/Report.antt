-- The lines of a report.
use Rattle.std.specs.Prelude.{ℕ, List, [], ◌∷◌, ◌++◌, length, flat_map, Option, Some, None, codes, decimal}
use Rattle.sbpl_job.specs.sbpl_fixed.Printed.{milli_text}
use Rattle.sbpl_cost.specs.sbpl_cfg.declared.pose.Place.{Place}
use Rattle.sbpl_plan.specs.declared.found.Found.{Found}
use Rattle.sbpl_plan.specs.declared.found.Found.TheVariants as found
use Rattle.sbpl_report.specs.declared.record.TraceLine.{TraceLine}
use Rattle.sbpl_plan.specs.declared.passes.PassRecord.{PassRecord}
use Rattle.sbpl_report.specs.declared.record.PathStep.{PathStep}
use Rattle.sbpl_report.specs.declared.record.PathRecord.{PathRecord}
use Rattle.sbpl_report.specs.declared.record.ReportPose.{ReportPose}
use Rattle.sbpl_report.specs.declared.record.ReportPose.TheVariants as report_pose
use Rattle.sbpl_plan.specs.declared.result.PlanResult.{PlanResult}
use Rattle.sbpl_plan.specs.declared.result.PlanResult.TheVariants as outcome
use Rattle.sbpl_incumbent.specs.declared.entry.Entry.{Entry}
use Rattle.sbpl_report.specs.declared.record.PlanRecord.{PlanRecord}

-- a line feed
abbrev pub line_feed : List ℕ
line_feed = 10 ∷ []

-- what a pass found
abbrev pub found_text : Found → List ℕ
found_text (found.Path cost bound) = codes " best " ++ (decimal cost ++ (codes " bound " ++ milli_text bound))
found_text found.None = codes " none"
found_text found.Broken = codes " broken"

-- the line of a pass
unfoldable pub pass_text : PassRecord TraceLine → List ℕ
pass_text p = codes "pass " ++ (milli_text p.inflation ++ (codes " expanded " ++ (decimal p.expanded ++ (found_text p.found ++ line_feed))))

-- a place, and the end of its line
unfoldable pub place_text : Place → List ℕ
place_text p = decimal p.x ++ (codes " " ++ (decimal p.y ++ (codes " " ++ (decimal p.t ++ line_feed))))

-- where a state is, and the end of its line: a pose with its heading, or a cell
abbrev pub report_pose_text : ReportPose → List ℕ
report_pose_text (report_pose.Pose p) = place_text p
report_pose_text (report_pose.Cell x y) = decimal x ++ (codes " " ++ (decimal y ++ line_feed))

-- the line of a step
unfoldable pub step_text : PathStep → List ℕ
step_text s = codes "step " ++ (decimal s.id ++ (codes " " ++ report_pose_text s.report_pose))

-- the lines of a path
unfoldable pub path_text : PathRecord → List ℕ
path_text p = codes "path " ++ (decimal (length p.steps) ++ (codes " cost " ++ (decimal p.cost ++ (codes " bound " ++ (milli_text p.bound ++ (line_feed ++ (codes "pose " ++ (report_pose_text p.start ++ flat_map step_text p.steps))))))))

-- the lines of a result
abbrev pub outcome_text : PlanResult PathRecord → List ℕ
outcome_text (outcome.Path p) = path_text p
outcome_text outcome.NoPath = codes "nopath\n"
outcome_text outcome.Unknown = codes "unknown\n"

-- the line of a plan that was spent
abbrev pub spent_text : Option ℕ → List ℕ
spent_text None = []
spent_text (Some n) = codes "spent " ++ (decimal n ++ line_feed)

-- the section of a plan
unfoldable pub section_text : PlanRecord → List ℕ
section_text r = codes "plan " ++ (decimal r.plan ++ (line_feed ++ (flat_map pass_text r.passes ++ (spent_text r.spent ++ outcome_text r.outcome))))

-- the last line
abbrev pub done_text : List ℕ
done_text = codes "done\n"

-- ---- the newest path

-- an entry: its number, its plan and pass, and the cost and the bound of its path
unfoldable pub entry_text : Entry → List ℕ
entry_text e = codes "incumbent " ++ (decimal e.number ++ (codes " plan " ++ (decimal e.plan ++ (codes " pass " ++ (decimal e.pass ++ (codes " cost " ++ (decimal e.cost ++ (codes " bound " ++ (milli_text e.bound ++ line_feed)))))))))

-- the line of the newest entry, or that there is none
abbrev pub incumbent_text : Option Entry → List ℕ
incumbent_text (Some e) = entry_text e
incumbent_text None = codes "incumbent none\n"

-- ---- a demonstration

-- the first line: how many states, primitives and batches of changes there are
unfoldable pub demo_text : (states primitives batches : ℕ) → List ℕ
demo_text states primitives batches = codes "demo states " ++ (decimal states ++ (codes " primitives " ++ (decimal primitives ++ (codes " batches " ++ (decimal batches ++ line_feed)))))

-- a result in one line
abbrev pub outcome_line : PlanResult PathRecord → List ℕ
outcome_line (outcome.Path p) = codes "path " ++ (decimal (length p.steps) ++ (codes " cost " ++ (decimal p.cost ++ (codes " bound " ++ milli_text p.bound))))
outcome_line outcome.NoPath = codes "nopath"
outcome_line outcome.Unknown = codes "unknown"

-- the line of a plan: its result, and how many states it expanded
unfoldable pub plan_line : PlanRecord → List ℕ
plan_line r = codes "plan " ++ (decimal r.plan ++ (codes " " ++ (outcome_line r.outcome ++ (codes " expanded " ++ (decimal r.expanded ++ line_feed)))))
