-- The lines of a trace.
use Rattle.std.specs.Prelude.{ℕ, if◌then◌else◌, Option, Some, None, List, ◌++◌, flat_map, map, codes, decimal}
use Rattle.sbpl_job.specs.sbpl_fixed.Printed.{milli_text}
use Rattle.sbpl_frontier_rules.specs.sbpl_serial.declared.step.Step.{Step}
use Rattle.sbpl_plan.specs.declared.passes.PassRecord.{PassRecord}
use Rattle.sbpl_report.specs.declared.record.PlanRecord.{PlanRecord}
use Rattle.sbpl_report.specs.declared.record.TraceLine.{TraceLine}
use Rattle.sbpl_report.specs.declared.record.TraceLine.TheVariants.{Lower, Raise, Open, Take, Post}
use Rattle.sbpl_frontier_rules.specs.declared.event.Event.{Event}
use Rattle.sbpl_frontier_rules.specs.declared.event.Event.TheVariants as event
use Rattle.sbpl_report.specs.Report.{line_feed}

-- the line of a step of a serial run: an overconsistent state is lowered, an underconsistent one is raised
abbrev pub line_of : Step → TraceLine
line_of s = if s.raised then Raise s.state else Lower s.state

-- the line of an event of a parallel search
abbrev pub line_of_event : Event → TraceLine
line_of_event (event.Opened s) = Open s
line_of_event (event.Taken ticket seat s k) = Take ticket seat s k
line_of_event (event.Posted ticket cost) = Post ticket cost

-- a pass, with what it did as lines
abbrev pub traced_pass : {Action : Type 0} → (Action → TraceLine) → PassRecord Action → PassRecord TraceLine
traced_pass line p = record { inflation = p.inflation; expanded = p.expanded; found = p.found; trace = map line p.trace }

-- the cost of an arc, or a dash where it is not free
abbrev pub cost_text : Option ℕ → List ℕ
cost_text None = codes "-"
cost_text (Some cost) = decimal cost

-- a line
abbrev pub line_text : TraceLine → List ℕ
line_text (Lower s) = codes "lower " ++ (decimal s ++ line_feed)
line_text (Raise s) = codes "raise " ++ (decimal s ++ line_feed)
line_text (Open s) = codes "open " ++ (decimal s ++ line_feed)
line_text (Take ticket seat s k) =
    codes "take " ++ (decimal ticket ++ (codes " " ++ (decimal seat ++ (codes " " ++ (decimal s ++ (codes " " ++ (decimal k ++ line_feed)))))))
line_text (Post ticket cost) = codes "post " ++ (decimal ticket ++ (codes " " ++ (cost_text cost ++ line_feed)))

-- the line of a state that was raised before the passes of a plan
abbrev pub raise_text : ℕ → List ℕ
raise_text s = line_text (Raise s)

-- the lines of a pass
unfoldable pub lines_text : PassRecord TraceLine → List ℕ
lines_text p = codes "pass " ++ (milli_text p.inflation ++ (line_feed ++ flat_map line_text p.trace))

-- the section of a plan in a trace
unfoldable pub trace_text : PlanRecord → List ℕ
trace_text r = codes "trace plan " ++ (decimal r.plan ++ (line_feed ++ (flat_map raise_text r.raised ++ (flat_map lines_text r.passes ++ codes "end\n"))))
