-- What a job means to do: what is to be written, and the status.
use Rattle.std.specs.Prelude.{◌≡◌, ℕ, ◌+◌, Bool, if◌then◌else◌, List, [], ◌∷◌, ◌++◌, flat_map, length, map, Option, Some, None}
use Rattle.sbpl_report.specs.declared.refusal.Refusal.{Refusal}
use Rattle.sbpl_report.specs.sbpl_cost.Lattices.{network_of}
use Rattle.sbpl_report.specs.sbpl_cost.World.{World}
use Rattle.sbpl_report.specs.sbpl_cert.declared.outcome.Outcome.{Outcome}
use Rattle.sbpl_report.specs.sbpl_job.declared.job.Job.{Job}
use Rattle.sbpl_report.specs.sbpl_job.declared.job.Job.TheVariants as job
use Rattle.sbpl_promises.specs.declared.section_stop.SectionStop.{SectionStop}
use Rattle.sbpl_promises.specs.declared.section_stop.SectionStop.TheVariants as stop
use Rattle.sbpl_report.specs.sbpl_job.declared.job.LabelForm.TheVariants as form
use Rattle.sbpl_report.specs.sbpl_job.declared.job.Outputs.{Outputs}
use Rattle.sbpl_report.specs.sbpl_plan.declared.found.Found.{Found}
use Rattle.sbpl_promises.specs.Published.{Entry, with_paths, with_plans}
use Rattle.sbpl_report.specs.declared.record.PlanRecord.{PlanRecord}
use Rattle.sbpl_report.specs.Listing.{listings}
use Rattle.sbpl_report.specs.Report.{incumbent_text, section_text, done_text, demo_text, plan_line}
use Rattle.sbpl_report.specs.Traces.{trace_text}
use Rattle.sbpl_report.specs.Verdicts.{flaw_text, holds_text}
use Rattle.sbpl_promises.specs.Writing.{Write, to_named, to_output}
use Rattle.sbpl_report.specs.Refusals.{label_fault_text, refusal_status, refusal_text, words_text}
use Rattle.sbpl_report.specs.Shown.{labels_text}

-- What a job means to do: it is refused; plans were made, all or the first few, after these entries were published, and then memory ran
-- out in a plan whose passes found this, if it did; sections of labels were checked, of searches to these
-- goals, of which those with these outcomes hold, and then it ended so; the sweeps of a world are listed; plans of a demonstration were made
-- in a world with this number of batches of changes, all or the first few; or memory runs out before anything is written.
pub data Intent : Type 0 where
  Refused : Refusal → Intent
  Planned : List PlanRecord → (all : Bool) → (log : List Entry) → (broken : List Found) → Intent
  Checked : (goals : ℕ → ℕ) → List Outcome → Option SectionStop → Intent
  Listed : World → Intent
  Demonstrated : World → (batches : ℕ) → List PlanRecord → (all : Bool) → (log : List Entry) → (broken : List Found) → Intent
  OutOfMemory : Intent

-- the last write
abbrev pub last_write : Write
last_write = to_output done_text

-- the write of a plan's labels, where they are written
abbrev pub labels_writes : Outputs → PlanRecord → List Write
labels_writes o plan = to_named o.labels (labels_text plan.labels)

-- the write of a plan's trace, where it is written
abbrev pub trace_writes : Outputs → PlanRecord → List Write
trace_writes o plan = to_named o.trace (trace_text plan)

-- the write of the newest path after a plan, where it is written
abbrev pub incumbent_writes : Outputs → PlanRecord → List Write
incumbent_writes o plan = to_named o.incumbent (incumbent_text plan.incumbent)

-- the writes of a plan: its section of the report, its labels, its trace, and the newest path
abbrev pub section_writes : Outputs → PlanRecord → List Write
section_writes o plan = to_output (section_text plan) ∷ (labels_writes o plan ++ (trace_writes o plan ++ incumbent_writes o plan))

-- the last write, where all plans were made
abbrev pub end_writes : (all : Bool) → List Write
end_writes all = if all then last_write ∷ [] else []

-- the writes of plans in turn, and the last line
abbrev pub plans_writes : Outputs → List PlanRecord → (all : Bool) → List Write
plans_writes o records all = flat_map (section_writes o) records ++ end_writes all

-- their status: memory ran out where they are not all
abbrev pub plans_status : (all : Bool) → ℕ
plans_status all = if all then 0 else 9

-- the writes of lines for plans in turn, and the last line
abbrev pub lines_writes : List PlanRecord → (all : Bool) → List Write
lines_writes records all = flat_map (λ r. to_output (plan_line r) ∷ []) records ++ end_writes all

-- the writes of a demonstration: its first line, a line for each plan, and the last line
abbrev pub demo_writes : World → (batches : ℕ) → List PlanRecord → (all : Bool) → List Write
demo_writes w batches records all =
    to_output (demo_text (network_of w).states (length w.prims.items) batches)
    ∷ lines_writes records all

-- the write that says why the checking of sections ends, where memory does not run out
abbrev pub stop_writes : (goal plan : ℕ) → SectionStop → List Write
stop_writes goal plan (stop.Flaw f) = to_output (flaw_text goal plan f) ∷ []
stop_writes goal plan (stop.Fault f) = to_output (label_fault_text f) ∷ []
stop_writes goal plan stop.NoMemory = []

-- its status
abbrev pub stop_status : SectionStop → ℕ
stop_status (stop.Flaw f) = 1
stop_status (stop.Fault f) = 10
stop_status stop.NoMemory = 9

-- the writes of a check, of searches to these goals: a line for each section that holds, and then the last line, or why it ends
abbrev pub checked_writes : (goals : ℕ → ℕ) → (plan : ℕ) → List Outcome → Option SectionStop → List Write
checked_writes goals plan [] None = last_write ∷ []
checked_writes goals plan [] (Some s) = stop_writes (goals plan) plan s
checked_writes goals plan (o ∷ os) end = to_output (holds_text plan o) ∷ checked_writes goals (plan + 1) os end

-- the status of a check
abbrev pub checked_status : Option SectionStop → ℕ
checked_status None = 0
checked_status (Some s) = stop_status s

-- the writes of a list of sweeps: one for each primitive, and the last line
abbrev pub listing_writes : World → List Write
listing_writes w = map to_output (listings w) ++ last_write ∷ []

-- the writes of words that name no job
abbrev pub words_writes : List Write
words_writes = to_output words_text ∷ []

-- the writes of a refusal
abbrev pub refusal_writes : Job → Refusal → List Write
refusal_writes j r = to_output (refusal_text j r) ∷ []

-- where a job's plans are written besides the report
abbrev pub outputs_of : Job → Outputs
outputs_of (job.Plan j) = j.outputs
outputs_of (job.Nav j) = j.outputs
outputs_of _ = record { labels = None; form = form.Sparse; trace = None; incumbent = None }

-- what is to be written
abbrev pub writes_of : Job → Intent → List Write
writes_of j (Refused r) = refusal_writes j r
writes_of j (Planned records all log broken) = plans_writes (outputs_of j) records all
writes_of j (Checked goals os end) = checked_writes goals 0 os end
writes_of j (Listed w) = listing_writes w
writes_of j (Demonstrated w batches records all log broken) = demo_writes w batches records all
writes_of j OutOfMemory = []

-- the status of a job that means to do this and whose writes are made
abbrev pub intent_status : Intent → ℕ
intent_status (Refused r) = refusal_status r
intent_status (Planned records all log broken) = plans_status all
intent_status (Checked goals os end) = checked_status end
intent_status (Listed w) = 0
intent_status (Demonstrated w batches records all log broken) = plans_status all
intent_status OutOfMemory = 9

-- The statuses of the program: those of what jobs mean to do (`intent_status`), 2 for words that name no job, and 7 for a write
-- that failed.
abbrev pub statuses : List ℕ
statuses = 0 ∷ 1 ∷ 2 ∷ 3 ∷ 4 ∷ 5 ∷ 6 ∷ 7 ∷ 8 ∷ 9 ∷ 10 ∷ []

-- the plans of a job are made after these entries were published
abbrev pub BeginsAfter : Intent → List Entry → Type 0
BeginsAfter (Planned records all log broken) old = log ≡ old
BeginsAfter (Demonstrated w batches records all log broken) old = log ≡ old
BeginsAfter _ old = Unit {0}

-- what is published once the plans of a job are made, where these entries were published before: one more for each pass whose walk gave a
-- path, in order
abbrev pub published_by : Intent → List Entry → List Entry
published_by (Planned records all log broken) old = with_paths (with_plans old records) (length records) 0 broken
published_by (Demonstrated w batches records all log broken) old = with_paths (with_plans old records) (length records) 0 broken
published_by _ old = old
