-- The lines of a check.
use Rattle.std.specs.Prelude.{ℕ, List, ◌++◌, nat_le, if◌then◌else◌, Option, Some, None, codes, decimal}
use Rattle.sbpl_plan.specs.sbpl_graph.declared.TheConstants.{FAR}
use Rattle.sbpl_job.specs.sbpl_fixed.Printed.{milli_text}
use Rattle.sbpl_cert.specs.declared.flaw.Flaw.{Flaw}
use Rattle.sbpl_cert.specs.declared.flaw.Flaw.TheVariants as flaw
use Rattle.sbpl_cert.specs.declared.outcome.Outcome.{Outcome}
use Rattle.sbpl_cert.specs.declared.outcome.Outcome.TheVariants as outcome
use Rattle.sbpl_cert.specs.Flaws as flaws
use Rattle.sbpl_report.specs.Report.{line_feed}

-- the word for what a plan answered
abbrev pub outcome_word : Outcome → List ℕ
outcome_word (outcome.Path cost bound) = codes "path"
outcome_word outcome.NoPath = codes "nopath"
outcome_word outcome.Unknown = codes "unknown"

-- the line of a section that holds
unfoldable pub holds_text : ℕ → Outcome → List ℕ
holds_text plan o = codes "plan " ++ (decimal plan ++ (codes " " ++ (outcome_word o ++ codes " holds\n")))

-- a label, a low or a limit: infinity and more is a minus alone
abbrev pub limit_text : ℕ → List ℕ
limit_text x = if nat_le FAR x then codes "-" else decimal x

-- two numbers, of which the last is one of these
unfoldable pub two_limits : ℕ → ℕ → List ℕ
two_limits a b = limit_text a ++ (codes " " ++ limit_text b)

-- a state and an arc, and two numbers
unfoldable pub at_arc : (state arc has most : ℕ) → List ℕ
at_arc state arc has most = decimal state ++ (codes " " ++ (decimal arc ++ (codes " " ++ two_limits has most)))

-- a state, and two numbers
unfoldable pub at_state : (state has most : ℕ) → List ℕ
at_state state has most = decimal state ++ (codes " " ++ two_limits has most)

-- a bound, or a minus where there is none
abbrev pub bound_text : Option ℕ → List ℕ
bound_text None = codes "-"
bound_text (Some b) = milli_text b

-- a bound, and the one that it should be
unfoldable pub two_bounds : ℕ → Option ℕ → List ℕ
two_bounds has least = milli_text has ++ (codes " " ++ bound_text least)

-- the value of the guide at the goal, which should be 0
unfoldable pub at_goal : ℕ → ℕ → List ℕ
at_goal goal has = decimal goal ++ (codes " - " ++ (decimal has ++ codes " 0"))

-- the numbers of a flaw
abbrev pub flaw_numbers : ℕ → Flaw → List ℕ
flaw_numbers goal (flaw.Start g) = limit_text g
flaw_numbers goal (flaw.Arc state arc has most) = at_arc state arc has most
flaw_numbers goal (flaw.GoalGuide has) = at_goal goal has
flaw_numbers goal (flaw.Guide state arc has most) = at_arc state arc has most
flaw_numbers goal (flaw.Low state has most) = at_state state has most
flaw_numbers goal (flaw.Path step) = decimal step
flaw_numbers goal (flaw.Cost has paid) = two_limits has paid
flaw_numbers goal (flaw.Bound has least) = two_bounds has least
flaw_numbers goal (flaw.Goal state) = decimal state

-- which flaw it is: its number and name, and the plan
unfoldable pub flaw_kind : (plan : ℕ) → Flaw → List ℕ
flaw_kind plan f = codes "flaw " ++ (decimal (flaws.number_of f) ++ (codes " " ++ (flaws.name_of f ++ (codes " plan " ++ decimal plan))))

-- the line of a flaw
unfoldable pub flaw_text : (goal plan : ℕ) → Flaw → List ℕ
flaw_text goal plan f = flaw_kind plan f ++ (codes " " ++ (flaw_numbers goal f ++ line_feed))
