-- Why a plan has no path, where that is simple.
use Rattle.std.specs.Prelude.{◌≡◌, ◌≢◌, ℕ, List, [], ◌++◌, flat_map, Option, Some, None, codes, decimal}
use Rattle.sbpl_report.specs.sbpl_graph.Network.{IsFreeArc, Network}
use Rattle.sbpl_report.specs.sbpl_plan.declared.result.PlanResult.{PlanResult}
use Rattle.sbpl_report.specs.sbpl_plan.declared.result.PlanResult.TheVariants as outcome
use Rattle.sbpl_report.specs.declared.record.Blockage.{Blockage}
use Rattle.sbpl_report.specs.declared.record.Blockage.TheVariants as blocked
use Rattle.sbpl_report.specs.declared.record.PathRecord.{PathRecord}
use Rattle.sbpl_report.specs.declared.record.PlanRecord.{PlanRecord}

-- no free arc leaves a state
abbrev pub NoneLeaves : Network → ℕ → Type 0
NoneLeaves n s = (k t c : ℕ) → IsFreeArc n s k t c → ⊥

-- no free arc enters it
abbrev pub NoneEnters : Network → ℕ → Type 0
NoneEnters n t = (s k c : ℕ) → IsFreeArc n s k t c → ⊥

-- What is in the way of each path from a start to a goal: that no free arc leaves the start, or otherwise that none enters the goal; or nothing so
-- simple, as where they are the same state.
abbrev pub IsBlockage : Network → (start goal : ℕ) → Option Blockage → Type 0
IsBlockage n start goal (Some blocked.Start) = (start ≢ goal) × NoneLeaves n start
IsBlockage n start goal (Some blocked.Goal) = (start ≢ goal) × (NoneLeaves n start → ⊥) × NoneEnters n goal
IsBlockage n start goal None = start ≢ goal → (NoneLeaves n start → ⊥) × (NoneEnters n goal → ⊥)

-- why a plan with this result has no path, as its record has it: nothing where it has one, or where that is unknown
abbrev pub IsBlockageOf : Network → (start goal : ℕ) → PlanResult PathRecord → Option Blockage → Type 0
IsBlockageOf n start goal outcome.NoPath why = IsBlockage n start goal why
IsBlockageOf n start goal _ why = why ≡ None

-- what is said of a plan that is blocked so
abbrev pub blocked_text : Blockage → List ℕ
blocked_text blocked.Start = codes "no motion from the start is free of obstacles and stays on the map"
blocked_text blocked.Goal = codes "no motion into the goal is free of obstacles"

-- the line that is told of plan k on the file of this name, where it is blocked so
unfoldable pub line_of : (name : List ℕ) → (k : ℕ) → Blockage → List ℕ
line_of name k b = name ++ (codes ": plan " ++ (decimal k ++ (codes " has no path: " ++ (blocked_text b ++ codes "\n"))))

abbrev pub line_if : (name : List ℕ) → (k : ℕ) → Option Blockage → List ℕ
line_if name k None = []
line_if name k (Some b) = line_of name k b

-- what is told of a plan by its record, and of plans in turn
abbrev pub blocked_line : (name : List ℕ) → PlanRecord → List ℕ
blocked_line name r = line_if name r.plan r.blockage

abbrev pub blocked_lines : (name : List ℕ) → List PlanRecord → List ℕ
blocked_lines name records = flat_map (blocked_line name) records
