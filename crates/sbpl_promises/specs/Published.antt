-- What plans publish: an entry for each pass whose walk gave a path, in order.
use Rattle.std.specs.Prelude.{ℕ, ◌+◌, List, [], ◌∷◌, ◌++◌, map}
use Rattle.sbpl_report.specs.sbpl_incumbent.Entries.{next_entry}
pub use Rattle.sbpl_report.specs.sbpl_incumbent.Entries.{newest}
pub use Rattle.sbpl_report.specs.sbpl_incumbent.declared.entry.Entry.{Entry}
use Rattle.sbpl_report.specs.sbpl_plan.declared.found.Found.{Found}
use Rattle.sbpl_report.specs.sbpl_plan.declared.found.Found.TheVariants as found
use Rattle.sbpl_report.specs.sbpl_plan.declared.passes.PassRecord.{PassRecord}
use Rattle.sbpl_report.specs.declared.record.PlanRecord.{PlanRecord}

-- what passes found, in turn
abbrev pub founds : {Action : Type 0} → List (PassRecord Action) → List Found
founds = map (λ p. p.found)

-- what was published and then an entry for each path that passes of a plan found, in turn, the first of which has this number
abbrev pub with_paths : (log : List Entry) → (plan pass : ℕ) → List Found → List Entry
with_paths log plan pass [] = log
with_paths log plan pass (found.Path cost bound ∷ rest) = with_paths (log ++ next_entry log plan pass cost bound ∷ []) plan (pass + 1) rest
with_paths log plan pass (_ ∷ rest) = with_paths log plan (pass + 1) rest

-- what was published and then the entries of a plan
abbrev pub with_plan : (log : List Entry) → PlanRecord → List Entry
with_plan log r = with_paths log r.plan 0 (founds r.passes)

-- what was published and then the entries of plans, in turn
abbrev pub with_plans : (log : List Entry) → List PlanRecord → List Entry
with_plans log [] = log
with_plans log (r ∷ rs) = with_plans (with_plan log r) rs
