-- What is left where a plan ended out of memory.
use Rattle.std.specs.Prelude.{ℕ, ◌⊎◌, List}
use Rattle.sbpl_search.specs.sbpl_labels.Counts.{Counts}
use Rattle.sbpl_search.specs.Meaning.{Meaning}
use Rattle.sbpl_search.specs.State.{State}
use Rattle.sbpl_plan.specs.declared.passes.PassRecord.{PassRecord}
use Rattle.sbpl_plan.specs.Passing.{AreFirstPasses, Inquiry, expansions, query_at}
use Rattle.sbpl_plan.specs.ReadyAfter.{IsReadyAfter}

-- the first few passes of a plan, the first of this inflation, led from the one state of a search to the other, from which another plan may begin, and an observer was told of them
pub record IsPartOfPlan {Action : Type 0} (means : Meaning Action) (q : Inquiry) (eps : ℕ) (old new : State Action) (before after : Counts) (Told : List (PassRecord Action) → Type 0) : Type 0 where
  pub passes : List (PassRecord Action)
  pub told : Told passes
  pub made : AreFirstPasses means q eps old.labels passes new.labels
  pub leaves : IsReadyAfter means q.network (expansions passes) old new before after

-- after the first few passes of a plan, the first of this inflation, memory ran out in a further pass
pub record IsCutAfterPart {Action : Type 0} (means : Meaning Action) (q : Inquiry) (eps : ℕ) (old new : State Action) (before after : Counts) (Told : List (PassRecord Action) → Type 0) : Type 0 where
  pub mid : State Action
  pub between : Counts
  pub part : IsPartOfPlan means q eps old mid before between Told
  pub inflation : ℕ
  pub cut : means.cut (query_at q inflation) mid new between after

-- memory ran out after a part of a plan, or in the pass after it
abbrev pub RunsOutOfMemory : {Action : Type 0} → Meaning Action → Inquiry → ℕ → (old new : State Action) → (before after : Counts) → (Told : List (PassRecord Action) → Type 0) → Type 0
RunsOutOfMemory means q eps old new before after Told = IsPartOfPlan means q eps old new before after Told ⊎ IsCutAfterPart means q eps old new before after Told
