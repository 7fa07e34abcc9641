-- The passes and the result of a plan are determined.
use Rattle.std.specs.Prelude.{◌≡◌, ◌≢◌, ℕ, ◌+◌, ◌^◌, ◌≤◌, ◌⊎◌, Bool, true, None, List}
use Rattle.sbpl_search.specs.sbpl_graph.Network.{Network}
use Rattle.sbpl_search.specs.sbpl_labels.Marks.{Marks, states_of, back_of}
use Rattle.sbpl_search.specs.sbpl_labels.declared.time.Time.{Time}
use Rattle.sbpl_search.specs.sbpl_labels.declared.time.Time.TheVariants.{Late}
use Rattle.sbpl_search.specs.Determined.{AreAlikeGuides}
use Rattle.sbpl_search.specs.Meaning.{Meaning}
use Rattle.sbpl_plan.specs.declared.passes.PassRecord.{PassRecord}
use Rattle.sbpl_plan.specs.declared.result.FoundPath.{FoundPath}
use Rattle.sbpl_plan.specs.declared.result.PlanResult.{PlanResult}
use Rattle.sbpl_plan.specs.Outcomes.{IsResultOf}
use Rattle.sbpl_plan.specs.Passing.{ArePasses, Inquiry, expansions}

-- passes of a plan with this budget, in a run that has expanded this many states before, and the plan's time after them: they
-- expand no more than the budget and what the run has left, and are spent only where the one or the other is used up, or the plan
-- is late
pub record AreWithin {Action : Type 0} (budget before : ℕ) (time : Time) (passes : List (PassRecord Action)) (spent : Bool) : Type 0 where
  pub of_plan : expansions passes ≤ budget
  pub of_run : before + expansions passes ≤ 2 ^ 30
  pub used_up : spent ≡ true → (expansions passes ≡ budget) ⊎ ((before + expansions passes ≡ 2 ^ 30) ⊎ (time ≡ Late))

-- two plans have the same passes, leave the same labels, and both are spent or neither
pub record AreOnePlan {Action : Type 0} (ps qs : List (PassRecord Action)) (a b : Marks) (spent spent' : Bool) : Type 0 where
  pub passes : ps ≡ qs
  pub labels : a ≡ b
  pub both : spent ≡ spent'

-- two plans of a planner that begin with the same labels, the start's with no back arc, are the same where the guides, the budget and what the run has left are the same, and neither plan was late
abbrev pub PassesAreOne : {Action : Type 0} → Meaning Action → Type 0
PassesAreOne {Action = Action} means = (q : Inquiry) (h : ℕ → ℕ) (budget before eps : ℕ) (time time' : Time) (old a b : Marks) (ps qs : List (PassRecord Action)) (spent spent' : Bool)
    → back_of old old.start ≡ None → AreAlikeGuides (states_of old) q.guide h
    → ArePasses means q eps old ps a spent → ArePasses means (record q { guide = h }) eps old qs b spent'
    → time ≢ Late → time' ≢ Late → AreWithin budget before time ps spent → AreWithin budget before time' qs spent' → AreOnePlan ps qs a b spent spent'

-- labels have one result, path, cost and bound with it, where the start has no back arc
abbrev pub OutcomesAreOne : Type 0
OutcomesAreOne = (n : Network) (h h' : ℕ → ℕ) (goal : ℕ) (m : Marks) (one other : PlanResult FoundPath) → back_of m m.start ≡ None
    → AreAlikeGuides (states_of m) h h' → IsResultOf n h goal m one → IsResultOf n h' goal m other → one ≡ other
