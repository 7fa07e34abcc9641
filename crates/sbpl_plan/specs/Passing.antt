-- The passes of a plan, in turn.
use Rattle.std.specs.Prelude.{◌≡◌, ℕ, ◌+◌, ◌⊎◌, Bool, true, false, MatchBool, if◌then◌else◌, List, [], ◌∷◌}
use Rattle.sbpl_search.specs.sbpl_graph.Network.{Network}
use Rattle.sbpl_search.specs.sbpl_labels.CutOff.{IsCutOff}
use Rattle.sbpl_search.specs.sbpl_labels.Marks.{Marks, states_of, g_of, v_of}
use Rattle.sbpl_search.specs.Meaning.{Meaning}
use Rattle.sbpl_search.specs.Query.{Query, query}
use Rattle.sbpl_plan.specs.declared.ask.Ask.{Ask}
use Rattle.sbpl_plan.specs.declared.found.Found.{Found}
use Rattle.sbpl_plan.specs.declared.passes.PassRecord.{PassRecord}
use Rattle.sbpl_plan.specs.Asked.{lowered}
use Rattle.sbpl_plan.specs.Looking.{IsEnough, WalkFinds}

-- what stays the same over a plan: the graph, the guide, the goal, how many workers make its passes, and what is asked
pub record Inquiry : Type 0 where
  pub network : Network
  pub guide : ℕ → ℕ
  pub goal : ℕ
  pub workers : ℕ
  pub ask : Ask

abbrev pub inquiry_of : Network → (ℕ → ℕ) → (goal workers : ℕ) → Ask → Inquiry
inquiry_of n h goal workers ask = record { network = n; guide = h; goal = goal; workers = workers; ask = ask }

-- what stays the same over a pass of this inflation
abbrev pub query_at : Inquiry → ℕ → Query
query_at q eps = query q.network q.guide eps q.goal

-- something is left to expand, or nothing is: a pass that was spent, or that rests
abbrev pub EndsPass : {Action : Type 0} → Meaning Action → Query → List Action → Marks → Bool → Type 0
EndsPass means q actions m spent = MatchBool spent (means.goes_on q actions m) (means.rests q actions m)

-- a pass of this inflation, made by these workers, leads from the old labels to the new ones, and this is its record
pub record IsPass {Action : Type 0} (means : Meaning Action) (q : Inquiry) (eps : ℕ) (old new : Marks) (spent : Bool) (p : PassRecord Action) : Type 0 where
  pub inflation : p.inflation ≡ eps
  pub actions : List Action
  pub leads : means.leads (query_at q eps) actions old new
  pub ends : EndsPass means (query_at q eps) actions new spent
  pub seated : means.seated q.workers actions
  pub expanded : p.expanded ≡ means.expansions actions
  pub told : p.trace ≡ (if q.ask.traced then actions else [])
  pub arcs : List ℕ
  pub found : WalkFinds q.network q.guide q.goal new arcs p.found

-- a plan ends after a pass that found a path with a bound that is good enough, whose labels show that there is no path, that was spent, or that had inflation one
abbrev pub EndsPlan : Inquiry → ℕ → Marks → Bool → Found → Type 0
EndsPlan q eps m spent found = IsEnough q.ask.bound found ⊎ (IsCutOff (states_of m) q.goal (g_of m) (v_of m) ⊎ ((spent ≡ true) ⊎ (eps ≡ 1000)))

-- these passes in turn, the first of this inflation, lead from the old labels to the new ones; the plan ends after the last, which was spent or not, and after none before it
abbrev pub ArePasses : {Action : Type 0} → Meaning Action → Inquiry → ℕ → Marks → List (PassRecord Action) → Marks → Bool → Type 0
ArePasses means q eps old [] new spent = ⊥
ArePasses means q eps old (p ∷ ps) new spent =
    ((ps ≡ []) × IsPass means q eps old new spent p × EndsPlan q eps new spent p.found)
    ⊎ ((mid : Marks) × IsPass means q eps old mid false p × (EndsPlan q eps mid false p.found → ⊥) × ArePasses means q (lowered q.ask.step eps) mid ps new spent)

-- these passes in turn, the first of this inflation, lead from the old labels to the new ones; the plan ends after none of them but perhaps the last
abbrev pub AreFirstPasses : {Action : Type 0} → Meaning Action → Inquiry → ℕ → Marks → List (PassRecord Action) → Marks → Type 0
AreFirstPasses means q eps old [] new = new ≡ old
AreFirstPasses means q eps old (p ∷ ps) new =
    ((ps ≡ []) × ((spent : Bool) × IsPass means q eps old new spent p))
    ⊎ ((mid : Marks) × IsPass means q eps old mid false p × (EndsPlan q eps mid false p.found → ⊥) × AreFirstPasses means q (lowered q.ask.step eps) mid ps new)

-- the last of some passes did this, and tells it where it is to be told
abbrev pub EndWith : {Action : Type 0} → Meaning Action → Ask → List (PassRecord Action) → List Action → Type 0
EndWith means ask [] actions = ⊥
EndWith means ask (p ∷ []) actions = (p.expanded ≡ means.expansions actions) × (p.trace ≡ (if ask.traced then actions else []))
EndWith means ask (p ∷ r ∷ ps) actions = EndWith means ask (r ∷ ps) actions

-- how many states passes expanded together
abbrev pub expansions : {Action : Type 0} → List (PassRecord Action) → ℕ
expansions [] = 0
expansions (p ∷ ps) = p.expanded + expansions ps
