-- The result of a plan, and what it promises.
use Rattle.std.specs.Prelude.{◌≡◌, ℕ, ◌*◌, ◌≤◌, List}
use Rattle.sbpl_search.specs.sbpl_graph.Network.{Network}
use Rattle.sbpl_search.specs.sbpl_graph.Path.{IsFreePath}
use Rattle.sbpl_search.specs.sbpl_labels.CutOff.{IsCutOff}
use Rattle.sbpl_search.specs.sbpl_labels.Marks.{Marks, states_of, g_of, v_of}
use Rattle.sbpl_plan.specs.declared.found.Found.{Found}
use Rattle.sbpl_plan.specs.declared.found.Found.TheVariants as found
use Rattle.sbpl_plan.specs.declared.result.FoundPath.{FoundPath}
use Rattle.sbpl_plan.specs.declared.result.PlanResult.{PlanResult}
use Rattle.sbpl_plan.specs.declared.result.PlanResult.TheVariants as outcome
use Rattle.sbpl_plan.specs.Looking.{IsPathFound}

-- the result by the final labels: the path of the walk; or that there is none, where the labels show it; or neither
abbrev pub IsResultOf : Network → (ℕ → ℕ) → ℕ → Marks → PlanResult FoundPath → Type 0
IsResultOf n h goal m (outcome.Path p) = IsPathFound n h goal m p.arcs p.cost p.bound
IsResultOf n h goal m outcome.NoPath = IsCutOff (states_of m) goal (g_of m) (v_of m)
IsResultOf n h goal m outcome.Unknown =
    (IsCutOff (states_of m) goal (g_of m) (v_of m) → ⊥) × ((arcs : List ℕ) (cost bound : ℕ) → IsPathFound n h goal m arcs cost bound → ⊥)

-- a path is free, joins start to goal, and costs at most its bound times every such path; where there is said to be none there is none
abbrev pub IsTrueOutcome : Network → ℕ → ℕ → PlanResult FoundPath → Type 0
IsTrueOutcome n start goal (outcome.Path p) =
    IsFreePath n start p.arcs goal p.cost × (1000 ≤ p.bound) × ((others : List ℕ) (dear : ℕ) → IsFreePath n start others goal dear → 1000 * p.cost ≤ p.bound * dear)
IsTrueOutcome n start goal outcome.NoPath = (arcs : List ℕ) (cost : ℕ) → IsFreePath n start arcs goal cost → ⊥
IsTrueOutcome n start goal outcome.Unknown = Unit {0}

-- the result is known, and a path's bound is at most the one asked
abbrev pub IsConclusive : ℕ → PlanResult FoundPath → Type 0
IsConclusive asked (outcome.Path p) = p.bound ≤ asked
IsConclusive asked outcome.NoPath = Unit {0}
IsConclusive asked outcome.Unknown = ⊥

-- the result tells the path that the last pass found, or that it found none
abbrev pub AgreesWithFound : Found → PlanResult FoundPath → Type 0
AgreesWithFound (found.Path c b) (outcome.Path p) = (p.cost ≡ c) × (p.bound ≡ b)
AgreesWithFound found.None outcome.NoPath = Unit {0}
AgreesWithFound found.None outcome.Unknown = Unit {0}
AgreesWithFound found.Broken outcome.NoPath = Unit {0}
AgreesWithFound found.Broken outcome.Unknown = Unit {0}
AgreesWithFound _ _ = ⊥
