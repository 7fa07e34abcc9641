-- What the result of a plan shows.
use Rattle.std.proofs.Common.{◌≡◌, ℕ, ◌+◌, ◌*◌, ◌<◌, ◌≤◌, ◌⊎◌, false, List, sym, subst, arith, inl, inr, ◌^◌}
use Rattle.std.proofs.Math.Nat.{mul-le-mul_left, mul-le-mul_right}
use Rattle.sbpl_search.specs.sbpl_graph.declared.TheConstants.{FAR}
use Rattle.sbpl_search.specs.sbpl_graph.Network.{Network}
use Rattle.sbpl_search.specs.sbpl_graph.Laws.{IsConsistent, IsSound}
use Rattle.sbpl_search.specs.sbpl_graph.Path.{IsFreePath}
use Rattle.sbpl_search.specs.sbpl_graph.Certificate.{AreSupported, BoundHolds, NoneHolds, ShowBound}
use Rattle.sbpl_search.specs.sbpl_labels.Counts.{Counts, GrowBy, IsSpent}
use Rattle.sbpl_search.specs.sbpl_labels.CutOff.{IsCutOff}
use Rattle.sbpl_search.specs.sbpl_labels.Marks.{Marks, states_of, g_of, v_of}
use Rattle.sbpl_search.specs.sbpl_labels.declared.time.Time.TheVariants.{Late}
use Rattle.sbpl_plan.specs.declared.found.Found.{Found}
use Rattle.sbpl_plan.specs.declared.found.Found.TheVariants as found
use Rattle.sbpl_plan.specs.declared.result.FoundPath.{FoundPath}
use Rattle.sbpl_plan.specs.declared.result.PlanResult.{PlanResult}
use Rattle.sbpl_plan.specs.declared.result.PlanResult.TheVariants as outcome
use Rattle.sbpl_plan.specs.Looking.{IsPathFound, WalkFinds}
use Rattle.sbpl_plan.specs.Outcomes.{IsConclusive, IsResultOf, AgreesWithFound, IsTrueOutcome}
use Rattle.sbpl_plan.specs.Passing.{Inquiry, EndsPlan}
use Rattle.sbpl_plan.proofs.Iterations.{IsTight}

-- labels that show none, or a break, have no path
none_no_path : (n : Network) (h : ℕ → ℕ) (goal : ℕ) (m : Marks) → g_of m goal ≡ FAR → (arcs : List ℕ) (cost bound : ℕ)
    → IsPathFound n h goal m arcs cost bound → ⊥
none_no_path n h goal m far arcs cost bound path = let near : g_of m goal < FAR = path.walk.near in omega arith

pub no_path_found : (n : Network) (h : ℕ → ℕ) (goal : ℕ) (m : Marks) (others : List ℕ) (f : Found)
    → WalkFinds n h goal m others f → (f ≡ found.None) ⊎ (f ≡ found.Broken) → (arcs : List ℕ) (cost bound : ℕ)
    → IsPathFound n h goal m arcs cost bound → ⊥
no_path_found n h goal m others (found.Path a b) finds (inl is) arcs cost bound path = cc
no_path_found n h goal m others (found.Path a b) finds (inr is) arcs cost bound path = cc
no_path_found n h goal m others found.None finds is arcs cost bound path =
    none_no_path n h goal m finds.0 arcs cost bound path
no_path_found n h goal m others found.Broken finds is arcs cost bound path =
    let broken = finds.0.1 in
    let below : v_of m finds.0.0 < g_of m finds.0.0 = broken.under in
    let kept : g_of m finds.0.0 ≤ v_of m finds.0.0 =
    path.walk.unbroken broken.place finds.0.0 broken.on_chain in omega arith

-- where there is no path, the labels show none or nothing is known
pub cut_or_unknown : (n : Network) (h : ℕ → ℕ) (goal : ℕ) (m : Marks) (others : List ℕ) (f : Found)
    → WalkFinds n h goal m others f → (f ≡ found.None) ⊎ (f ≡ found.Broken)
    → (IsCutOff (states_of m) goal (g_of m) (v_of m) → ⊥) → IsResultOf n h goal m outcome.Unknown
cut_or_unknown n h goal m others f finds is not = (not, no_path_found n h goal m others f finds is)

-- the result is true
pub outcome_is_true : (n : Network) (h : ℕ → ℕ) (goal : ℕ) (m : Marks) (start : ℕ) (o : PlanResult FoundPath) → BoundHolds
    → NoneHolds → IsSound n → IsConsistent n goal h → states_of m ≡ n.states → AreSupported n m.start (g_of m) (v_of m)
    → m.start ≡ start → IsResultOf n h goal m o → IsTrueOutcome n start goal o
outcome_is_true n h goal m start (outcome.Path p) bounds nones sound consistent same supported first path =
    let shows : ShowBound n m.start goal (g_of m) (v_of m) h path.low = record {
      supported = supported;
      consistent = consistent;
      at_goal = path.low_is.at_goal;
      unsettled = λ s inside differ. path.low_is.unsettled s (subst (λ (x : ℕ). s < x) (sym same) inside) differ;
    } in
    let true_from : IsTrueOutcome n m.start goal (outcome.Path p) = (
      path.walk.path,
      path.bound_is.at_least_one,
      λ others dear free.
          let least : path.low ≤ dear =
          bounds n m.start goal path.low (g_of m) (v_of m) h sound shows others dear free in
          let reaches : 1000 * p.cost ≤ p.bound * path.low = path.bound_is.reaches in
          le_through (1000 * p.cost) p.bound path.low dear reaches least,
    ) in
    subst (λ (x : ℕ). IsTrueOutcome n x goal (outcome.Path p)) first true_from
  where
    le_through : (a b c d : ℕ) → a ≤ b * c → c ≤ d → a ≤ b * d
    le_through a b c d e f = let more = mul-le-mul_left b f in omega arith
outcome_is_true n h goal m start outcome.NoPath bounds nones sound consistent same supported first cut =
    λ arcs cost free.
    nones n m.start goal (g_of m) (v_of m) sound (record {
      supported = supported;
      goal_is_far = cut.goal_is_far;
      closed = λ s inside near. cut.closed s (subst (λ (x : ℕ). s < x) (sym same) inside) near;
    }) arcs cost (subst (λ (x : ℕ). IsFreePath n x arcs goal cost) (sym first) free)
outcome_is_true n h goal m start outcome.Unknown bounds nones sound consistent same supported first unknown = tt

-- where the last pass was not spent, the result is known
pub outcome_is_known : (q : Inquiry) (eps : ℕ) (m : Marks) (others : List ℕ) (f : Found) (o : PlanResult FoundPath)
    → 1000 ≤ q.ask.bound → EndsPlan q eps m false f
    → (eps ≡ 1000 → g_of m q.goal ≡ FAR → IsCutOff (states_of m) q.goal (g_of m) (v_of m)) → (eps ≡ 1000 → IsTight f)
    → WalkFinds q.network q.guide q.goal m others f → AgreesWithFound f o → IsResultOf q.network q.guide q.goal m o
    → IsConclusive q.ask.bound o
outcome_is_known q eps m others (found.Path c b) (outcome.Path p) low last none tight finds agrees is = elim last [
  | inl enough ↦ let same : p.bound ≡ b = agrees.1 in omega arith
  | inr (inl cut) ↦
      absurd (let near : g_of m q.goal < FAR = finds.walk.near in
      let far : g_of m q.goal ≡ FAR = cut.goal_is_far in omega arith)
  | inr (inr (inl spent)) ↦ absurd (cc)
  | inr (inr (inr one)) ↦ let at : b ≡ 1000 = tight one in let same : p.bound ≡ b = agrees.1 in omega arith
]
outcome_is_known q eps m others (found.Path c b) outcome.NoPath low last none tight finds agrees is = absurd agrees
outcome_is_known q eps m others (found.Path c b) outcome.Unknown low last none tight finds agrees is = absurd agrees
outcome_is_known q eps m others found.None (outcome.Path p) low last none tight finds agrees is = absurd agrees
outcome_is_known q eps m others found.None outcome.NoPath low last none tight finds agrees is = tt
outcome_is_known q eps m others found.None outcome.Unknown low last none tight finds agrees is = elim last [
  | inl enough ↦ enough
  | inr (inl cut) ↦ is.0 cut
  | inr (inr (inl spent)) ↦ absurd (cc)
  | inr (inr (inr one)) ↦ is.0 (none one finds.0)
]
outcome_is_known q eps m others found.Broken (outcome.Path p) low last none tight finds agrees is = absurd agrees
outcome_is_known q eps m others found.Broken outcome.NoPath low last none tight finds agrees is = tt
outcome_is_known q eps m others found.Broken outcome.Unknown low last none tight finds agrees is = elim last [
  | inl enough ↦ enough
  | inr (inl cut) ↦ is.0 cut
  | inr (inr (inl spent)) ↦ absurd (cc)
  | inr (inr (inr one)) ↦ tight one
]

-- a plan that may expand as many states in each pass as there are is spent only where the run is, or the plan is late
pub run_is_spent : (before after : Counts) (made few most states : ℕ)
    → GrowBy made before after → IsSpent after → made < few * states → few ≤ most
    → before.plan + most * states ≤ before.per_plan → (after.run ≡ 2 ^ 30) ⊎ (after.time ≡ Late)
run_is_spent before after made few most states counted (inr rest) less low enough = rest
run_is_spent before after made few most states counted (inl plan) less low enough =
    let more : few * states ≤ most * states = mul-le-mul_right states low in
    absurd (omega (arith, counted.plan, counted.budget, plan, less, enough))
