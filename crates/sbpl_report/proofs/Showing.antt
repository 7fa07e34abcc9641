-- The section of a plan's labels lies in its ranges, and shows the plan's result.
use Rattle.std.proofs.Common.{◌≡◌, ℕ, zero, suc, ◌*◌, ◌^◌, ◌<◌, ◌≤◌, List, [], ◌∷◌, length, slice_index, Result, Ok}
use Rattle.std.proofs.Common.{Err, IfOk, refl, sym, ◌∙◌, ap, subst, arith, ⊎_elim}
use Rattle.sbpl_job.specs.sbpl_fixed.declared.no_memory.NoMemory.{NoMemory}
use Rattle.sbpl_plan.specs.sbpl_graph.declared.TheConstants.{FAR}
use Rattle.sbpl_plan.specs.sbpl_graph.Bound.{IsBound, IsLow}
use Rattle.sbpl_plan.specs.sbpl_graph.Certificate.{AreSupported}
use Rattle.sbpl_plan.specs.sbpl_graph.Laws.{IsSound}
use Rattle.sbpl_plan.specs.sbpl_graph.Network.{Network}
use Rattle.sbpl_plan.specs.sbpl_graph.Path.{IsFreePath}
use Rattle.sbpl_plan.specs.sbpl_labels.Marks.{Marks, states_of, g_of, v_of}
use Rattle.sbpl_plan.specs.Looking.{IsPathFound}
use Rattle.sbpl_plan.specs.Outcomes.{IsResultOf}
use Rattle.sbpl_plan.specs.declared.result.FoundPath.{FoundPath}
use Rattle.sbpl_plan.specs.declared.result.PlanResult.{PlanResult}
use Rattle.sbpl_plan.specs.declared.result.PlanResult.TheVariants as outcome
use Rattle.sbpl_cert.specs.Cut.{IsNeededAt}
use Rattle.sbpl_cert.specs.Made.{IsOfCutLabels, IsOfLabels}
use Rattle.sbpl_cert.specs.Sparse.{SparseSection, g_in, sparse_claim, v_in}
use Rattle.sbpl_cert.specs.Sections as sections
use Rattle.sbpl_cert.specs.Sections.{HasArcs, FullSection}
use Rattle.sbpl_cert.specs.Claims.{Claim, claim_of}
use Rattle.sbpl_cert.specs.Sound.{ShowsBound, ShowsOutcome}
use Rattle.sbpl_cert.specs.declared.outcome.Outcome.{Outcome}
use Rattle.sbpl_cert.specs.declared.row.Row.{Row}
use Rattle.sbpl_report.specs.Shown.{IsShownInFull, IsShownSparsely, arcs_of, outcome_without_arcs}

-- each arc number of a free path is below the most arcs of a state
small_arcs : (n : Network) (s t c : ℕ) (arcs : List ℕ) → IsSound n → IsFreePath n s arcs t c → (i : ℕ) → i < length arcs
    → slice_index arcs i < 4096
small_arcs n s t c [] sound path i here = absurd (omega arith)
small_arcs n s t c (k ∷ ks) sound (u, a, b, arc, rest, sum) zero here =
    let most : n.fan s ≤ 4096 = sound.few_arcs s arc.source in let number : k < n.fan s = arc.number in omega arith
small_arcs n s t c (k ∷ ks) sound (u, a, b, arc, rest, sum) (suc i) here =
    small_arcs n u t b ks sound rest i (omega arith)

-- the bound of a cost that is not great is not great
small_bound : (cost low b : ℕ) → cost < 2 ^ 62 → IsBound cost low b → b < 2 ^ 100
small_bound zero low b small is =
    let most : b ≤ 1000 = is.least 1000 (omega arith) (omega arith) in omega arith
small_bound (suc c) zero b small is =
    absurd (let reaches : 1000 * suc c ≤ b * 0 = is.reaches in omega arith)
small_bound (suc c) (suc l) b small is =
    let more : 1000 * suc c ≤ (1000 * suc c) * suc l = omega arith in
    let most : b ≤ 1000 * suc c = is.least (1000 * suc c) (omega arith) more in
    omega arith

module _ (n : Network) (sound : IsSound n) (guide : ℕ → ℕ) (goal : ℕ) (m : Marks) (same : states_of m ≡ n.states)
    (inside : goal < n.states) (supported : AreSupported n m.start (g_of m) (v_of m)) where
  small_cost : (arcs : List ℕ) (cost bound : ℕ) → IsPathFound n guide goal m arcs cost bound → cost < 2 ^ 62
  small_cost arcs cost bound found =
      let cheap : cost ≤ g_of m goal = found.walk.cheap in
      let near : g_of m goal < FAR = found.walk.near in
      ⊎_elim (λ (far : g_of m goal ≡ FAR). absurd (omega arith)) (λ (small : g_of m goal < 2 ^ 62). omega arith)
      (supported.labels goal inside).0

  pub answer_fits : (found : PlanResult FoundPath) → IsResultOf n guide goal m found
      → sections.IsOutcomeInRange (outcome_without_arcs found)
  answer_fits (outcome.Path p) is =
      let small : p.cost < 2 ^ 62 = small_cost p.arcs p.cost p.bound is in
      (small, is.bound_is.at_least_one, small_bound p.cost is.low p.bound small is.bound_is)
  answer_fits outcome.NoPath is = tt
  answer_fits outcome.Unknown is = tt

  pub arcs_fit : (found : PlanResult FoundPath) → IsResultOf n guide goal m found
      → HasArcs (outcome_without_arcs found) (arcs_of found)
  arcs_fit (outcome.Path p) is = record {
    few =
        let few : length p.arcs < n.states = is.walk.few in
        let most : n.states ≤ 2 ^ 28 = sound.few_states in omega arith;
    small = small_arcs n m.start goal p.cost p.arcs sound is.walk.path;
  }
  arcs_fit outcome.NoPath is = refl
  arcs_fit outcome.Unknown is = refl

  -- two lows of the same labels are the same
  one_low : (low less : ℕ) → IsLow (states_of m) goal (g_of m) (v_of m) guide low
      → IsLow (states_of m) goal (g_of m) (v_of m) guide less → low ≡ less
  one_low low less p q =
      let a : low ≤ less = q.greatest low p.at_goal p.unsettled in
      let b : less ≤ low = p.greatest less q.at_goal q.unsettled in
      omega arith

  -- a claim with the low of these labels, and with the labels themselves where there is no path, shows the result
  shows_outcome : (found : PlanResult FoundPath) (c : Claim) → IsResultOf n guide goal m found
      → IsLow (states_of m) goal (g_of m) (v_of m) guide c.low
      → (found ≡ outcome.NoPath → (u : ℕ) → u < states_of m → (c.g u ≡ g_of m u) × (c.v u ≡ v_of m u))
      → ShowsBound n m.start goal c → c.arcs ≡ arcs_of found
      → ShowsOutcome n m.start goal c (outcome_without_arcs found)
  shows_outcome (outcome.Path p) c is lowest own bounds copied =
      let low : c.low ≡ is.low = one_low c.low is.low lowest is.low_is in (
        subst (λ (l : List ℕ). IsFreePath n m.start l goal p.cost) (sym copied) is.walk.path,
        subst (λ (l : ℕ). IsBound p.cost l p.bound) (sym low) is.bound_is,
      )
  shows_outcome outcome.NoPath c is lowest own bounds copied = record {
    supported = bounds.supported;
    goal_is_far = (own refl goal (rw same inside)).0 ∙ is.goal_is_far;
    closed = λ u state near.
        let here : u < states_of m = rw same state in
        let g : c.g u ≡ g_of m u = (own refl u here).0 in
        let v : c.v u ≡ v_of m u = (own refl u here).1 in
        let settled : v_of m u < FAR = is.closed u here (omega arith) in
        omega arith;
  }
  shows_outcome outcome.Unknown c is lowest own bounds copied = tt

  -- a section in full
  in_full : (plan : ℕ) (found : PlanResult FoundPath) (s : FullSection) → IsResultOf n guide goal m found
      → s.plan ≡ plan → s.outcome ≡ outcome_without_arcs found → s.arcs ≡ arcs_of found → IsOfLabels m guide goal s
      → ShowsBound n m.start goal (claim_of s)
      → IsShownInFull n guide m.start goal plan m found s
  in_full plan found s is number says copied made bounds = record {
    number = number;
    labels = made;
    outcome = says;
    arcs = copied;
    shows = record {
      bound = bounds;
      outcome = subst (λ (o : Outcome). ShowsOutcome n m.start goal (claim_of s) o) (sym says)
          (shows_outcome found (claim_of s) is made.low (λ none u here.
          (ap (λ (r : Row). r.g) (made.labels.rows u here), ap (λ (r : Row). r.v) (made.labels.rows u here)))
          bounds copied);
    };
  }

  pub shown_in_full : (plan : ℕ) (found : PlanResult FoundPath) (said : Outcome) (arcs : List ℕ)
      (r : Result FullSection NoMemory) → IsResultOf n guide goal m found
      → said ≡ outcome_without_arcs found → arcs ≡ arcs_of found
      → IfOk r (λ s. s.plan ≡ plan) → IfOk r (λ s. s.outcome ≡ said) → IfOk r (λ s. s.arcs ≡ arcs)
      → IfOk r (IsOfLabels m guide goal) → IfOk r (λ s. ShowsBound n m.start goal (claim_of s))
      → IfOk r (IsShownInFull n guide m.start goal plan m found)
  shown_in_full plan found said arcs (Ok s) is same_answer same_arcs number says copied made bounds =
      in_full plan found s is number (says ∙ same_answer) (copied ∙ same_arcs) made bounds
  shown_in_full plan found said arcs (Err e) is same_answer same_arcs number says copied made bounds = tt

  -- a sparse section
  sparsely : (plan : ℕ) (found : PlanResult FoundPath) (s : SparseSection) → IsResultOf n guide goal m found
      → s.plan ≡ plan → s.states ≡ states_of m → s.outcome ≡ outcome_without_arcs found → s.arcs ≡ arcs_of found
      → IsOfCutLabels n m guide goal s
      → ShowsBound n m.start goal (sparse_claim guide s) → IsShownSparsely n guide m.start goal plan m found s
  sparsely plan found s is number states says copied made bounds = record {
    number = number;
    states = states;
    labels = made;
    outcome = says;
    arcs = copied;
    shows = record {
      bound = bounds;
      outcome = subst (λ (o : Outcome). ShowsOutcome n m.start goal (sparse_claim guide s) o) (sym says)
          (shows_outcome found (sparse_claim guide s) is made.low
          (λ none u here. subst (λ (o : Outcome). IsNeededAt o n m guide s.low u (g_in s.rows u) (v_in s.rows u))
          (says ∙ ap outcome_without_arcs none) (made.rows.needed u (subst (λ (count : ℕ). u < count) same here)))
          bounds copied);
    };
  }

  pub shown_sparsely : (plan : ℕ) (found : PlanResult FoundPath) (said : Outcome) (arcs : List ℕ)
      (r : Result SparseSection NoMemory) → IsResultOf n guide goal m found
      → said ≡ outcome_without_arcs found → arcs ≡ arcs_of found
      → IfOk r (λ s. s.plan ≡ plan) → IfOk r (λ s. s.states ≡ states_of m) → IfOk r (λ s. s.outcome ≡ said)
      → IfOk r (λ s. s.arcs ≡ arcs) → IfOk r (IsOfCutLabels n m guide goal)
      → IfOk r (λ s. ShowsBound n m.start goal (sparse_claim guide s))
      → IfOk r (IsShownSparsely n guide m.start goal plan m found)
  shown_sparsely plan found said arcs (Ok s) is same_answer same_arcs number states says copied made bounds =
      sparsely plan found s is number states (says ∙ same_answer) (copied ∙ same_arcs) made bounds
  shown_sparsely plan found said arcs (Err e) is same_answer same_arcs number states says copied made bounds = tt
