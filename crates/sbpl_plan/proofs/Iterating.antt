-- What a pass shows at its end.
use Rattle.std.proofs.Common.{◌≡◌, ℕ, ◌*◌, ◌<◌, ◌≤◌, Bool, true, false, if◌then◌else◌, List, [], Some, refl}
use Rattle.std.proofs.Common.{sym, subst, arith}
use Rattle.sbpl_search.specs.sbpl_graph.Network.{Network}
use Rattle.sbpl_search.specs.sbpl_graph.Certificate.{ShowBound, ShowNone}
use Rattle.sbpl_search.specs.sbpl_labels.Chain.{chain_at}
use Rattle.sbpl_search.specs.sbpl_labels.Counts.{Counts, GrowBy}
use Rattle.sbpl_search.specs.sbpl_labels.CutOff.{IsCutOff}
use Rattle.sbpl_search.specs.sbpl_labels.Marks.{Marks, states_of, g_of, v_of, back_of}
use Rattle.sbpl_search.specs.sbpl_labels.declared.pass_end.PassEnd.{PassEnd}
use Rattle.sbpl_search.specs.sbpl_labels.declared.pass_end.PassEnd.TheVariants.{Rest, Spent}
use Rattle.sbpl_search.specs.Meaning.{Meaning}
use Rattle.sbpl_search.specs.Passed.{IsPassed}
use Rattle.sbpl_search.specs.Query.{query}
use Rattle.sbpl_search.specs.Ready.{IsStartFresh}
use Rattle.sbpl_search.specs.State.{State}
use Rattle.sbpl_plan.specs.declared.ask.Ask.{Ask}
use Rattle.sbpl_plan.specs.declared.found.Found.{Found}
use Rattle.sbpl_plan.specs.declared.found.Found.TheVariants as found
use Rattle.sbpl_plan.proofs.Iterations.{IsIteration, IsTight}
use Rattle.sbpl_plan.specs.Looking.{WalkFinds}
use Rattle.sbpl_plan.specs.Passing.{EndsPass, inquiry_of}

-- labels that show that there is no path cut the goal off
cut_off : (n : Network) (start goal states : ℕ) (g v : ℕ → ℕ) → states ≡ n.states → ShowNone n start goal g v
    → IsCutOff states goal g v
cut_off n start goal states g v same shows = record {
  goal_is_far = shows.goal_is_far;
  closed = λ s inside near. shows.closed s (subst (λ (x : ℕ). s < x) same inside) near;
}

-- labels that show that every path costs at least g of the goal give the bound 1.000
tight_found : (n : Network) (h : ℕ → ℕ) (goal : ℕ) (m : Marks) (arcs : List ℕ) (f : Found) → states_of m ≡ n.states
    → ((i u : ℕ) → chain_at (back_of m) goal i ≡ Some u → g_of m u ≤ v_of m u)
    → ShowBound n m.start goal (g_of m) (v_of m) h (g_of m goal) → WalkFinds n h goal m arcs f → IsTight f
tight_found n h goal m arcs (found.Path cost bound) same unbroken shows finds =
    let low : g_of m goal ≤ finds.low =
    finds.low_is.greatest (g_of m goal) (omega arith)
    (λ s inside differ. shows.unsettled s (subst (λ (x : ℕ). s < x) same inside) differ) in
    let cheap : cost ≤ g_of m goal = finds.walk.cheap in
    let least : bound ≤ 1000 = finds.bound_is.least 1000 (omega arith) (omega arith) in
    let some : 1000 ≤ bound = finds.bound_is.at_least_one in omega arith
tight_found n h goal m arcs found.None same unbroken shows finds = tt
tight_found n h goal m arcs found.Broken same unbroken shows finds =
    let broken = finds.0.1 in
    let below : v_of m finds.0.0 < g_of m finds.0.0 = broken.under in
    let kept : g_of m finds.0.0 ≤ v_of m finds.0.0 = unbroken broken.place finds.0.0 broken.on_chain in omega arith

-- a pass that leads on, and what was told of it
module _ {Action : Type 0} (means : Meaning Action) {n : Network} {h : ℕ → ℕ} {eps : ℕ} {old new : State Action}
    {before after : Counts} {end : PassEnd} {spent : Bool} (was_spent : spent ≡ true → end ≡ Spent)
    (rested : spent ≡ false → end ≡ Rest) (fresh : IsStartFresh old.labels) (sized : states_of new.labels ≡ n.states)
    (passed : IsPassed means (query n h eps old.goal) old new before after end) where
  ends_pass : (b : Bool) → spent ≡ b → EndsPass means (query n h eps old.goal) new.actions new.labels b
  ends_pass true is = passed.goes_on (was_spent is)
  ends_pass false is = passed.rests (rested is)

  module _ {ask : Ask} {expanded : ℕ} {found : Found} {trace : List Action} {arcs : List ℕ}
      (counted : expanded ≡ means.expansions new.actions) (told : trace ≡ (if ask.traced then new.actions else [])) where
    to_own_goal : WalkFinds n h old.goal new.labels arcs found
        → IsIteration means (inquiry_of n h old.goal old.workers ask) eps old new before after arcs spent
        (record { inflation = eps; expanded = expanded; found = found; trace = trace })
    to_own_goal finds = record {
      pass = record {
        inflation = refl;
        actions = new.actions;
        leads = passed.leads;
        ends = ends_pass spent refl;
        seated = passed.seated;
        expanded = counted;
        told = told;
        arcs = arcs;
        found = finds;
      };
      found = finds;
      leaves = record {
        counted =
            subst (λ (k : ℕ). GrowBy k before after) (sym counted) passed.counted;
        ready = passed.ready;
        fresh = passed.fresh fresh;
        start = passed.start;
        states = passed.states;
        same_goal = passed.goal;
        same_workers = passed.workers;
      };
      supported = passed.supported;
      traced = (counted, told);
      is_spent = λ is. passed.is_spent (was_spent is);
      few = subst (λ (k : ℕ). k ≤ means.most * states_of old.labels) (sym counted) passed.few;
      unfinished = λ is.
          subst (λ (k : ℕ). k < means.most * states_of old.labels) (sym counted) (passed.unfinished (was_spent is));
      none_at_rest = λ is one far. cut_off n new.labels.start old.goal (states_of new.labels) (g_of new.labels)
          (v_of new.labels) sized (passed.none (rested is) one far);
      tight_at_rest = λ is one. tight_found n h old.goal new.labels arcs found sized (passed.unbroken (rested is))
          (passed.tight (rested is) one) finds;
    }

    -- where the goal and the workers are those of the plan, and the walk was to the goal of the search
    pub iteration_of : {goal workers : ℕ} → old.goal ≡ goal → old.workers ≡ workers
        → WalkFinds n h new.goal new.labels arcs found
        → IsIteration means (inquiry_of n h goal workers ask) eps old new before after arcs spent
        (record { inflation = eps; expanded = expanded; found = found; trace = trace })
    iteration_of {goal} {workers} is by finds =
        subst (λ (t : ℕ). IsIteration means (inquiry_of n h t workers ask) eps old new before after arcs spent
        (record { inflation = eps; expanded = expanded; found = found; trace = trace })) is
        (subst (λ (w : ℕ). IsIteration means (inquiry_of n h old.goal w ask) eps old new before after arcs spent
        (record { inflation = eps; expanded = expanded; found = found; trace = trace })) by
        (to_own_goal (subst (λ (t : ℕ). WalkFinds n h t new.labels arcs found) passed.goal finds)))
