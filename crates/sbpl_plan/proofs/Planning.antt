-- How passes add up to a plan.
use Rattle.std.proofs.Common.{◌≡◌, ◌≢◌, ℕ, ◌+◌, ◌-◌, ◌*◌, ◌/◌, ◌<◌, ◌≤◌, ◌^◌, ◌⊎◌, max, Bool, true, false, List, [], ◌∷◌}
use Rattle.std.proofs.Common.{◌++◌, length, Result, Ok, Err, refl, sym, ◌∙◌, ap, subst, arith, inl, inr}
use Rattle.std.proofs.Common.{append_assoc, length-append}
use Rattle.std.specs.Prelude.{OnErr}
use Rattle.std.proofs.Math.Nat.{add-mul, div-eq_of_lt, div-eq-sub-div}
use Rattle.std.proofs.lemmas.Bool.{cases_lt}
use Rattle.std.proofs.lemmas.List.{append-nil}
use Rattle.sbpl_search.specs.sbpl_labels.Counts.{AreCounts, Counts}
use Rattle.sbpl_search.specs.sbpl_labels.Marks.{Marks, states_of}
use Rattle.sbpl_search.specs.sbpl_labels.declared.time.Time.TheVariants.{Late}
use Rattle.sbpl_search.proofs.Growing.{grow_none, grow_twice}
use Rattle.sbpl_search.specs.Meaning.{Meaning}
use Rattle.sbpl_search.specs.Query.{query}
use Rattle.sbpl_search.specs.Ready.{IsStartFresh}
use Rattle.sbpl_search.specs.State.{State}
use Rattle.sbpl_search.specs.sbpl_graph.Certificate.{BoundHolds, NoneHolds}
use Rattle.sbpl_search.specs.sbpl_graph.Laws.{IsConsistent, IsSound}
use Rattle.sbpl_search.specs.sbpl_graph.Network.{Network}
use Rattle.sbpl_plan.specs.declared.ask.Ask.{Ask}
use Rattle.sbpl_plan.specs.declared.passes.PassRecord.{PassRecord}
use Rattle.sbpl_plan.specs.Asked.{IsAsk, lowered, most_passes}
use Rattle.sbpl_plan.specs.declared.result.FoundPath.{FoundPath}
use Rattle.sbpl_plan.specs.declared.result.PlanResult.{PlanResult}
use Rattle.sbpl_plan.proofs.Iterations.{IsIteration}
use Rattle.sbpl_plan.specs.OutOfMemory.{IsPartOfPlan, RunsOutOfMemory}
use Rattle.sbpl_plan.specs.Outcomes.{AgreesWithFound, IsConclusive, IsResultOf}
use Rattle.sbpl_plan.specs.Passing.{AreFirstPasses, ArePasses, EndWith, EndsPlan, Inquiry, IsPass, expansions}
use Rattle.sbpl_plan.specs.Planned.{IsPlanned}
use Rattle.sbpl_plan.specs.ReadyAfter.{IsReadyAfter}
use Rattle.sbpl_plan.proofs.Results.{outcome_is_known, outcome_is_true, run_is_spent}

-- from an inflation there can be at least one more pass than from the next one
more_passes : (step eps : ℕ) → 1 ≤ step → 1000 ≤ eps → eps ≢ 1000
    → 1 + most_passes step (lowered step eps) ≤ most_passes step eps
more_passes step eps some low other = elim (cases_lt eps (1000 + step)) [
  | inl near ↦
      let over : step ≤ eps - 1000 + (step - 1) = omega arith in
      let none : (max 1000 (eps - step) - 1000 + (step - 1)) / step ≡ 0 =
      div-eq_of_lt {n = max 1000 (eps - step) - 1000 + (step - 1)} {m = step} (omega arith) in
      let one : (eps - 1000 + (step - 1)) / step ≡ (eps - 1000 + (step - 1) - step) / step + 1 =
      div-eq-sub-div {m = step} {n = eps - 1000 + (step - 1)} (omega arith) over in
      omega arith
  | inr far ↦
      let over : step ≤ eps - 1000 + (step - 1) = omega arith in
      let same : max 1000 (eps - step) - 1000 + (step - 1) ≡ eps - 1000 + (step - 1) - step = omega arith in
      let less : (max 1000 (eps - step) - 1000 + (step - 1)) / step ≡ (eps - 1000 + (step - 1) - step) / step =
      ap (λ x. x / step) same in
      let one : (eps - 1000 + (step - 1)) / step ≡ (eps - 1000 + (step - 1) - step) / step + 1 =
      div-eq-sub-div {m = step} {n = eps - 1000 + (step - 1)} (omega arith) over in
      omega arith
]

expansions_of_both : {Action : Type 0} (ps qs : List (PassRecord Action)) → expansions (ps ++ qs) ≡ expansions ps + expansions qs
expansions_of_both [] qs = omega arith
expansions_of_both (p ∷ ps) qs = let more = expansions_of_both ps qs in omega arith

-- one more pass, with at most a given number of expansions
one_more : {c k : ℕ} (a b l s : ℕ) → c ≡ a + b → k ≡ l + 1 → a ≤ l * s → b ≤ s → c ≤ k * s
one_more a b l s sum count most few = rw (count, add-mul l 1 s) (let one : 1 * s ≡ s = omega arith in omega arith)

one_less : {c k : ℕ} (a b l s : ℕ) → c ≡ a + b → k ≡ l + 1 → a ≤ l * s → b < s → c < k * s
one_less a b l s sum count most few = rw (count, add-mul l 1 s) (let one : 1 * s ≡ s = omega arith in omega arith)

expansions_more : {Action : Type 0} (ps : List (PassRecord Action)) (p : PassRecord Action)
    → expansions (ps ++ p ∷ []) ≡ expansions ps + p.expanded
expansions_more ps p = let both = expansions_of_both ps (p ∷ []) in omega arith

-- a search that goes on twice
ready_twice : {Action : Type 0} (means : Meaning Action) (n : Network) (a b c : ℕ) (old mid new : State Action)
    (before between after : Counts) → c ≡ a + b → IsReadyAfter means n a old mid before between
    → IsReadyAfter means n b mid new between after → IsReadyAfter means n c old new before after
ready_twice means n a b c old mid new before between after sum one two = record {
  counted = grow_twice c sum one.counted two.counted;
  ready = two.ready;
  fresh = two.fresh;
  start = two.start ∙ one.start;
  states = two.states ∙ one.states;
  same_goal = two.same_goal ∙ one.same_goal;
  same_workers = two.same_workers ∙ one.same_workers;
}

-- passes were made, none of them the last, and the next one has this inflation
pub record AreGoingOn {Action : Type 0} (means : Meaning Action) (q : Inquiry) (old now : State Action)
    (before after : Counts) (passes : List (PassRecord Action)) (eps : ℕ) : Type 0 where
  pub leads : (ps : List (PassRecord Action)) (new : Marks) (spent : Bool) → ArePasses means q eps now.labels ps new spent
      → ArePasses means q q.ask.first old.labels (passes ++ ps) new spent
  pub prefix : (ps : List (PassRecord Action)) (new : Marks) → AreFirstPasses means q eps now.labels ps new
      → AreFirstPasses means q q.ask.first old.labels (passes ++ ps) new
  pub leaves : IsReadyAfter means q.network (expansions passes) old now before after
  pub many : length passes + most_passes q.ask.step eps ≤ most_passes q.ask.step q.ask.first
  pub spread : expansions passes ≤ length passes * (means.most * states_of old.labels)

-- the last of some passes did this, with others before it
end_with_more : {Action : Type 0} (means : Meaning Action) (ask : Ask) (passes : List (PassRecord Action)) (p : PassRecord Action)
    (actions : List Action) → EndWith means ask (p ∷ []) actions → EndWith means ask (passes ++ p ∷ []) actions
end_with_more means ask [] p actions is = is
end_with_more means ask (a ∷ []) p actions is = is
end_with_more means ask (a ∷ b ∷ ps) p actions is = end_with_more means ask (b ∷ ps) p actions is

module _ {Action : Type 0} (means : Meaning Action) {q : Inquiry} {old : State Action} {before : Counts} where
  pub begins : means.ready q.network old.labels before.run → IsStartFresh old.labels
      → AreGoingOn means q old old before before [] q.ask.first
  begins ready fresh = record {
    leads = λ ps new spent made. made;
    prefix = λ ps new made. made;
    leaves = record {
      counted = grow_none before;
      ready = ready;
      fresh = fresh;
      start = refl;
      states = refl;
      same_goal = refl;
      same_workers = refl;
    };
    many = omega arith;
    spread = omega arith;
  }

  module _ {now new : State Action} {mid after : Counts} {passes : List (PassRecord Action)} {eps : ℕ}
      (so : AreGoingOn means q old now before mid passes eps) where
    -- memory ran out in the pass after them
    pub cut_after : (Told : List (PassRecord Action) → Type 0) → Told passes → q.goal ≡ old.goal
        → means.cut (query q.network q.guide eps now.goal) now new mid after
        → RunsOutOfMemory means q q.ask.first old new before after Told
    cut_after Told told own cut = inr (record {
      mid = now;
      between = mid;
      part = record {
        passes = passes;
        told = told;
        made =
            subst (λ (l : List (PassRecord Action)). AreFirstPasses means q q.ask.first old.labels l now.labels)
            (append-nil passes) (so.prefix [] now.labels refl);
        leaves = so.leaves;
      };
      inflation = eps;
      cut =
          subst (λ (t : ℕ). means.cut (query q.network q.guide eps t) now new mid after)
          (so.leaves.same_goal ∙ sym own) cut;
    })

    module _ {arcs : List ℕ} {spent : Bool} {p : PassRecord Action}
        (t : IsIteration means q eps now new mid after arcs spent p) where
      leaves_more : IsReadyAfter means q.network (expansions (passes ++ p ∷ [])) old new before after
      leaves_more =
          ready_twice means q.network _ _ _ old now new before mid after (expansions_more passes p) so.leaves t.leaves

      -- memory ran out after them and one more pass
      pub runs_out_after : (Told : List (PassRecord Action) → Type 0) → Told (passes ++ p ∷ [])
          → RunsOutOfMemory means q q.ask.first old new before after Told
      runs_out_after Told told = inl (record {
        passes = passes ++ p ∷ [];
        told = told;
        made = so.prefix (p ∷ []) new.labels (inl (refl, (spent, t.pass)));
        leaves = leaves_more;
      })

      -- a pass after them that is not the last
      not_spent : (b : Bool) → spent ≡ b → (EndsPlan q eps new.labels spent p.found → ⊥) → spent ≡ false
      not_spent true is not = absurd (not (inr (inr (inl is))))
      not_spent false is not = is

      pub goes_on : IsAsk q.ask → 1000 ≤ eps → (EndsPlan q eps new.labels spent p.found → ⊥)
          → AreGoingOn means q old new before after (passes ++ p ∷ []) (lowered q.ask.step eps)
      goes_on asked low not =
          let rested : spent ≡ false = not_spent spent refl not in
          let pass : IsPass means q eps now.labels new.labels false p =
          subst (λ (b : Bool). IsPass means q eps now.labels new.labels b p) rested t.pass in
          let on : EndsPlan q eps new.labels false p.found → ⊥ =
          subst (λ (b : Bool). EndsPlan q eps new.labels b p.found → ⊥) rested not in
          record {
            leads =
                λ ps m last made. subst (λ (l : List (PassRecord Action)). ArePasses means q q.ask.first old.labels l m last)
                (sym (append_assoc passes (p ∷ []) ps)) (so.leads (p ∷ ps) m last (inr (new.labels, pass, on, made)));
            prefix = λ ps m made. subst (λ (l : List (PassRecord Action)). AreFirstPasses means q q.ask.first old.labels l m)
                (sym (append_assoc passes (p ∷ []) ps)) (so.prefix (p ∷ ps) m (inr (new.labels, pass, on, made)));
            leaves = leaves_more;
            many =
                let more = more_passes q.ask.step eps asked.step_low low (λ one. not (inr (inr (inr one)))) in
                let sum = so.many in rw (length-append passes (p ∷ [])) (omega arith);
            spread =
                one_more _ _ _ _ (expansions_more passes p) (length-append passes (p ∷ [])) so.spread
                (subst (λ k. p.expanded ≤ means.most * k) so.leaves.states t.few);
          }

      -- a pass after them that is the last, with the result
      module _ (o : PlanResult FoundPath) (asked : IsAsk q.ask) (last : EndsPlan q eps new.labels spent p.found)
          (is : IsResultOf q.network q.guide q.goal new.labels o)
          (sized : states_of new.labels ≡ q.network.states) where
        few_passes : length (passes ++ p ∷ []) ≤ most_passes q.ask.step q.ask.first
        few_passes = let sum = so.many in rw (length-append passes (p ∷ [])) (omega arith)

        known : AgreesWithFound p.found o → spent ≡ false → IsConclusive q.ask.bound o
        known agrees rested =
            outcome_is_known q eps new.labels arcs p.found o asked.bound_low
            (subst (λ (b : Bool). EndsPlan q eps new.labels b p.found) rested last)
            (t.none_at_rest rested) (t.tight_at_rest rested) t.found agrees is

        enough : spent ≡ true
            → before.plan + most_passes q.ask.step q.ask.first * (means.most * q.network.states) ≤ before.per_plan
            → (after.run ≡ 2 ^ 30) ⊎ (after.time ≡ Late)
        enough ran_out room =
            run_is_spent before after (expansions (passes ++ p ∷ [])) (length (passes ++ p ∷ []))
            (most_passes q.ask.step q.ask.first) (means.most * states_of old.labels)
            leaves_more.counted (t.is_spent ran_out)
            (one_less _ _ _ _ (expansions_more passes p) (length-append passes (p ∷ [])) so.spread
            (subst (λ k. p.expanded < means.most * k) so.leaves.states (t.unfinished ran_out)))
            few_passes
            (subst (λ k. before.plan + most_passes q.ask.step q.ask.first * (means.most * k) ≤ before.per_plan)
            (sym sized ∙ leaves_more.states) room)

        pub planned_of : AgreesWithFound p.found o → BoundHolds → NoneHolds → IsSound q.network
            → IsConsistent q.network q.goal q.guide → AreCounts after
            → IsPlanned means q old new before after (record { passes = passes ++ p ∷ []; spent = spent; outcome = o })
        planned_of agrees bounds nones sound consistent counts = record {
          passes = so.leads (p ∷ []) new.labels spent (inl (refl, t.pass, last));
          outcome = is;
          so =
              outcome_is_true q.network q.guide q.goal new.labels old.labels.start o bounds nones sound consistent sized
              t.supported leaves_more.start is;
          answered = known agrees;
          traced = end_with_more means q.ask passes p new.actions t.traced;
          leaves = leaves_more;
          supported = t.supported;
          spent = t.is_spent;
          within = counts;
          few = few_passes;
          enough = enough;
        }

-- what holds anyway holds where memory ran out
pub on_err : {A E : Type 0} (r : Result A E) (P : Type 0) → P → OnErr r P
on_err (Ok x) P h = tt
on_err (Err e) P h = h

-- before the first pass no part of a plan was made
pub part_of_none : {Action : Type 0} (means : Meaning Action) (q : Inquiry) (eps : ℕ) (old : State Action) (before : Counts)
    (Told : List (PassRecord Action) → Type 0)
    → Told [] → means.ready q.network old.labels before.run → IsStartFresh old.labels
    → IsPartOfPlan means q eps old old before before Told
part_of_none means q eps old before Told told ready fresh = record {
  passes = [];
  told = told;
  made = refl;
  leaves = record {
    counted = grow_none before;
    ready = ready;
    fresh = fresh;
    start = refl;
    states = refl;
    same_goal = refl;
    same_workers = refl;
  };
}
