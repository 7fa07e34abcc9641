-- How a pass ends, and what its labels then show.
use Rattle.std.proofs.Common.{◌≡◌, ◌≢◌, ℕ, ◌+◌, ◌*◌, ◌^◌, ◌<◌, ◌≤◌, Bool, true, false, arith, ⊎_elim, inl, inr, refl}
use Rattle.std.proofs.Common.{sym}
use Rattle.std.proofs.lemmas.Bool.{cases_lt, cases_Bool}
use Rattle.sbpl_search.specs.sbpl_graph.declared.TheConstants.{FAR}
use Rattle.sbpl_search.specs.sbpl_graph.Laws.{IsConsistent}
use Rattle.sbpl_search.specs.sbpl_graph.Certificate.{AreSupported, ShowBound, ShowNone}
use Rattle.sbpl_search.specs.sbpl_labels.Counts.{Counts, GrowBy, IsSpent}
use Rattle.sbpl_search.specs.sbpl_labels.Marks.{Marks, AreLabels, states_of, g_of, v_of}
use Rattle.sbpl_open.specs.KeyOrder.{IsBelow}
use Rattle.sbpl_search.specs.Query.{Query}
use Rattle.sbpl_serial.specs.Run.{IsOver, IsUnder, IsNext, IsAtRest, none_closed, key_at, goal_key_at}
use Rattle.sbpl_serial.specs.Serial.{SerialState}
use Rattle.sbpl_serial.proofs.Ending.{rest_above}
use Rattle.sbpl_search.proofs.Keeping.{supported_from_exact}
use Rattle.sbpl_serial.proofs.Ordering.{AreOrdered, key_under}
use Rattle.sbpl_serial.proofs.Passing.{IsPassing, closed_by, passing_room}
use Rattle.sbpl_search.specs.sbpl_graph.Laws.{IsSound}
use Rattle.sbpl_search.specs.sbpl_graph.Network.{Network}
use Rattle.sbpl_search.specs.sbpl_labels.declared.pass_end.PassEnd.TheVariants.{Rest, Spent}
use Rattle.sbpl_search.specs.sbpl_labels.declared.time.Time.TheVariants.{Late}
use Rattle.sbpl_search.specs.Query.{query}
use Rattle.sbpl_serial.specs.Passed.{IsSerialPass}
use Rattle.sbpl_serial.proofs.Ending.{rest_not_spent, rest_at_rest, rest_at_next, spent_at_rest, spent_at_next}
use Rattle.sbpl_serial.proofs.Starting.{run_start}
use Rattle.sbpl_serial.proofs.Unbroken.{chain_unbroken}

module _ {q : Query} {closed : ℕ → Bool} {m : Marks} (rest : IsAtRest q closed m) (one : q.eps ≡ 1000)
    (ordered : AreOrdered q.guide closed m) where
  -- at rest an underconsistent state has a key that is not below the goal's
  under_above : {s : ℕ} → s < states_of m → IsUnder m s → g_of m q.goal ≤ v_of m s + q.guide s
  under_above {s} inside under =
      ⊎_elim
      (λ (low : 1000 * (v_of m s + q.guide s) < 1000 * g_of m q.goal).
      let below : IsBelow (key_at q.eps q.guide m s) (goal_key_at q m) =
      rw (key_under q.eps q.guide m s under) (inl low) in
      absurd (rest.none_below s (record { inside = inside; inconsistent = inl under }) below))
      (λ (above : 1000 * g_of m q.goal ≤ 1000 * (v_of m s + q.guide s)). omega arith)
      (cases_lt (1000 * (v_of m s + q.guide s)) (1000 * g_of m q.goal))

  -- and so has an overconsistent one, with inflation one
  over_above : {s : ℕ} → s < states_of m → IsOver m s → g_of m q.goal ≤ g_of m s + q.guide s
  over_above {s} inside over =
      ⊎_elim
      (λ (is : closed s ≡ true). absurd (omega (arith, ordered.settled s is)))
      (λ (fresh : closed s ≡ false).
      let above = rest_above rest inside over fresh in
      let sum : 1000 * g_of m q.goal ≤ 1000 * g_of m s + 1000 * q.guide s = rw one at above in
      omega arith)
      (cases_Bool (closed s))

  pub rest_shows_bound : states_of m ≡ q.network.states → IsConsistent q.network q.goal q.guide
      → AreSupported q.network m.start (g_of m) (v_of m)
      → ShowBound q.network m.start q.goal (g_of m) (v_of m) q.guide (g_of m q.goal)
  rest_shows_bound states consistent supported = record {
    supported = supported;
    consistent = consistent;
    at_goal = omega arith;
    unsettled = λ s at differ.
        ⊎_elim
        (λ (under : v_of m s < g_of m s). omega (arith, under_above (omega arith) under))
        (λ (over : g_of m s ≤ v_of m s). let strict : IsOver m s = omega arith in over_above (omega arith) strict)
        (cases_lt (v_of m s) (g_of m s));
  }

  pub rest_shows_none : states_of m ≡ q.network.states → ((s : ℕ) → s < states_of m → q.guide s < 2 ^ 55) → AreLabels m
      → AreSupported q.network m.start (g_of m) (v_of m) → g_of m q.goal ≡ FAR
      → ShowNone q.network m.start q.goal (g_of m) (v_of m)
  rest_shows_none states bounded labels supported far = record {
    supported = supported;
    goal_is_far = far;
    closed = λ s at near.
        let inside : s < states_of m = omega arith in
        ⊎_elim
        (λ (settled : v_of m s < FAR). settled)
        (λ (v_far : FAR ≤ v_of m s).
        let over : IsOver m s = omega arith in
        let above = over_above inside over in
        ⊎_elim
        (λ (g_far : g_of m s ≡ FAR). absurd (omega arith))
        (λ (g_small : g_of m s < 2 ^ 62). absurd (omega (arith, bounded s inside)))
        (labels.labels s inside).0)
        (cases_lt (v_of m s) FAR);
  }

-- a budget that has more than the steps made is not spent, unless the plan is late
pub not_spent : (before counts : Counts) {steps most : ℕ}
    → GrowBy steps before counts → IsSpent counts → steps < most → before.plan + most ≤ before.per_plan
    → before.run + most ≤ 2 ^ 30 → counts.time ≢ Late → ⊥
not_spent before counts counted (inl full) fewer plan run in_time =
    omega (arith, counted.plan, counted.budget, full, fewer, plan)
not_spent before counts counted (inr (inl full)) fewer plan run in_time =
    omega (arith, counted.run, full, fewer, run)
not_spent before counts counted (inr (inr late)) fewer plan run in_time = in_time late

-- What the labels of a pass show.
module _ {n : Network} {h : ℕ → ℕ} {eps : ℕ} {old now : SerialState} {before counts : Counts}
    (here : IsPassing (query n h eps old.goal) old now before counts)
    (labels : AreLabels now.labels) where
  passing_supported : AreSupported n now.labels.start (g_of now.labels) (v_of now.labels)
  passing_supported =
      supported_from_exact (λ s inside. labels.labels s (omega (arith, here.usable.states))) here.usable.exact

  passing_shows_none : IsAtRest (query n h eps old.goal) (closed_by now) now.labels → eps ≡ 1000
      → ((s : ℕ) → s < n.states → h s < 2 ^ 55)
      → g_of now.labels old.goal ≡ FAR → ShowNone n now.labels.start old.goal (g_of now.labels) (v_of now.labels)
  passing_shows_none rest one bounded far =
      rest_shows_none rest one (here.ordered one) here.usable.states
      (λ s inside. bounded s (omega (arith, here.usable.states))) labels passing_supported far

  passing_shows_bound : IsAtRest (query n h eps old.goal) (closed_by now) now.labels → eps ≡ 1000
      → IsConsistent n old.goal h
      → ShowBound n now.labels.start old.goal (g_of now.labels) (v_of now.labels) h (g_of now.labels old.goal)
  passing_shows_bound rest one consistent =
      rest_shows_bound rest one (here.ordered one) here.usable.states consistent passing_supported

  -- a pass that rests
  pub passed_at_rest : IsSound n → IsConsistent n old.goal h → ((s : ℕ) → s < n.states → h s < 2 ^ 55)
      → old.goal < states_of now.labels
      → g_of old.labels old.labels.start ≡ 0 → IsAtRest (query n h eps old.goal) (closed_by now) now.labels
      → IsSerialPass (query n h eps old.goal) old now before counts Rest
  passed_at_rest sound consistent bounded inside zero rest = record {
    run = here.run;
    thrice = λ s. omega (arith, here.taken.each s);
    few = omega (arith, here.taken.total);
    rest = rest_at_rest rest;
    spent = spent_at_rest rest;
    unfinished = λ e. absurd (rest_not_spent e);
    enough = λ _ _ _. refl;
    unbroken = λ _ i u at. chain_unbroken {q = query n h eps old.goal} sound consistent here.usable.exact
        here.usable.states inside rest i u at;
    settled = λ one s closed. (here.ordered one).settled s closed;
    none = λ _ one far. passing_shows_none rest one bounded far;
    tight = λ _ one. passing_shows_bound rest one consistent;
    counted = here.counted;
    usable = here.usable;
    supported = passing_supported;
    start = here.same_start;
    states = here.same_states;
    goal = here.same_goal;
    fresh = λ fresh. (run_start (query n h eps old.goal) none_closed now.trace old.labels now.labels here.run
        (record { zero = zero; fresh = fresh })).fresh;
  }

  -- a pass that is spent while a state is next
  pub passed_at_next : g_of old.labels old.labels.start ≡ 0 → (s : ℕ)
      → IsNext (query n h eps old.goal) (closed_by now) now.labels s → IsSpent counts
      → IsSerialPass (query n h eps old.goal) old now before counts Spent
  passed_at_next zero s next spent =
      let room = passing_room here labels next in
      record {
        run = here.run;
        thrice = λ u. omega (arith, here.taken.each u);
        few = omega (arith, here.taken.total);
        rest = rest_at_next next;
        spent = spent_at_next spent next;
        unfinished = λ _. room;
        enough = λ plan run in_time. absurd (not_spent before counts here.counted spent room plan run in_time);
        unbroken = λ e. absurd (rest_not_spent (sym e));
        settled = λ one u closed. (here.ordered one).settled u closed;
        none = λ e. absurd (rest_not_spent (sym e));
        tight = λ e. absurd (rest_not_spent (sym e));
        counted = here.counted;
        usable = here.usable;
        supported = passing_supported;
        start = here.same_start;
        states = here.same_states;
        goal = here.same_goal;
        fresh = λ fresh. (run_start (query n h eps old.goal) none_closed now.trace old.labels now.labels here.run
            (record { zero = zero; fresh = fresh })).fresh;
      }
