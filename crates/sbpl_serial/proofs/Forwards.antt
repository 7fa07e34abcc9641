-- A run from labels none of which is underconsistent only lowers, and takes no state twice.
use Rattle.std.proofs.Common.{◌≡◌, ◌≢◌, ℕ, ◌+◌, ◌*◌, ◌^◌, ◌<◌, ◌≤◌, zero, suc, Bool, true, false, ◌||◌, cond}
use Rattle.std.proofs.Common.{nat_eq, MatchBool, List, [], ◌∷◌, length, slice_index_or, arith, ⊎_elim, refl}
use Rattle.std.proofs.Common.{sym, ap, ◌∙◌}
use Rattle.std.proofs.Math.Nat.{mul-le-mul_right}
use Rattle.std.specs.List.{All, AllPairs}
use Rattle.std.proofs.lemmas.Bool.{cases_eq, cases_lt, cases_Bool, or_parts, or_cases, eqb-true, eqb-false, eq-eqb}
use Rattle.std.proofs.lemmas.Bool.{ne_eqb, true≢false, false≢true}
use Rattle.std.proofs.lemmas.List.Elements.{All-cons, All-nil}
use Rattle.std.proofs.lemmas.List.{get_or_past}
use Rattle.std.proofs.lemmas.List.Kept.{AllPairs-cons}
use Rattle.sbpl_search.specs.sbpl_graph.declared.TheConstants.{FAR}
use Rattle.sbpl_search.specs.sbpl_graph.Network.{Network}
use Rattle.sbpl_search.specs.sbpl_graph.Certificate.{AreSupported, ShowNone}
use Rattle.sbpl_search.specs.sbpl_graph.Kept.{NoneUnder}
use Rattle.sbpl_search.proofs.Paths.{label_at_most}
use Rattle.sbpl_search.specs.sbpl_labels.Counts.{Counts}
use Rattle.sbpl_search.specs.sbpl_labels.declared.row.Row.{Row}
use Rattle.sbpl_search.specs.sbpl_labels.Marks.{Marks, AreLabels, no_row, states_of, g_of, v_of}
use Rattle.sbpl_search.specs.sbpl_labels.declared.pass_end.PassEnd.{PassEnd}
use Rattle.sbpl_search.specs.sbpl_labels.declared.pass_end.PassEnd.TheVariants.{Rest, Spent}
use Rattle.sbpl_search.specs.sbpl_labels.declared.time.Time.TheVariants.{Late}
use Rattle.sbpl_search.specs.Query.{Query}
use Rattle.sbpl_serial.specs.declared.step.Step.{Step}
use Rattle.sbpl_serial.specs.Passed.{IsSerialPass, IsForwardPass}
use Rattle.sbpl_serial.specs.Run.{IsOver, IsUnder, IsNext, IsSerialRun, IsExpansion, IsAtRest, LowersHeads}
use Rattle.sbpl_serial.specs.Run.{RaisesState, none_closed, closed_with, closed_after}
use Rattle.sbpl_serial.specs.Serial.{SerialState}
use Rattle.sbpl_serial.specs.Times.{times}
use Rattle.sbpl_serial.proofs.Counting.{sum_below, sum_less, sum_some}
use Rattle.sbpl_serial.proofs.Ending.{rest_above}
use Rattle.sbpl_serial.proofs.Finishing.{not_spent}

-- no state is underconsistent, v is at most infinite, and it is finite where a state is closed
record AreForward (closed : ℕ → Bool) (m : Marks) : Type 0 where
  none_under : NoneUnder (states_of m) (g_of m) (v_of m)
  small : (u : ℕ) → v_of m u ≤ FAR
  near : (u : ℕ) → closed u ≡ true → v_of m u < FAR

-- how often a state can still be taken
abbrev open_by : (ℕ → Bool) → ℕ → ℕ
open_by closed s = cond (closed s) 0 1

lesser : {n : Network} {old new : Marks} {s : ℕ} (u : ℕ) → LowersHeads n old new s → g_of new u ≤ g_of old u
lesser {old = old} u step =
    ⊎_elim
    (λ (at : u ≡ old.start). rw at (omega (arith, step.start_g)))
    (λ (apart : u ≢ old.start). (step.heads u apart).at_most)
    (cases_eq u old.start)

lowers_by : (n : Network) (old new : Marks) (s : ℕ) (raised : Bool) → (IsUnder old s → ⊥)
    → MatchBool raised (RaisesState n old new s) (LowersHeads n old new s)
    → (raised ≡ false) × LowersHeads n old new s
lowers_by n old new s true not_under step = absurd (not_under step.under)
lowers_by n old new s false not_under step = (refl, step)

closed_lowered : (step : Step) (closed : ℕ → Bool) (u : ℕ) → step.raised ≡ false
    → closed_with step closed u ≡ (nat_eq step.state u || closed u)
closed_lowered step closed u lowered = rw lowered refl

module _ {q : Query} {closed : ℕ → Bool} {old : Marks} (new : Marks) (step : Step)
    (next : IsNext q closed old step.state) (by : IsExpansion q.network old step new)
    (forward : AreForward closed old) where
  not_under : IsUnder old step.state → ⊥
  not_under under = omega (arith, under, forward.none_under.at step.state next.is_open.inside)

  fresh : closed step.state ≡ false
  fresh =
      ⊎_elim (λ (under : IsUnder old step.state). absurd (not_under under))
      (λ (over : IsOver old step.state × (closed step.state ≡ false)). over.1) next.is_open.inconsistent

  lowers_it : (step.raised ≡ false) × LowersHeads q.network old new step.state
  lowers_it = lowers_by q.network old new step.state step.raised not_under by

  -- it stays so after a step
  forward_more : AreForward (closed_with step closed) new
  forward_more =
      let lowered = lowers_it.0 in
      let step_by = lowers_it.1 in
      let low : g_of old step.state < FAR = omega (arith, step_by.over, forward.small step.state) in
      record {
        none_under = record {
          at = λ u inside.
              let was = forward.none_under.at u (omega (arith, inside, step_by.same_states)) in
              let less = lesser u step_by in
              ⊎_elim
              (λ (own : u ≡ step.state).
              let less_own = lesser step.state step_by in rw own (omega (arith, step_by.settled, less_own)))
              (λ (apart : u ≢ step.state). omega (arith, step_by.other_v u apart, was, less))
              (cases_eq u step.state);
        };
        small = λ u.
            ⊎_elim
            (λ (own : u ≡ step.state). rw own (omega (arith, step_by.settled, low)))
            (λ (apart : u ≢ step.state). omega (arith, step_by.other_v u apart, forward.small u))
            (cases_eq u step.state);
        near = λ u is.
            ⊎_elim
            (λ (own : nat_eq step.state u ≡ true).
            let at : step.state ≡ u = eqb-true _ _ own in rw (← at) (omega (arith, step_by.settled, low)))
            (λ (was : closed u ≡ true).
            let apart : u ≢ step.state = λ e. true≢false (sym was ∙ ap closed e ∙ fresh) in
            omega (arith, step_by.other_v u apart, forward.near u was))
            (or_cases _ _ (sym (closed_lowered step closed u lowered) ∙ is));
      }

  -- and the state can be taken once less
  open_own : (open_by (closed_with step closed) step.state ≡ 0) × (open_by closed step.state ≡ 1)
  open_own =
      let test : nat_eq step.state step.state ≡ true = eq-eqb step.state step.state refl in
      (rw (closed_lowered step closed step.state lowers_it.0, test) refl, rw fresh refl)

  open_other : (u : ℕ) → u ≢ step.state → open_by (closed_with step closed) u ≡ open_by closed u
  open_other u apart =
      let test : nat_eq step.state u ≡ false = ne_eqb step.state u (λ e. apart (sym e)) in
      rw (closed_lowered step closed u lowers_it.0, test) refl

-- what holds of a run from such labels
record RunsForward (states : ℕ) (closed : ℕ → Bool) (steps : List Step) (new : Marks) : Type 0 where
  lowered : All (λ step. step.raised ≡ false) steps
  all_fresh : All (λ step. closed step.state ≡ false) steps
  once : AllPairs (λ a b. a.state ≢ b.state) steps
  each : (s : ℕ) → times s steps + open_by (closed_after closed steps) s ≤ open_by closed s
  total : length steps + sum_below (open_by (closed_after closed steps)) states ≤ sum_below (open_by closed) states
  now : AreForward (closed_after closed steps) new

along : (q : Query) (steps : List Step) (closed : ℕ → Bool) (old new : Marks) → IsSerialRun q closed steps old new
    → AreForward closed old → RunsForward (states_of old) closed steps new
along q [] closed old new run forward = record {
  lowered = All-nil (λ (step : Step). step.raised ≡ false);
  all_fresh = All-nil (λ (step : Step). closed step.state ≡ false);
  once = λ i j d e before inside. absurd (omega arith);
  each = λ s. omega arith;
  total = omega arith;
  now = rw run forward;
}
along q (step ∷ rest) closed old new run forward =
    let lowered = (lowers_it run.0 step run.1 run.2 forward).0 in
    let by = (lowers_it run.0 step run.1 run.2 forward).1 in
    let own = open_own run.0 step run.1 run.2 forward in
    let other = open_other run.0 step run.1 run.2 forward in
    let later = along q rest (closed_with step closed) run.0 new run.3 (forward_more run.0 step run.1 run.2 forward) in
    let parts : All (λ (x : Step). (nat_eq step.state x.state ≡ false) × (closed x.state ≡ false)) rest =
    λ k d inside. or_parts _ _
    (sym (closed_lowered step closed (slice_index_or rest k d).state lowered) ∙ later.all_fresh k d inside) in
    record {
      lowered = All-cons (λ (x : Step). x.raised ≡ false) step rest lowered later.lowered;
      all_fresh =
          All-cons (λ (x : Step). closed x.state ≡ false) step rest (fresh run.0 step run.1 run.2 forward)
          (λ k d inside. (parts k d inside).1);
      once =
          AllPairs-cons (λ (a b : Step). a.state ≢ b.state) step rest
          (λ k d inside. eqb-false _ _ (parts k d inside).0) later.once;
      each = λ s.
          ⊎_elim
          (λ (at : s ≡ step.state).
          let test : nat_eq step.state s ≡ true = eq-eqb step.state s (sym at) in
          let count : times s (step ∷ rest) ≡ 1 + times s rest = rw test refl in
          let zero_after : open_by (closed_with step closed) s ≡ 0 = rw at own.0 in
          let one_before : open_by closed s ≡ 1 = rw at own.1 in
          omega (arith, later.each s))
          (λ (apart : s ≢ step.state).
          let test : nat_eq step.state s ≡ false = ne_eqb step.state s (λ e. apart (sym e)) in
          let count : times s (step ∷ rest) ≡ 0 + times s rest = rw test refl in
          omega (arith, later.each s, other s apart))
          (cases_eq s step.state);
      total =
          let inside : step.state < states_of old = run.1.is_open.inside in
          let same : states_of run.0 ≡ states_of old = by.same_states in
          let all = rw same at later.total in
          let less =
          sum_less (open_by closed) (open_by (closed_with step closed)) step.state (states_of old) inside
          (omega (arith, own.0, own.1)) other in
          omega (arith, all, less);
      now = later.now;
    }

-- each state once adds up to the number of states
sum_ones : (f : ℕ → ℕ) (n : ℕ) → ((s : ℕ) → f s ≤ 1) → sum_below f n ≤ n
sum_ones f zero few = omega arith
sum_ones f (suc n) few = omega (arith, sum_ones f n few, few n)

-- at rest an infinite goal shows that there is no path
module _ {q : Query} {closed : ℕ → Bool} {m : Marks} where
  rest_shows_none : IsAtRest q closed m → AreLabels m → q.eps ≤ 100000
      → states_of m ≡ q.network.states → ((s : ℕ) → s < states_of m → q.guide s < 2 ^ 55)
      → ((s : ℕ) → closed s ≡ true → v_of m s < FAR) → AreSupported q.network m.start (g_of m) (v_of m)
      → g_of m q.goal ≡ FAR → ShowNone q.network m.start q.goal (g_of m) (v_of m)
  rest_shows_none rest labels eps states bounded near supported far = record {
    supported = supported;
    goal_is_far = far;
    closed = λ s at g_near.
        let inside : s < states_of m = omega arith in
        let product : q.eps * q.guide s ≤ 100000 * 2 ^ 55 =
        omega (arith, mul-le-mul_right (q.guide s) eps, bounded s inside) in
        ⊎_elim
        (λ settled. settled)
        (λ (v_far : FAR ≤ v_of m s).
        let over : IsOver m s = omega arith in
        ⊎_elim
        (λ is. near s is)
        (λ fresh.
        let above = rest_above rest inside over fresh in
        ⊎_elim
        (λ (g_far : g_of m s ≡ FAR). absurd (omega arith))
        (λ (g_small : g_of m s < 2 ^ 62). absurd (omega arith))
        (labels.labels s inside).0)
        (cases_Bool (closed s)))
        (cases_lt (v_of m s) FAR);
  }

-- past the last state v is 0
pub v_outside : (m : Marks) (u : ℕ) → states_of m ≤ u → v_of m u ≡ 0
v_outside m u past = ap (λ (r : Row). r.v) (get_or_past m.rows u no_row past)

forward_from : (m : Marks) → NoneUnder (states_of m) (g_of m) (v_of m) → AreLabels m → AreForward none_closed m
forward_from m none labels = record {
  none_under = none;
  small = λ u.
      ⊎_elim
      (λ (inside : u < states_of m). label_at_most _ (labels.labels u inside).1)
      (λ (past : states_of m ≤ u). omega (arith, v_outside m u past))
      (cases_lt u (states_of m));
  near = λ u is. absurd (false≢true is);
}

-- a state that is next can be taken once more
one_left : {q : Query} {closed : ℕ → Bool} {m : Marks} {s : ℕ} → AreForward closed m
    → IsNext q closed m s → open_by closed s ≡ 1
one_left {closed = closed} {m = m} {s = s} forward next =
    let is : closed s ≡ false =
    ⊎_elim (λ (under : IsUnder m s). absurd (omega (arith, under, forward.none_under.at s next.is_open.inside)))
    (λ (over : IsOver m s × (closed s ≡ false)). over.1) next.is_open.inconsistent in
    rw is refl

-- with a budget for each state a pass that is not late rests
rests_where_ample : {q : Query} {old now : SerialState} {before counts : Counts} (end : PassEnd)
    → IsSerialPass q old now before counts end
    → (end ≡ Spent → length now.trace < states_of old.labels) → before.plan + states_of old.labels ≤ before.per_plan
    → before.run + states_of old.labels ≤ 2 ^ 30 → counts.time ≢ Late → end ≡ Rest
rests_where_ample Rest passed unfinished plan run in_time = refl
rests_where_ample {before = before} {counts = counts} Spent passed unfinished plan run in_time =
    absurd (not_spent before counts passed.counted (passed.spent.0 refl).0 (unfinished refl) plan run in_time)

module _ {n : Network} {h : ℕ → ℕ} {eps : ℕ} {old now : SerialState} {before counts : Counts}
    (none : NoneUnder (states_of old.labels) (g_of old.labels) (v_of old.labels))
    (was : AreLabels old.labels) (labels : AreLabels now.labels) (eps_high : eps ≤ 100000)
    (bounded : (s : ℕ) → s < n.states → h s < 2 ^ 55) where
  -- so a pass only lowers
  pub forward_pass : (end : PassEnd)
      → IsSerialPass (record { network = n; guide = h; eps = eps; goal = old.goal }) old now before counts end
      → IsForwardPass (record { network = n; guide = h; eps = eps; goal = old.goal }) old now before counts end
  forward_pass end passed =
      let forward = along _ now.trace none_closed old.labels now.labels passed.run (forward_from old.labels none was) in
      let ones = sum_ones (open_by none_closed) (states_of old.labels) (λ s. omega arith) in
      let unfinished : end ≡ Spent → length now.trace < states_of old.labels =
      λ spent.
      let (s, next) = (passed.spent.0 spent).1 in
      let inside : s < states_of old.labels = omega (arith, next.is_open.inside, passed.states) in
      let one : open_by (closed_after none_closed now.trace) s ≡ 1 = one_left forward.now next in
      omega (
        arith,
        forward.total,
        ones,
        sum_some (open_by (closed_after none_closed now.trace)) s (states_of old.labels) inside,
      ) in
      record {
        lowered = forward.lowered;
        once = forward.once;
        each = λ s. omega (arith, forward.each s);
        few = omega (arith, forward.total, ones);
        unfinished = unfinished;
        enough = λ plan run in_time. rests_where_ample end passed unfinished plan run in_time;
        none = λ rest far.
            rest_shows_none (passed.rest.0 rest) labels eps_high passed.usable.states
            (λ s inside. bounded s (omega (arith, passed.usable.states))) forward.now.near passed.supported far;
        none_under = record { at = λ s inside. forward.now.none_under.at s (omega (arith, passed.usable.states)) };
      }
