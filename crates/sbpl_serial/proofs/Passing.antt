-- A pass from its beginning on.
use Rattle.std.proofs.Common.{◌≡◌, ◌≢◌, ℕ, ◌+◌, ◌*◌, ◌<◌, ◌≤◌, Bool, true, false, List, [], ◌∷◌, ◌++◌, length, arith}
use Rattle.std.proofs.Common.{Some, ⊎_elim, refl, sym, ◌∙◌, ap, subst, length-append}
use Rattle.std.proofs.lemmas.Bool.{eq-eqb, ne_eqb, or_left}
use Rattle.sbpl_search.specs.sbpl_graph.Laws.{IsSound, IsConsistent}
use Rattle.sbpl_search.specs.sbpl_graph.Network.{Network}
use Rattle.sbpl_search.specs.sbpl_graph.Exact.{AreExact}
use Rattle.sbpl_search.proofs.Growing.{grow_none, grow_twice}
use Rattle.sbpl_search.proofs.Paths.{label_at_most}
use Rattle.sbpl_search.specs.sbpl_labels.Counts.{Counts, GrowBy}
use Rattle.sbpl_search.specs.sbpl_labels.Marks.{Marks, AreLabels, states_of, g_of, v_of, back_of}
use Rattle.sbpl_serial.specs.declared.step.Step.{Step}
use Rattle.sbpl_serial.specs.Keys.{goal_key}
use Rattle.sbpl_serial.specs.Queue.{AreQueued, IsFirstBelow}
use Rattle.sbpl_search.specs.Query.{Query}
use Rattle.sbpl_serial.specs.Run.{IsOver, IsUnder, IsNext, IsSerialRun, IsExpansion, LowersHeads, RaisesState}
use Rattle.sbpl_serial.specs.Run.{none_closed, closed_with, closed_after}
use Rattle.sbpl_serial.specs.Serial.{SerialState}
use Rattle.sbpl_search.specs.Ready.{AreUsable}
use Rattle.sbpl_serial.proofs.Closing.{closed_after_push}
use Rattle.sbpl_serial.proofs.Opening.{open_alike}
use Rattle.sbpl_serial.proofs.Resting.{next_from_queue}
use Rattle.sbpl_serial.specs.Taken.{IsTaken, step_of}
use Rattle.sbpl_serial.proofs.Counting.{AreCounted, left, left_near, left_lowered, left_raised}
use Rattle.sbpl_serial.proofs.Counting.{counted_none, counted_more, counted_room}
use Rattle.sbpl_serial.proofs.Ordering.{AreOrdered, ordered_none, ordered_lowered, ordered_raised}

-- the states that the steps of a search have closed
abbrev pub closed_by : SerialState → ℕ → Bool
closed_by a = closed_after none_closed a.trace

-- a pass that began from the old search and counts is now here
pub record IsPassing (q : Query) (old now : SerialState) (before counts : Counts) : Type 0 where
  pub same_goal : now.goal ≡ old.goal
  pub same_start : now.labels.start ≡ old.labels.start
  pub same_states : states_of now.labels ≡ states_of old.labels
  pub usable : AreUsable q.network now.labels counts.run
  pub counted : GrowBy (length now.trace) before counts
  pub run : IsSerialRun q none_closed now.trace old.labels now.labels
  pub taken : AreCounted (states_of old.labels) now.trace (closed_by now) (v_of now.labels)
  pub ordered : q.eps ≡ 1000 → AreOrdered q.guide (closed_by now) now.labels
  pub queued : AreQueued q.eps q.guide (closed_by now) now.labels now.queue

-- one more state is taken
pub run_push : (q : Query) (closed : ℕ → Bool) (steps : List Step) (old m new : Marks) (step : Step)
    → IsSerialRun q closed steps old m
    → IsNext q (closed_after closed steps) m step.state → IsExpansion q.network m step new
    → IsSerialRun q closed (steps ++ step ∷ []) old new
run_push q closed [] old m new step is next by = (new, rw (← is) next, rw (← is) by, refl)
run_push q closed (first ∷ rest) old m new step run next by =
    (run.0, run.1, run.2, run_push q (closed_with first closed) rest run.0 m new step run.3 next by)

-- what is ordered by one test is ordered by another that answers alike
ordered_alike : {h : ℕ → ℕ} {closed closed' : ℕ → Bool} {m : Marks}
    → ((u : ℕ) → closed u ≡ closed' u) → AreOrdered h closed m
    → AreOrdered h closed' m
ordered_alike {closed = closed} {closed' = closed'} same ordered = record {
  settled = λ x is. ordered.settled x (same x ∙ is);
  later = λ x u is open_u. ordered.later x u (same x ∙ is) (open_alike closed' closed (λ y. sym (same y)) open_u);
}

-- at its beginning no step was made
pub passing_none : {q : Query} {old now : SerialState} {counts : Counts} → now.labels ≡ old.labels
    → now.goal ≡ old.goal → now.trace ≡ []
    → AreUsable q.network old.labels counts.run → AreQueued q.eps q.guide none_closed now.labels now.queue
    → IsPassing q old now counts counts
passing_none {q} {old} {now} {counts} same goal empty usable queued =
    let none : (s : ℕ) → closed_by now s ≡ false = λ s. rw empty refl in
    record {
      same_goal = goal;
      same_start = ap (λ (m : Marks). m.start) same;
      same_states = ap states_of same;
      usable = rw same usable;
      counted = rw empty (grow_none counts);
      run = rw (empty, same) refl;
      taken = counted_none (closed_by now) (v_of now.labels) empty;
      ordered = λ one. ordered_none none;
      queued = rw empty queued;
    }

-- the state that the queue gives is next
pub passing_next : {q : Query} {old now : SerialState} {before counts : Counts} (s : ℕ) → q.goal ≡ old.goal
    → IsPassing q old now before counts → IsFirstBelow now.queue (goal_key (g_of now.labels now.goal)) (Some s)
    → IsNext q (closed_by now) now.labels s
passing_next {q} {now = now} s same here first =
    next_from_queue q s here.queued
    (subst (λ (t : ℕ). IsFirstBelow now.queue (goal_key (g_of now.labels t)) (Some s)) (here.same_goal ∙ sym same) first)

-- labels that are usable after a count of expansions are so after one more
pub usable_more : {n : Network} {m : Marks} {count : ℕ} → AreUsable n m count → AreUsable n m (count + 1)
usable_more {count = count} usable = record {
  states = usable.states;
  exact = usable.exact;
  fits = record {
    near_g = λ s inside near. omega (arith, usable.fits.near_g s inside near);
    near_v = λ s inside near. omega (arith, usable.fits.near_v s inside near);
  };
}

-- a state that is next can still be taken
pub next_left : {q : Query} {closed : ℕ → Bool} {m : Marks} {s : ℕ} → AreLabels m → IsNext q closed m s
    → 1 ≤ left (closed s) (v_of m s)
next_left {closed = closed} {m = m} {s = s} labels next =
    let label = label_at_most _ (labels.labels s next.is_open.inside).0 in
    ⊎_elim
    (λ (under : IsUnder m s). left_near (closed s) (v_of m s) (omega (arith, under)))
    (λ (over : IsOver m s × (closed s ≡ false)). rw over.1 (omega arith))
    next.is_open.inconsistent

-- so there is room for its step
pub passing_room : {q : Query} {old now : SerialState} {before counts : Counts} {s : ℕ}
    → IsPassing q old now before counts → AreLabels now.labels
    → IsNext q (closed_by now) now.labels s → length now.trace < 3 * states_of old.labels
passing_room {s = s} here labels next =
    counted_room s here.taken (omega (arith, next.is_open.inside, here.same_states)) (next_left labels next)

-- what one step leaves to be taken, and that it keeps the order at inflation one
module _ {q : Query} {closed : ℕ → Bool} {old : Marks} (new : Marks) {s : ℕ} (labels : AreLabels old)
    (next : IsNext q closed old s)
    (exact : AreExact q.network old.start (g_of old) (v_of old) (back_of old))
    (states : states_of old ≡ q.network.states)
    (sound : IsSound q.network) (consistent : IsConsistent q.network q.goal q.guide) where
  step_left : (raised : Bool) → IsExpansion q.network old (step_of s raised) new
      → left (closed_with (step_of s raised) closed s) (v_of new s) + 1 ≤ left (closed s) (v_of old s)
  step_left true by =
      let step : RaisesState q.network old new s = by in
      let label = label_at_most _ (labels.labels s next.is_open.inside).0 in
      left_raised (closed s) (closed s) (v_of old s) (v_of new s) refl (omega (arith, step.under)) step.raised
  step_left false by =
      let step : LowersHeads q.network old new s = by in
      let fresh : closed s ≡ false =
      ⊎_elim (λ (under : IsUnder old s). absurd (omega (arith, step.over)))
      (λ (over : IsOver old s × (closed s ≡ false)). over.1) next.is_open.inconsistent in
      let own : closed_with (step_of s false) closed s ≡ true = or_left _ _ (eq-eqb s s refl) in
      left_lowered (closed s) (closed_with (step_of s false) closed s) (v_of old s) (v_of new s) fresh own

  step_v : (raised : Bool) → IsExpansion q.network old (step_of s raised) new → (u : ℕ) → u ≢ s
      → v_of new u ≡ v_of old u
  step_v true by u apart = let step : RaisesState q.network old new s = by in step.other_v u apart
  step_v false by u apart = let step : LowersHeads q.network old new s = by in step.other_v u apart

  step_start : (raised : Bool) → IsExpansion q.network old (step_of s raised) new
      → (new.start ≡ old.start) × (states_of new ≡ states_of old)
  step_start true by = let step : RaisesState q.network old new s = by in (step.same_start, step.same_states)
  step_start false by = let step : LowersHeads q.network old new s = by in (step.same_start, step.same_states)

  step_ordered : (raised : Bool) → IsExpansion q.network old (step_of s raised) new → q.eps ≡ 1000
      → AreOrdered q.guide closed old
      → AreOrdered q.guide (closed_with (step_of s raised) closed) new
  step_ordered true by one ordered = ordered_raised one sound consistent next ordered exact labels states by
  step_ordered false by one ordered = ordered_lowered one sound consistent next ordered by

closed_other : (raised : Bool) (closed : ℕ → Bool) (s u : ℕ) → u ≢ s
    → closed_with (step_of s raised) closed u ≡ closed u
closed_other true closed s u apart = refl
closed_other false closed s u apart = rw (ne_eqb s u (λ e. apart (sym e))) refl

-- one more step
pub passing_more : {q : Query} {old now now' : SerialState} {before counts counts' : Counts} (s : ℕ) → IsSound q.network
    → IsConsistent q.network q.goal q.guide → AreLabels now.labels → IsPassing q old now before counts
    → IsNext q (closed_by now) now.labels s → (raised : Bool) × IsTaken q.network now now' s raised
    → ((count : ℕ) → AreUsable q.network now.labels count → AreUsable q.network now'.labels (count + 1))
    → now'.goal ≡ now.goal → GrowBy 1 counts counts'
    → AreQueued q.eps q.guide (closed_by now') now'.labels now'.queue → IsPassing q old now' before counts'
passing_more {q} {old} {now} {now'} {before} {counts} {counts'} s sound consistent labels here next (raised, by)
    usable goal spent queued =
    let step = step_of s raised in
    let exact = here.usable.exact in
    let states = here.usable.states in
    let kept = step_start now'.labels labels next exact states sound consistent raised by.step in
    let longer : length now'.trace ≡ length now.trace + 1 = ap length by.traced ∙ length-append now.trace (step ∷ []) in
    let closed' : (u : ℕ) → closed_by now' u ≡ closed_with step (closed_by now) u =
    λ u. rw by.traced (closed_after_push none_closed now.trace step u) in
    record {
      same_goal = goal ∙ here.same_goal;
      same_start = kept.0 ∙ here.same_start;
      same_states = kept.1 ∙ here.same_states;
      usable = rw spent.run (usable counts.run here.usable);
      counted = grow_twice (length now'.trace) longer here.counted spent;
      run =
          rw by.traced (run_push q none_closed now.trace old.labels now.labels now'.labels step here.run next by.step);
      taken =
          counted_more step here.taken (omega (arith, next.is_open.inside, here.same_states))
          (rw (closed' s) (step_left now'.labels labels next exact states sound consistent raised by.step))
          (λ u apart. closed' u ∙ closed_other raised (closed_by now) s u apart)
          (step_v now'.labels labels next exact states sound consistent raised by.step)
          by.traced;
      ordered = λ one.
          ordered_alike (λ u. sym (closed' u))
          (step_ordered now'.labels labels next exact states sound consistent raised by.step one (here.ordered one));
      queued = queued;
    }
