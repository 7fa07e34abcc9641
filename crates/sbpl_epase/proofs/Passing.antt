-- What a pass by events promises of a planner.
use Rattle.std.proofs.Common.{◌≡◌, ◌≢◌, ℕ, ◌+◌, ◌*◌, ◌^◌, ◌<◌, ◌≤◌, Bool, true, false, nat_lt, List, arith, ⊎_elim, inl}
use Rattle.std.proofs.Common.{inr, refl, sym, ap, subst, ◌∙◌}
use Rattle.std.proofs.lemmas.Bool.{cases_Bool, cases_eq, cases_lt}
use Rattle.std.proofs.lemmas.Bool.Decides.{nat_tests}
use Rattle.std.proofs.lemmas.List.{get_or_past}
use Rattle.sbpl_adstar.specs.sbpl_graph.declared.TheConstants.{FAR}
use Rattle.sbpl_adstar.specs.sbpl_graph.Exact.{AreExact}
use Rattle.sbpl_adstar.specs.sbpl_graph.Certificate.{AreSupported, ShowBound, ShowNone}
use Rattle.sbpl_adstar.specs.sbpl_labels.Counts.{Counts}
use Rattle.sbpl_adstar.specs.sbpl_labels.Marks.{Marks, no_row, g_of, v_of, back_of, row_at}
use Rattle.sbpl_adstar.specs.sbpl_labels.declared.pass_end.PassEnd.{PassEnd}
use Rattle.sbpl_adstar.specs.sbpl_labels.declared.pass_end.PassEnd.TheVariants.{Rest, Spent}
use Rattle.sbpl_adstar.specs.sbpl_labels.declared.row.Row.{Row}
use Rattle.sbpl_adstar.specs.sbpl_open.KeyOrder.{IsBelow}
use Rattle.sbpl_adstar.specs.sbpl_search.Passed.{IsPassed}
use Rattle.sbpl_adstar.specs.sbpl_search.Query.{Query}
use Rattle.sbpl_adstar.specs.sbpl_search.Ready.{IsStartFresh}
use Rattle.sbpl_adstar.specs.sbpl_search.State.{State}
use Rattle.sbpl_adstar.specs.sbpl_serial.Keys.{over_key}
use Rattle.sbpl_adstar.specs.sbpl_serial.Run.{IsAtRest, IsOpen, IsOver, IsUnder, goal_key_at, key_at}
use Rattle.sbpl_frontier.specs.sbpl_frontier_rules.declared.event.Event.{Event}
use Rattle.sbpl_frontier.specs.sbpl_frontier_rules.Events.{AreEvents, IsFirst, IsIdle, IsOutOfBudget, IsRest}
use Rattle.sbpl_frontier.specs.sbpl_frontier_rules.Frontier.{Frontier, is_opened}
use Rattle.sbpl_frontier.specs.sbpl_frontier_rules.Journal.{openings}
use Rattle.sbpl_frontier.specs.sbpl_frontier_rules.Kept.{IsKept}
use Rattle.sbpl_frontier.specs.sbpl_frontier_rules.Laws.{EachOpensOnce, EventsKeep, FirstIsKept, IdleIsExact, IsLawful}
use Rattle.sbpl_frontier.specs.sbpl_frontier_rules.Laws.{MayBegin, OpensOnce, SettledAtOne}
use Rattle.sbpl_frontier.specs.sbpl_frontier_rules.Passes.{ArePass, CountsAreFree, OpenedByEvents}
use Rattle.sbpl_frontier.specs.sbpl_frontier_rules.Passes.{StartStaysFresh, counted_with, opened_by}
use Rattle.sbpl_frontier.specs.sbpl_frontier_core.Log.{Log}
use Rattle.sbpl_frontier.specs.sbpl_frontier_core.Seats.{AreTakenBelow}
use Rattle.sbpl_frontier.specs.sbpl_frontier_core.Passes.{EndsSo, IsPassFinished}
use Rattle.sbpl_epase.specs.Planner.{epase}

-- ---- keys

key_over : (q : Query) (m : Marks) (s : ℕ) → IsOver m s
    → key_at q.eps q.guide m s ≡ over_key q.eps (g_of m s) (q.guide s)
key_over q m s over = let less : nat_lt (g_of m s) (v_of m s) ≡ true = grind (arith, nat_tests) in rw less refl

-- ---- two ways to tell which states are opened

module _ {a b : ℕ → Bool} (same : (s : ℕ) → a s ≡ b s) (q : Query) (m : Marks) where
  open_same : (s : ℕ) → IsOpen a m s → IsOpen b m s
  open_same s is = record {
    inside = is.inside;
    inconsistent =
        ⊎_elim (λ (under : IsUnder m s). inl under)
        (λ (over : IsOver m s × (a s ≡ false)). inr (over.0, sym (same s) ∙ over.1)) is.inconsistent;
  }

rest_same : {a b : ℕ → Bool} → ((s : ℕ) → a s ≡ b s) → (q : Query) (m : Marks) → IsAtRest q a m → IsAtRest q b m
rest_same same q m rest =
    record { none_below = λ s is below. rest.none_below s (open_same (λ u. sym (same u)) q m s is) below }

-- ---- the frontier at the end of a pass

module _ (q : Query) (f : Frontier) (lawful : IsLawful q) (kept : IsKept q f) where
  abbrev g : ℕ → ℕ
  g = g_of f.labels

  abbrev v : ℕ → ℕ
  v = v_of f.labels

  -- past the last state g and v are alike
  under_nowhere : (u : ℕ) → g u ≤ v u
  under_nowhere u =
      ⊎_elim
      (λ (inside : u < q.network.states). kept.none_under.at u inside)
      (λ (past : q.network.states ≤ u).
      let row : row_at f.labels u ≡ no_row = get_or_past f.labels.rows u no_row (omega (arith, kept.states)) in
      let g_is : g u ≡ 0 = ap (λ (r : Row). r.g) row in
      omega (arith, g_is))
      (cases_lt u q.network.states)

  v_at_most : (s : ℕ) → s < q.network.states → v s ≤ FAR
  v_at_most s inside =
      ⊎_elim (λ (far : v s ≡ FAR). omega (arith, far)) (λ (near : v s < 2 ^ 62). omega (arith, near))
      (kept.labels.labels s (omega (arith, kept.states))).1

  module _ (rest : IsAtRest q (is_opened f) f.labels) where
    -- a state that is not opened, and whose g and v differ, has a key that is not below the goal's
    above_goal : (s : ℕ) → s < q.network.states → g s < v s → is_opened f s ≡ false
        → 1000 * g q.goal ≤ 1000 * g s + q.eps * q.guide s
    above_goal s inside over fresh =
        ⊎_elim
        (λ (low : 1000 * g s + q.eps * q.guide s < 1000 * g q.goal).
        let below : IsBelow (key_at q.eps q.guide f.labels s) (goal_key_at q f.labels) =
        rw (key_over q f.labels s over) (inl low) in
        absurd (rest.none_below s
        (record { inside = omega (arith, inside, kept.states); inconsistent = inr (over, fresh) }) below))
        (λ above. above)
        (cases_lt (1000 * g s + q.eps * q.guide s) (1000 * g q.goal))

    module _ (one : q.eps ≡ 1000) (settled : SettledAtOne) (supported : AreSupported q.network f.labels.start g v) where
      unsettled_above : (s : ℕ) → s < q.network.states → v s ≢ g s → g q.goal ≤ g s + q.guide s
      unsettled_above s inside differ =
          ⊎_elim
          (λ (opened : is_opened f s ≡ true). absurd (differ (settled q f lawful one kept s opened)))
          (λ (fresh : is_opened f s ≡ false).
          let under = under_nowhere s in
          let over : g s < v s =
          ⊎_elim (λ (same : v s ≡ g s). absurd (differ same)) (λ (apart : v s ≢ g s). omega (arith, under, apart))
          (cases_eq (v s) (g s)) in
          let above = above_goal s inside over fresh in
          let scaled : q.eps * q.guide s ≡ 1000 * q.guide s = rw one refl in
          omega (arith, above, scaled))
          (cases_Bool (is_opened f s))

      tight_at_one : ShowBound q.network f.labels.start q.goal g v q.guide (g q.goal)
      tight_at_one = record {
        supported = supported;
        consistent = lawful.consistent;
        at_goal = omega arith;
        unsettled = unsettled_above;
      }

      none_at_one : ((s : ℕ) → s < q.network.states → q.guide s < 2 ^ 55) → g q.goal ≡ FAR
          → ShowNone q.network f.labels.start q.goal g v
      none_at_one small far = record {
        supported = supported;
        goal_is_far = far;
        closed = λ s inside near.
            ⊎_elim
            (λ (finite : v s < FAR). finite)
            (λ (infinite : FAR ≤ v s).
            let at_most = unsettled_above s inside (λ same. omega (arith, same, near, infinite)) in
            let guide = small s inside in
            let label = (kept.labels.labels s (omega (arith, inside, kept.states))).0 in
            absurd (⊎_elim (λ (is : g s ≡ FAR). omega (arith, is, near))
            (λ (low : g s < 2 ^ 62). omega (arith, low, guide, at_most, far)) label))
            (cases_lt (v s) FAR);
      }

-- ---- a pass

module _ (q : Query) (m : Marks) (before : Counts) (events : List Event) (first last : Frontier) (lawful : IsLawful q)
    (begins : MayBegin q m before)
    (is_first : IsFirst m before first) (are : AreEvents q events first last) (idle : IsIdle last)
    (first_kept : FirstIsKept) (events_keep : EventsKeep) (idle_exact : IdleIsExact) (settled : SettledAtOne)
    (once : EachOpensOnce) (free : CountsAreFree) (marked : OpenedByEvents) (fresh : StartStaysFresh)
    (small : (s : ℕ) → s < q.network.states → q.guide s < 2 ^ 55) where
  kept : IsKept q last
  kept = events_keep q events first last lawful are (first_kept q m before first begins is_first)

  opens : OpensOnce q m before events last
  opens = once q m before events first last lawful begins is_first are

  exact : AreExact q.network last.labels.start (g_of last.labels) (v_of last.labels) (back_of last.labels)
      × AreSupported q.network last.labels.start (g_of last.labels) (v_of last.labels)
  exact = idle_exact q last kept idle

  by_events : (s : ℕ) → is_opened last s ≡ opened_by events s
  by_events = marked q m before events first last is_first are

  -- they make a pass under every budget with room for them
  are_pass : ArePass q events m last.labels
  are_pass counts room = (
    record last { counts = counted_with counts (openings events) },
    record {
      first = record first { counts = counts };
      is_first = record {
        labels = is_first.labels;
        counts = refl;
        marks = is_first.marks;
        none_opened = is_first.none_opened;
        none_ready = is_first.none_ready;
        none_out = is_first.none_out;
        next = is_first.next;
      };
      events_are = free q events first last counts are room;
      labels = refl;
    },
    record { none_ready = idle.none_ready; none_out = idle.none_out },
  )

  pub passed : (end : PassEnd) (old new : State Event) → old.labels ≡ m → new.labels ≡ last.labels → new.actions ≡ events
      → new.goal ≡ old.goal → new.workers ≡ old.workers → AreTakenBelow old.workers events → new.raised ≡ old.raised
      → old.goal ≡ q.goal → (end ≡ Rest → IsRest q last) → (end ≡ Spent → IsOutOfBudget q last)
      → IsPassed epase q old new before last.counts end
  passed end old new from to noted same_goal same_workers seats same_raised goal rest spent = record {
    leads = rw (from, to, noted) are_pass;
    rests = λ is. rw (to, noted) (rest_same by_events q last.labels (rest is).rest);
    goes_on = λ is.
        let out = spent is in
        rw (to, noted) (out.state, open_same by_events q last.labels out.state out.is_open, out.below_goal);
    seated = rw noted seats;
    is_spent = λ is. (spent is).spent;
    counted = rw noted opens.counted;
    each = λ s. rw noted (opens.each s);
    few = rw (noted, from) (omega (arith, opens.few));
    unfinished = λ is. let less = opens.unfinished (spent is) in rw (noted, from) (omega (arith, less));
    unbroken = λ is i u at. rw to (under_nowhere q last lawful kept u);
    none = λ is one far.
        rw (to, goal) (none_at_one q last lawful kept (rest is).rest one settled exact.1 small (rw (← goal, ← to) far));
    tight = λ is one. rw (to, goal) (tight_at_one q last lawful kept (rest is).rest one settled exact.1);
    ready = rw to (record { states = kept.states; exact = exact.0; none_under = kept.none_under; fits = kept.fits });
    supported = rw to exact.1;
    start = rw (to, from) opens.start;
    states = rw (to, from) opens.states;
    goal = same_goal;
    workers = same_workers;
    raised = same_raised;
    fresh = λ was.
        let from_start : g_of first.labels first.labels.start ≡ 0 = rw is_first.labels begins.labels.from_start in
        let at_first : IsStartFresh first.labels = rw (is_first.labels, ← from) was in
        rw to (fresh q events first last are from_start at_first);
  }

-- ---- a pass that the core finished

idle_of : (q : Query) (end : PassEnd) (f : Frontier) → EndsSo q end f → IsIdle f
idle_of q Rest f ends = ends.idle
idle_of q Spent f ends = ends.idle

rest_of : (q : Query) (end : PassEnd) (f : Frontier) → EndsSo q end f → end ≡ Rest → IsRest q f
rest_of q Rest f ends is = ends
rest_of q Spent f ends is = absurd (let no : ⊥ = cc in no)

spent_of : (q : Query) (end : PassEnd) (f : Frontier) → EndsSo q end f → end ≡ Spent → IsOutOfBudget q f
spent_of q Rest f ends is = absurd (let no : ⊥ = cc in no)
spent_of q Spent f ends is = ends

module _ (q : Query) (m left : Marks) (before after : Counts) (keeps : Bool) (log : Log) (end : PassEnd)
    (lawful : IsLawful q) (begins : MayBegin q m before)
    (finished : IsPassFinished q m before keeps left after log end)
    (first_kept : FirstIsKept) (events_keep : EventsKeep) (idle_exact : IdleIsExact) (settled : SettledAtOne)
    (once : EachOpensOnce) (free : CountsAreFree) (marked : OpenedByEvents) (fresh : StartStaysFresh)
    (small : (s : ℕ) → s < q.network.states → q.guide s < 2 ^ 55) where
  pub finished_passed : (old new : State Event) → old.labels ≡ m → new.labels ≡ left → new.actions ≡ log.events
      → new.goal ≡ old.goal → new.workers ≡ old.workers → AreTakenBelow old.workers log.events → new.raised ≡ old.raised
      → old.goal ≡ q.goal → IsPassed epase q old new before after end
  finished_passed old new from to noted same_goal same_workers seats same_raised goal =
      let f = finished.frontier in
      let is = finished.finished in
      let replay = is.replay in
      let by : IsPassed epase q old new before f.counts end =
      passed q m before log.events replay.first f lawful begins replay.begins replay.leads
      (idle_of q end f finished.ends)
      first_kept events_keep idle_exact settled once free marked fresh small end old new from
      (to ∙ is.labels_are) noted same_goal same_workers seats same_raised goal
      (rest_of q end f finished.ends) (spent_of q end f finished.ends)
      in
      subst (λ (c : Counts). IsPassed epase q old new before c end) (sym is.counts_are) by
