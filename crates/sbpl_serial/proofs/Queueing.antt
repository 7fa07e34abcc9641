-- The queue goes on holding the open states.
use Rattle.std.proofs.Common.{◌≡◌, ◌≢◌, ℕ, ◌<◌, ◌≤◌, Bool, true, false, not, ◌||◌, ◌&&◌, ◌⊎◌, nat_eq, Option, Some}
use Rattle.std.proofs.Common.{None, MatchOption, List, [], ◌∷◌, ◌++◌, arith, ⊎_elim, inl, inr, refl, sym, ◌∙◌, ap}
use Rattle.std.proofs.lemmas.Bool.{cases_eq, cases_lt, cases_Bool, or_cases, or_left, or_right, and_parts}
use Rattle.std.proofs.lemmas.Bool.{eq-eqb, ne_eqb, true≢false}
use Rattle.std.proofs.lemmas.List.{get_or_past}
use Rattle.sbpl_search.specs.sbpl_graph.Network.{Network}
use Rattle.sbpl_search.specs.sbpl_labels.declared.row.Row.{Row}
use Rattle.sbpl_search.specs.sbpl_labels.Marks.{Marks, states_of, g_of, v_of, row_at, no_row}
use Rattle.sbpl_open.specs.OpenList.{OpenList, ChangesKey, IsEmpty}
use Rattle.sbpl_open.specs.OpenList as open_list
use Rattle.sbpl_serial.specs.declared.step.Step.{Step}
use Rattle.sbpl_serial.specs.Run.{IsOpen, IsOver, IsUnder, key_at, closed_with, closed_after, none_closed}
use Rattle.sbpl_serial.specs.Queue.{IsQueued, AreQueued, AreQueuedBut, AreRefilled, IsUnplaced, is_among}
use Rattle.sbpl_serial.specs.Serial.{AreWaiting}
use Rattle.sbpl_serial.specs.Relaxed.{LowersHead, IsRelaxed}

-- only states have labels above 0
pub label_inside : (m : Marks) (s x : ℕ) → x < g_of m s → s < states_of m
label_inside m s x above =
    ⊎_elim
    (λ (inside : s < states_of m). inside)
    (λ (past : states_of m ≤ s). absurd (omega (arith, ap (λ (r : Row). r.g) (get_or_past m.rows s no_row past))))
    (cases_lt s (states_of m))

-- a state with the same labels and the same test is open as before
pub open_moved : (closed closed' : ℕ → Bool) (m m' : Marks) (s : ℕ) → states_of m' ≡ states_of m → g_of m' s ≡ g_of m s
    → v_of m' s ≡ v_of m s → closed' s ≡ closed s → IsOpen closed m s → IsOpen closed' m' s
open_moved closed closed' m m' s states same_g same_v same it = record {
  inside = omega (arith, it.inside);
  inconsistent =
      ⊎_elim (λ (under : IsUnder m s). inl (omega arith))
      (λ (over : IsOver m s × (closed s ≡ false)). inr (omega (arith, over.0), same ∙ over.1)) it.inconsistent;
}

or_false : (b : Bool) → (b || false) ≡ b
or_false true = refl
or_false false = refl

-- One more state among those that are looked at.
pub among_push : (steps : List Step) (step : Step) (u : ℕ)
    → is_among (steps ++ step ∷ []) u ≡ is_among steps u || nat_eq step.state u
among_push [] step u = grind arith
among_push (first ∷ rest) step u = grind (arith, among_push rest step u)

among_own : (steps : List Step) (step : Step) (u : ℕ) → u ≡ step.state → is_among (steps ++ step ∷ []) u ≡ true
among_own steps step u at =
    among_push steps step u ∙ or_right (is_among steps u) (nat_eq step.state u) (eq-eqb step.state u (sym at))

among_before : (steps : List Step) (step : Step) (u : ℕ) → u ≢ step.state
    → is_among (steps ++ step ∷ []) u ≡ is_among steps u
among_before steps step u apart =
    among_push steps step u ∙ rw (ne_eqb step.state u (λ e. apart (sym e))) (or_false (is_among steps u))

-- what the steps have closed is among their states
pub among_closed : (closed : ℕ → Bool) (steps : List Step) (s : ℕ) → closed_after closed steps s ≡ true
    → (closed s ≡ true) ⊎ (is_among steps s ≡ true)
among_closed closed [] s is = inl is
among_closed closed (step ∷ rest) s is =
    ⊎_elim
    (λ (before : closed_with step closed s ≡ true).
    ⊎_elim
    (λ (own : (not step.raised && nat_eq step.state s) ≡ true).
    inr (or_left (nat_eq step.state s) (is_among rest s) (and_parts (not step.raised) (nat_eq step.state s) own).1))
    (λ (was : closed s ≡ true). inl was)
    (or_cases (not step.raised && nat_eq step.state s) (closed s) before))
    (λ (later : is_among rest s ≡ true). inr (or_right (nat_eq step.state s) (is_among rest s) later))
    (among_closed (closed_with step closed) rest s is)

module _ (eps : ℕ) (h : ℕ → ℕ) where
  -- what is not open has no key, and what is open has its own
  pub none_queued : (closed : ℕ → Bool) (m : Marks) (s : ℕ) (key : Option (ℕ × ℕ)) → IsQueued eps h closed m s key
      → (IsOpen closed m s → ⊥) → key ≡ None
  none_queued closed m s None queued not_open = refl
  none_queued closed m s (Some key) queued not_open = absurd (not_open queued.0)

  pub some_queued : (closed : ℕ → Bool) (m : Marks) (s : ℕ) (key : Option (ℕ × ℕ)) → IsQueued eps h closed m s key
      → IsOpen closed m s → key ≡ Some (key_at eps h m s)
  some_queued closed m s None queued is_open = absurd (queued is_open)
  some_queued closed m s (Some key) queued is_open = ap Some queued.1

  -- a state with the same labels is in the queue as before, where it is open as before
  queued_moved : (closed closed' : ℕ → Bool) (m m' : Marks) (s : ℕ) (key : Option (ℕ × ℕ)) → g_of m' s ≡ g_of m s
      → v_of m' s ≡ v_of m s → (IsOpen closed m s → IsOpen closed' m' s) → (IsOpen closed' m' s → IsOpen closed m s)
      → IsQueued eps h closed m s key → IsQueued eps h closed' m' s key
  queued_moved closed closed' m m' s None same_g same_v there back queued = λ it. queued (back it)
  queued_moved closed closed' m m' s (Some key) same_g same_v there back queued =
      (there queued.0, rw (same_g, same_v) queued.1)

  -- where nothing of the state has changed
  queued_still : (closed closed' : ℕ → Bool) (m m' : Marks) (s : ℕ) (key : Option (ℕ × ℕ)) → states_of m' ≡ states_of m
      → row_at m' s ≡ row_at m s → closed' s ≡ closed s → IsQueued eps h closed m s key
      → IsQueued eps h closed' m' s key
  queued_still closed closed' m m' s key states row same =
      let same_g : g_of m' s ≡ g_of m s = ap (λ (r : Row). r.g) row in
      let same_v : v_of m' s ≡ v_of m s = ap (λ (r : Row). r.v) row in
      queued_moved closed closed' m m' s key same_g same_v
      (open_moved closed closed' m m' s states same_g same_v same)
      (open_moved closed' closed m' m s (sym states) (sym same_g) (sym same_v) (sym same))

  -- by another test that answers alike
  pub queued_alike : (closed closed' : ℕ → Bool) {m : Marks} {f : OpenList} → ((u : ℕ) → closed' u ≡ closed u)
      → AreQueued eps h closed m f → AreQueued eps h closed' m f
  queued_alike closed closed' {m} {f} same queued = record {
    states = queued.states;
    each = λ u. queued_still closed closed' m m u (open_list.key_at f u) refl refl (same u) (queued.each u);
  }

  -- the labels of t change, or its test
  pub unplaced : (closed closed' : ℕ → Bool) (m m' : Marks) {f : OpenList} (t : ℕ)
      → AreQueued eps h closed m f → t < states_of m
      → states_of m' ≡ states_of m → ((u : ℕ) → u ≢ t → row_at m' u ≡ row_at m u)
      → ((u : ℕ) → u ≢ t → closed' u ≡ closed u)
      → AreQueuedBut eps h closed' m' f t
  unplaced closed closed' m m' {f} t queued inside states rows same = record {
    inside = omega arith;
    states = queued.states ∙ sym states;
    others = λ u apart.
        queued_still closed closed' m m' u (open_list.key_at f u) states (rows u apart) (same u apart) (queued.each u);
  }

  -- one more state is given its key
  pub refilled_more : {m : Marks} {f f' : OpenList} (steps : List Step) (step : Step) (key : Option (ℕ × ℕ))
      → AreRefilled eps h steps m f
      → IsQueued eps h none_closed m step.state key → ChangesKey f f' step.state key
      → AreRefilled eps h (steps ++ step ∷ []) m f'
  refilled_more {m} {f} {f'} steps step key here own change = record {
    states = change.states ∙ here.states;
    among = λ u is.
        ⊎_elim
        (λ (at : u ≡ step.state). rw (at, change.at) own)
        (λ (apart : u ≢ step.state).
        rw (change.others u apart) (here.among u (sym (among_before steps step u apart) ∙ is)))
        (cases_eq u step.state);
    absent = λ u none.
        let apart : u ≢ step.state = λ e. true≢false (sym (among_own steps step u e) ∙ none) in
        change.others u apart ∙ here.absent u (sym (among_before steps step u apart) ∙ none);
  }

  -- the same for a key in another form
  pub refilled_step : {K : Type 0} (pair : K → ℕ × ℕ) {m : Marks} {f f' : OpenList} (steps : List Step)
      (step : Step) (key : Option K)
      → AreRefilled eps h steps m f
      → MatchOption key (IsOpen none_closed m step.state → ⊥)
      (λ k. IsOpen none_closed m step.state × (pair k ≡ key_at eps h m step.state))
      → MatchOption key (ChangesKey f f' step.state None) (λ k. ChangesKey f f' step.state (Some (pair k)))
      → AreRefilled eps h (steps ++ step ∷ []) m f'
  refilled_step pair steps step None here own change = refilled_more steps step None here own change
  refilled_step pair steps step (Some k) here own change = refilled_more steps step (Some (pair k)) here own change

  -- where every state whose g and v differ was among them, the queue holds all open states
  pub refilled_all : {m : Marks} {f : OpenList} (steps : List Step)
      → ((s : ℕ) → IsOpen none_closed m s → is_among steps s ≡ true)
      → AreRefilled eps h steps m f → AreQueued eps h none_closed m f
  refilled_all {m} {f} steps among here = record {
    states = here.states;
    each = λ u.
        ⊎_elim
        (λ is. here.among u is)
        (λ none. rw (here.absent u none) (λ (it : IsOpen none_closed m u). true≢false (sym (among u it) ∙ none)))
        (cases_Bool (is_among steps u));
  }

  -- then no open state is lost
  pub queued_waiting : {closed : ℕ → Bool} {m : Marks} {f : OpenList}
      → AreQueued eps h closed m f → AreWaiting m f closed
  queued_waiting {closed} {m} {f} queued = λ s it.
      let there = some_queued closed m s (open_list.key_at f s) (queued.each s) it in
      rw there refl

-- an arc has lowered its head, or none
pub relaxed_unplaced : {eps : ℕ} {h : ℕ → ℕ} {closed : ℕ → Bool} {m : Marks} {f : OpenList} (n : Network) (m' : Marks)
    (s k : ℕ) (head : Option ℕ) → AreQueued eps h closed m f → IsRelaxed n m m' s k head
    → IsUnplaced eps h closed m' f head
relaxed_unplaced n m' s k None queued relaxed = rw relaxed.0 queued
relaxed_unplaced {eps} {h} {closed} {m} n m' s k (Some t) queued relaxed =
    let by : LowersHead n m m' s k t relaxed.0 = relaxed.1 in
    unplaced eps h closed closed m m' t queued (label_inside m t _ by.lower) by.changed.states
    by.changed.others (λ u apart. refl)
