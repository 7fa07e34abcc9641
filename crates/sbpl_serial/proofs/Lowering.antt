-- The low, state by state.
use Rattle.std.proofs.Common.{◌≡◌, ◌≢◌, ℕ, suc, ◌+◌, ◌<◌, ◌≤◌, ◌⊎◌, Bool, true, false, nat_eq, List, [], ◌∷◌}
use Rattle.std.proofs.Common.{slice_index_or, length, arith, ⊎_elim, inl, inr, sym, ◌∙◌, ap}
use Rattle.std.proofs.lemmas.Bool.{cases_Bool, cases_eq, cases_lt, false≢true, eqb-true, or_cases}
use Rattle.sbpl_search.specs.sbpl_graph.Bound.{IsLow}
use Rattle.sbpl_search.specs.sbpl_labels.Marks.{Marks, states_of, g_of, v_of}
use Rattle.sbpl_serial.specs.declared.step.Step.{Step}
use Rattle.sbpl_open.specs.OpenList.{OpenList}
use Rattle.sbpl_serial.specs.Low.{IsLowOf, IsInEither}
use Rattle.sbpl_serial.specs.Queue.{is_among}
use Rattle.sbpl_serial.specs.Run.{none_closed, closed_after}
use Rattle.sbpl_serial.specs.Serial.{AreWaiting}
use Rattle.sbpl_serial.proofs.Queueing.{among_closed}

-- the states that a list has below a place
abbrev pub IsBefore : (ℕ → ℕ) → ℕ → ℕ → Type 0
IsBefore at k s = (i : ℕ) × (i < k) × (at i ≡ s)

module _ {m : Marks} {goal : ℕ} {h : ℕ → ℕ} where
  -- nothing is looked at yet
  pub low_none : (at : ℕ → ℕ) (low : ℕ) → low ≡ g_of m goal → IsLowOf m goal h (IsBefore at 0) low
  low_none at low is = record {
    at_goal = omega arith;
    unsettled = λ s (i, below, _) _. absurd (omega arith);
    greatest = λ x most _. omega arith;
  }

  -- one more state is looked at
  pub low_more : {among : ℕ → Type 0} {low low' s : ℕ} → IsLowOf m goal h among low → s < states_of m → low' ≤ low
      → (v_of m s ≢ g_of m s → low' ≤ g_of m s + h s)
      → ((x : ℕ) → x ≤ low → (v_of m s ≢ g_of m s → x ≤ g_of m s + h s) → x ≤ low')
      → IsLowOf m goal h (λ u. among u ⊎ (u ≡ s)) low'
  low_more {among} {low} {low'} {s} was inside falls own greatest = record {
    at_goal = omega (arith, was.at_goal);
    unsettled = λ u told differ.
        ⊎_elim
        (λ (before : among u). omega (arith, was.unsettled u before differ))
        (λ (is : u ≡ s). rw is (own (rw (← is) differ)))
        told;
    greatest = λ x most each. greatest x (was.greatest x most each) (each s inside);
  }

  -- the same for other states, all of which were looked at
  pub low_same : {among among' : ℕ → Type 0} {low : ℕ} → IsLowOf m goal h among low → ((s : ℕ) → among' s → among s)
      → IsLowOf m goal h among' low
  low_same was told = record {
    at_goal = was.at_goal;
    unsettled = λ s it differ. was.unsettled s (told s it) differ;
    greatest = was.greatest;
  }

  -- all states whose g and v differ were looked at
  pub low_of_all : {among : ℕ → Type 0} {low : ℕ} → IsLowOf m goal h among low
      → ((s : ℕ) → s < states_of m → v_of m s ≢ g_of m s → among s)
      → IsLow (states_of m) goal (g_of m) (v_of m) h low
  low_of_all was all = record {
    at_goal = was.at_goal;
    unsettled = λ s inside differ. was.unsettled s (all s inside differ) differ;
    greatest = was.greatest;
  }

-- what stands below the next place stands below this one or here
pub before_next : (at : ℕ → ℕ) (k s : ℕ) → IsBefore at (k + 1) s → IsBefore at k s ⊎ (s ≡ at k)
before_next at k s (i, below, is) =
    ⊎_elim
    (λ (here : i ≡ k). inr (sym is ∙ ap at here))
    (λ (apart : i ≢ k). inl (i, omega arith, is))
    (cases_eq i k)

-- the state of a step of a list
abbrev pub step_state : List Step → ℕ → ℕ
step_state steps i = (slice_index_or steps i (record { state = 0; raised = false })).state

-- a state among those of the steps stands at a place
pub among_before : (steps : List Step) (s : ℕ) → is_among steps s ≡ true → IsBefore (step_state steps) (length steps) s
among_before [] s none = absurd (false≢true none)
among_before (step ∷ rest) s is =
    ⊎_elim
    (λ (own : nat_eq step.state s ≡ true). (0, omega arith, eqb-true _ _ own))
    (λ (further : is_among rest s ≡ true). let (i, below, at) = among_before rest s further in (suc i, omega arith, at))
    (or_cases _ _ is)

-- a state whose g and v differ is in the queue, or among the steps that have closed it
pub in_either : {m : Marks} {closed : ℕ → Bool} (queue : OpenList) (steps : List Step) → AreWaiting m queue closed
    → ((s : ℕ) → closed s ≡ closed_after none_closed steps s) → (s : ℕ) → s < states_of m → v_of m s ≢ g_of m s
    → IsInEither queue steps s
in_either {m} {closed} queue steps waiting by_steps s inside differ =
    ⊎_elim
    (λ (is : closed s ≡ true).
    ⊎_elim
    (λ (none : false ≡ true). absurd (false≢true none))
    (λ (among : is_among steps s ≡ true). inr among)
    (among_closed none_closed steps s (sym (by_steps s) ∙ is)))
    (λ (fresh : closed s ≡ false).
    inl
    (waiting s
    (record {
      inside = inside;
      inconsistent =
          ⊎_elim (λ (over : g_of m s < v_of m s). inr (over, fresh))
          (λ (under : v_of m s ≤ g_of m s). inl (omega (arith, differ))) (cases_lt (g_of m s) (v_of m s));
    })))
    (cases_Bool (closed s))
