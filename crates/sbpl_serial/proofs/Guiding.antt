-- What a run keeps of labels, and where it asks its guide.
use Rattle.std.proofs.Common.{◌≡◌, ℕ, ◌<◌, Bool, true, false, MatchBool, None, List, [], ◌∷◌, refl, sym, ap, subst, ◌∙◌}
use Rattle.sbpl_search.specs.sbpl_graph.Network.{Network}
use Rattle.sbpl_search.specs.sbpl_labels.Marks.{Marks, states_of, g_of, v_of, back_of}
use Rattle.sbpl_open.specs.KeyOrder.{IsBelow}
use Rattle.sbpl_serial.specs.declared.step.Step.{Step}
use Rattle.sbpl_serial.specs.Keys.{key_of}
use Rattle.sbpl_search.specs.Query.{Query}
use Rattle.sbpl_serial.specs.Run.{IsNext, IsAtRest, IsSerialRun, IsExpansion, LowersHeads}
use Rattle.sbpl_serial.specs.Run.{RaisesState, goal_key_at, closed_with}
use Rattle.sbpl_serial.specs.Determined.{GuideAtStates}

-- the start, the number of states and the start's back arc stay
pub record StaysPlaced (old new : Marks) : Type 0 where
  pub start : new.start ≡ old.start
  pub states : states_of new ≡ states_of old
  pub no_arc : back_of old old.start ≡ None → back_of new new.start ≡ None

-- over a step
step_placed_by : (n : Network) (old new : Marks) (s : ℕ) (r : Bool)
    → MatchBool r (RaisesState n old new s) (LowersHeads n old new s) → StaysPlaced old new
step_placed_by n old new s true step = record {
  start = step.same_start;
  states = step.same_states;
  no_arc = λ none. rw step.same_start (step.other_back old.start (λ apart. absurd (apart refl)) ∙ none);
}
step_placed_by n old new s false step = record {
  start = step.same_start;
  states = step.same_states;
  no_arc = λ none. rw step.same_start (step.start_back ∙ none);
}

step_placed : (n : Network) (old new : Marks) (x : Step) → IsExpansion n old x new → StaysPlaced old new
step_placed n old new x step = step_placed_by n old new x.state x.raised step

-- over a run
pub run_placed : (q : Query) (closed : ℕ → Bool) (steps : List Step) (old new : Marks)
    → IsSerialRun q closed steps old new → StaysPlaced old new
run_placed q closed [] old new run =
    record { start = ap (λ (m : Marks). m.start) run; states = ap states_of run; no_arc = λ none. rw run none }
run_placed q closed (x ∷ xs) old new run =
    let first = step_placed q.network old run.0 x run.2 in
    let rest = run_placed q (closed_with x closed) xs run.0 new run.3 in
    record {
      start = rest.start ∙ first.start;
      states = rest.states ∙ first.states;
      no_arc = λ none. rest.no_arc (first.no_arc none);
    }

-- another guide that agrees at states
abbrev pub AgreesAtStates : (h h' : ℕ → ℕ) → Marks → Type 0
AgreesAtStates h h' m = (s : ℕ) → s < states_of m → h s ≡ h' s

module _ (q : Query) (h : ℕ → ℕ) (closed : ℕ → Bool) (m : Marks) (same : AgreesAtStates h q.guide m) where
  key_below : (s : ℕ) → s < states_of m → (goal : ℕ × ℕ) → IsBelow (key_of q.eps (g_of m s) (v_of m s) (q.guide s)) goal
      → IsBelow (key_of q.eps (g_of m s) (v_of m s) (h s)) goal
  key_below s inside goal below = rw (same s inside) below

  next_guided : (s : ℕ) → IsNext q closed m s → IsNext (record q { guide = h }) closed m s
  next_guided s next = record {
    is_open = next.is_open;
    below_goal = key_below s next.is_open.inside (goal_key_at q m) next.below_goal;
    first = λ u open_u apart. rw (same s next.is_open.inside, same u open_u.inside) (next.first u open_u apart);
  }

-- what is next under the one guide is next under the other
pub guided_next : (q : Query) (h : ℕ → ℕ) (closed : ℕ → Bool) (m : Marks) → AgreesAtStates h q.guide m → (s : ℕ)
    → IsNext q closed m s → IsNext (record q { guide = h }) closed m s
guided_next q h closed m same s next = next_guided q h closed m same s next

-- and so is rest
pub guided_rest : (q : Query) (h : ℕ → ℕ) (closed : ℕ → Bool) (m : Marks) → AgreesAtStates h q.guide m
    → IsAtRest q closed m → IsAtRest (record q { guide = h }) closed m
guided_rest q h closed m same rest = record {
  none_below = λ s open_s below.
      rest.none_below s open_s (key_below (record q { guide = h }) q.guide closed m (λ u inside. sym (same u inside)) s
      open_s.inside (goal_key_at q m) below);
}

guided_run : (q : Query) (h : ℕ → ℕ) (steps : List Step) (closed : ℕ → Bool) (old new : Marks)
    → AgreesAtStates h q.guide old → IsSerialRun q closed steps old new
    → IsSerialRun (record q { guide = h }) closed steps old new
guided_run q h [] closed old new same run = run
guided_run q h (x ∷ xs) closed old new same run =
    let placed = step_placed q.network old run.0 x run.2 in
    let later : AgreesAtStates h q.guide run.0 =
    λ s inside. same s (subst (λ (count : ℕ). s < count) placed.states inside) in (
      run.0,
      next_guided q h closed old same x.state run.1,
      run.2,
      guided_run q h xs (closed_with x closed) run.0 new later run.3,
    )

pub guide_at_states : GuideAtStates
guide_at_states q h closed steps old new same run = guided_run q h steps closed old new same run
