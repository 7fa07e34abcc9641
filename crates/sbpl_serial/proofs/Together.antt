-- The parts of a search stay together.
use Rattle.std.proofs.Common.{◌≡◌, ◌≢◌, ℕ, ◌*◌, ◌<◌, Bool, true, false, IsSome, List, [], ◌∷◌, ◌++◌, length, arith}
use Rattle.std.proofs.Common.{⊎_elim, inl, inr, sym, ◌∙◌}
use Rattle.std.specs.List.{All}
use Rattle.std.proofs.lemmas.Bool.{cases_Bool, false≢true}
use Rattle.std.proofs.lemmas.List.Elements.{All-nil, All-push}
use Rattle.sbpl_search.specs.sbpl_labels.Marks.{Marks, states_of, g_of, v_of}
use Rattle.sbpl_open.specs.OpenList.{OpenList}
use Rattle.sbpl_open.specs.OpenList as open_list
use Rattle.sbpl_serial.specs.declared.step.Step.{Step}
use Rattle.sbpl_serial.specs.Marked.{closed_at}
use Rattle.sbpl_serial.specs.Queue.{is_among}
use Rattle.sbpl_serial.specs.Run.{IsOpen, IsOver, IsUnder, closed_after, none_closed}
use Rattle.sbpl_serial.specs.Serial.{Room, AreWaiting}
use Rattle.sbpl_serial.proofs.Closing.{closed_after_push}
use Rattle.sbpl_serial.proofs.Opening.{open_alike}
use Rattle.sbpl_serial.proofs.Queueing.{among_closed}
use Rattle.sbpl_serial.specs.Serial.{AreSerialParts}
use Rattle.sbpl_serial.specs.Taken.{step_of}
use Rattle.sbpl_serial.proofs.Noting.{open_apart}

-- every state whose g and v differ is in the queue once the states of the last pass are noted there
pub all_noted : {m : Marks} {closed : ℕ → Bool} (queue queue' : OpenList) (steps : List Step)
    → AreWaiting m queue closed
    → ((s : ℕ) → closed s ≡ closed_after none_closed steps s)
    → ((s : ℕ) → IsSome (open_list.key_at queue s) → IsSome (open_list.key_at queue' s))
    → ((s : ℕ) → is_among steps s ≡ true → g_of m s ≢ v_of m s → IsSome (open_list.key_at queue' s))
    → (s : ℕ) → IsOpen none_closed m s → IsSome (open_list.key_at queue' s)
all_noted {m} {closed} queue queue' steps waiting by_steps kept noted s it =
    ⊎_elim
    (λ (is : closed s ≡ true).
    ⊎_elim
    (λ (none : false ≡ true). absurd (false≢true none))
    (λ (among : is_among steps s ≡ true). noted s among (open_apart it))
    (among_closed none_closed steps s (sym (by_steps s) ∙ is)))
    (λ (fresh : closed s ≡ false).
    kept s
    (waiting s
    (record {
      inside = it.inside;
      inconsistent =
          ⊎_elim (λ (under : IsUnder m s). inl under)
          (λ (over : IsOver m s × (none_closed s ≡ false)). inr (over.0, fresh)) it.inconsistent;
    })))
    (cases_Bool (closed s))

-- before a pass no state is closed
pub together_none : {labels : Marks} {goal : ℕ} {closed : List Bool} {steps : Room} {queue : OpenList}
    → goal < states_of labels
    → length closed ≡ states_of labels → ((s : ℕ) → closed_at closed s ≡ false) → steps.items ≡ []
    → steps.room ≡ 3 * states_of labels → open_list.states_of queue ≡ states_of labels
    → AreWaiting labels queue none_closed
    → AreSerialParts labels goal closed steps queue
together_none {labels} {goal} {closed} {steps} {queue} inside states none empty room queue_states waiting = record {
  goal_inside = inside;
  closed_states = states;
  closed_by_steps = λ s. rw empty (none s);
  steps_inside = rw empty (All-nil (λ (step : Step). step.state < states_of labels));
  enough_room = room;
  queue_states = queue_states;
  waiting = λ s it. waiting s (open_alike (closed_at closed) none_closed none it);
}

-- a state is raised, and nothing is closed
pub raised_by_steps : (closed : ℕ → Bool) (steps : List Step) (s u : ℕ)
    → closed_after closed (steps ++ step_of s true ∷ []) u ≡ closed_after closed steps u
raised_by_steps closed steps s u = closed_after_push closed steps (step_of s true) u

-- one more state is taken
pub together_more : {labels labels' : Marks} {goal : ℕ} {closed closed' : List Bool} {steps steps' : Room}
    {queue queue' : OpenList} (s : ℕ) (raised : Bool)
    → AreSerialParts labels goal closed steps queue → s < states_of labels → states_of labels' ≡ states_of labels
    → length closed' ≡ length closed
    → ((u : ℕ) → closed_at closed' u ≡ closed_after none_closed (steps.items ++ step_of s raised ∷ []) u)
    → steps'.items ≡ steps.items ++ step_of s raised ∷ [] → steps'.room ≡ steps.room
    → open_list.states_of queue' ≡ states_of labels' → AreWaiting labels' queue' (closed_at closed')
    → AreSerialParts labels' goal closed' steps' queue'
together_more {labels} {labels'} {goal} {closed} {closed'} {steps} {steps'} {queue} {queue'} s raised parts inside same
    size by_steps pushed room queue_states waiting =
    let known : All (λ (step : Step). step.state < states_of labels') steps.items = rw same parts.steps_inside in
    let within : s < states_of labels' = omega arith in
    record {
      goal_inside = omega (arith, parts.goal_inside);
      closed_states = size ∙ parts.closed_states ∙ sym same;
      closed_by_steps = λ u. rw pushed (by_steps u);
      steps_inside = rw pushed
          (All-push (λ (step : Step). step.state < states_of labels') steps.items (step_of s raised) known within);
      enough_room = omega (arith, parts.enough_room);
      queue_states = queue_states;
      waiting = waiting;
    }
