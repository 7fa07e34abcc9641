-- The states that a pass begins with are found.
use Rattle.std.proofs.Common.{◌≡◌, ◌≢◌, ℕ, ◌+◌, ◌<◌, ◌≤◌, true, false, Bool, nat_eq, Some, None, IsSome, List, [], ◌∷◌}
use Rattle.std.proofs.Common.{◌++◌, length, arith, ⊎_elim, inl, inr, refl, sym, ◌∙◌, ap, length-append, append_assoc}
use Rattle.std.specs.List.{All}
use Rattle.std.proofs.lemmas.Bool.{cases_eq, cases_lt, cases_Bool, or_left, or_right, eq-eqb, false≢true}
use Rattle.std.proofs.lemmas.List.{get_or_past}
use Rattle.std.proofs.lemmas.List.Elements.{All-push}
use Rattle.sbpl_search.specs.sbpl_labels.Marks.{Marks, AreInitial}
use Rattle.sbpl_open.specs.declared.entry.Entry.{Entry}
use Rattle.sbpl_open.specs.Entries.{state_at}
use Rattle.sbpl_open.specs.OpenList.{OpenList, ChangesKey}
use Rattle.sbpl_open.specs.OpenList as open_list
use Rattle.sbpl_serial.specs.declared.step.Step.{Step}
use Rattle.sbpl_serial.specs.Run.{IsOpen, IsOver, IsUnder, none_closed, closed_after}
use Rattle.sbpl_serial.specs.Queue.{is_among, AddsOpen}
use Rattle.sbpl_serial.specs.Serial.{Room, AreWaiting}
use Rattle.sbpl_serial.proofs.Closing.{lowers}
use Rattle.sbpl_serial.proofs.Queueing.{among_push, among_closed}

-- the steps hold the states of the first entries besides what they held
pub record IsGathering (f : OpenList) (queued : List Entry) (old now : Room) (i : ℕ) : Type 0 where
  pub room : now.room ≡ old.room
  pub longer : length now.items ≡ length old.items + i
  pub inside : All (λ step. step.state < open_list.states_of f) now.items
  pub kept : (s : ℕ) → is_among old.items s ≡ true → is_among now.items s ≡ true
  pub gathered : (j : ℕ) → j < i → is_among now.items (state_at queued j) ≡ true
  pub added : AddsOpen f old.items now.items

-- a state of the queue has a number below theirs
pub queued_inside : (f : OpenList) (s : ℕ) → IsSome (open_list.key_at f s) → s < open_list.states_of f
queued_inside f s is =
    ⊎_elim
    (λ (inside : s < open_list.states_of f). inside)
    (λ (past : open_list.states_of f ≤ s). absurd (false≢true (rw (get_or_past f.keys s None past) at is)))
    (cases_lt s (open_list.states_of f))

-- one open state more
adds_more : (f : OpenList) (old now : List Step) (s : ℕ) → AddsOpen f old now → IsSome (open_list.key_at f s)
    → AddsOpen f old (now ++ lowers s ∷ [])
adds_more f old now s so queued = record {
  more = so.more ++ lowers s ∷ [];
  added = ap (λ (steps : List Step). steps ++ lowers s ∷ []) so.added ∙ append_assoc old so.more (lowers s ∷ []);
  are_open = All-push (λ (step : Step). IsSome (open_list.key_at f step.state)) so.more (lowers s) so.are_open queued;
  none_raised = All-push (λ (step : Step). step.raised ≡ false) so.more (lowers s) so.none_raised refl;
}

pub gathering_more : (f : OpenList) (queued : List Entry) (old now now' : Room) (i : ℕ) → IsGathering f queued old now i
    → IsSome (open_list.key_at f (state_at queued i))
    → now'.items ≡ now.items ++ lowers (state_at queued i) ∷ [] → now'.room ≡ now.room
    → IsGathering f queued old now' (i + 1)
gathering_more f queued old now now' i here is pushed room =
    let step = lowers (state_at queued i) in
    record {
      room = room ∙ here.room;
      longer = omega (arith, ap length pushed ∙ length-append now.items (step ∷ []), here.longer);
      inside =
          rw pushed (All-push (λ (step : Step). step.state < open_list.states_of f) now.items step here.inside
          (queued_inside f (state_at queued i) is));
      kept = λ s was.
          rw pushed (among_push now.items step s
          ∙ or_left (is_among now.items s) (nat_eq (state_at queued i) s) (here.kept s was));
      gathered = λ j below.
          let state = state_at queued j in
          ⊎_elim
          (λ (before : j < i).
          rw pushed (among_push now.items step state
          ∙ or_left (is_among now.items state) (nat_eq (state_at queued i) state) (here.gathered j before)))
          (λ (after : i ≤ j).
          let at : j ≡ i = omega arith in
          let same : nat_eq (state_at queued i) state ≡ true = eq-eqb _ _ (sym (ap (state_at queued) at)) in
          rw pushed (among_push now.items step state
          ∙ or_right (is_among now.items state) (nat_eq (state_at queued i) state) same))
          (cases_lt j i);
      added = rw pushed (adds_more f old.items now.items (state_at queued i) here.added is);
    }

-- every state whose g and v differ is among the steps of the last pass and what its queue held
pub all_gathered : {m : Marks} {closed : ℕ → Bool} (queue : OpenList) (steps items : List Step)
    → AreWaiting m queue closed
    → ((s : ℕ) → closed s ≡ closed_after none_closed steps s)
    → ((s : ℕ) → is_among steps s ≡ true → is_among items s ≡ true)
    → ((s : ℕ) → IsSome (open_list.key_at queue s) → is_among items s ≡ true) → (s : ℕ) → IsOpen none_closed m s
    → is_among items s ≡ true
all_gathered {m} {closed} queue steps items waiting by_steps kept gathered s it =
    ⊎_elim
    (λ (is : closed s ≡ true).
    ⊎_elim
    (λ (none : false ≡ true). absurd (false≢true none))
    (λ (among : is_among steps s ≡ true). kept s among)
    (among_closed none_closed steps s (sym (by_steps s) ∙ is)))
    (λ (fresh : closed s ≡ false).
    gathered s
    (waiting s
    (record {
      inside = it.inside;
      inconsistent =
          ⊎_elim (λ (under : IsUnder m s). inl under)
          (λ (over : IsOver m s × (none_closed s ≡ false)). inr (over.0, fresh)) it.inconsistent;
    })))
    (cases_Bool (closed s))

-- of opened labels the start alone is open
pub opened_waiting : {m : Marks} {f f' : OpenList} (closed : ℕ → Bool) (count first s : ℕ) (key : ℕ × ℕ)
    → AreInitial m count first → s ≡ first
    → ChangesKey f f' s (Some key) → AreWaiting m f' closed
opened_waiting {m} {f} {f'} closed count first s key opened at change = λ u it.
    ⊎_elim
    (λ (own : u ≡ s). rw (own, change.at) refl)
    (λ (apart : u ≢ s).
    let inside : u < count = omega (arith, it.inside, opened.states) in
    let far_g = opened.far_g u inside (λ e. apart (e ∙ sym at)) in
    let far_v = opened.far_v u inside in
    ⊎_elim
    (λ (under : IsUnder m u). absurd (omega arith))
    (λ (over : IsOver m u × (closed u ≡ false)). absurd (omega (arith, over.0)))
    it.inconsistent)
    (cases_eq u s)
