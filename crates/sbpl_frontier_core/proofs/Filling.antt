-- The queue is filled with the states that wait.
use Rattle.std.proofs.Common.{◌≡◌, ◌≢◌, ℕ, ◌<◌, ◌≤◌, false, Option, Some, None, IsSome, List, [], ◌∷◌, ◌++◌, arith}
use Rattle.std.proofs.Common.{⊎_elim, inr, refl, sym, ◌∙◌, ap}
use Rattle.std.specs.List.{Contains}
use Rattle.std.proofs.lemmas.Bool.{cases_eq, cases_lt, false≢true}
use Rattle.std.proofs.lemmas.List.{get_or_past}
use Rattle.std.proofs.lemmas.List.Elements.{Contains-push_cases}
use Rattle.std.proofs.lemmas.Option.{none-some, same_Some}
use Rattle.sbpl_frontier_rules.specs.sbpl_graph.Kept.{NoneUnder}
use Rattle.sbpl_frontier_rules.specs.sbpl_labels.Marks.{AreInitial, Marks, g_of, states_of, v_of}
use Rattle.sbpl_frontier_rules.specs.sbpl_open.OpenList.{ChangesKey, IsEmpty, OpenList}
use Rattle.sbpl_frontier_rules.specs.sbpl_open.OpenList as open_list
use Rattle.sbpl_frontier_rules.specs.sbpl_serial.Queue.{AreQueued, IsQueued}
use Rattle.sbpl_frontier_rules.specs.sbpl_serial.Run.{IsOpen, IsOver, IsUnder, key_at, none_closed}
use Rattle.sbpl_frontier_core.specs.Waiting.{AreFilled, HoldsOver, Waiting, Waits}

-- a state of the queue has a number below theirs
pub key_inside : (f : OpenList) (s : ℕ) → IsSome (open_list.key_at f s) → s < open_list.states_of f
key_inside f s is =
    ⊎_elim
    (λ (inside : s < open_list.states_of f). inside)
    (λ (past : open_list.states_of f ≤ s). absurd (false≢true (rw (get_or_past f.keys s None past) at is)))
    (cases_lt s (open_list.states_of f))

-- an open state with its key, and nothing else
queued_by : (eps : ℕ) (h : ℕ → ℕ) (m : Marks) (s : ℕ) (key : Option (ℕ × ℕ))
    → ((k : ℕ × ℕ) → key ≡ Some k → IsOpen none_closed m s × (k ≡ key_at eps h m s))
    → (IsOpen none_closed m s → key ≡ Some (key_at eps h m s)) → IsQueued eps h none_closed m s key
queued_by eps h m s None right there = λ it. none-some (key_at eps h m s) (there it)
queued_by eps h m s (Some key) right there = right key refl

-- of initial labels only the start is overconsistent
pub initial_held : (w : Waiting) (m : Marks) (count start : ℕ) → open_list.states_of w.queue ≡ count → Waits w start
    → AreInitial m count start → HoldsOver w m
initial_held w m count start size waits initial = record {
  states = size ∙ sym initial.states;
  over = λ s inside over.
      ⊎_elim
      (λ (at : s ≡ start). rw at waits)
      (λ (apart : s ≢ start).
      let within : s < count = omega (arith, initial.states) in
      absurd (omega (arith, initial.far_g s within apart, initial.far_v s within)))
      (cases_eq s start);
}

module _ {eps : ℕ} {h : ℕ → ℕ} {m : Marks} where
  pub filled_none : {f : OpenList} → open_list.states_of f ≡ states_of m → IsEmpty f → AreFilled eps h m [] f
  filled_none {f} states empty = record {
    size = states;
    right = λ s key there. absurd (none-some key (sym (empty.none s) ∙ there));
    there = λ s among over. absurd (omega (arith, among.1));
  }

  -- an overconsistent state is put
  pub filled_put : {f f' : OpenList} (states : List ℕ) (s : ℕ) (own : ℕ × ℕ) → AreFilled eps h m states f
      → s < states_of m → IsOver m s
      → own ≡ key_at eps h m s → ChangesKey f f' s (Some own) → AreFilled eps h m (states ++ s ∷ []) f'
  filled_put {f} {f'} states s own here inside over is change =
      let is_open : IsOpen none_closed m s = record { inside = inside; inconsistent = inr (over, refl) } in
      let at : open_list.key_at f' s ≡ Some (key_at eps h m s) = change.at ∙ ap Some is in
      record {
        size = change.states ∙ here.size;
        right = λ u key there.
            ⊎_elim
            (λ (same : u ≡ s).
            let key_is : key_at eps h m s ≡ key =
            same_Some (key_at eps h m s) key (sym at ∙ sym (ap (open_list.key_at f') same) ∙ there) in
            rw same (is_open, sym key_is))
            (λ (apart : u ≢ s). here.right u key (sym (change.others u apart) ∙ there))
            (cases_eq u s);
        there = λ u among over_u.
            ⊎_elim
            (λ (same : u ≡ s). rw same at)
            (λ (apart : u ≢ s).
            change.others u apart ∙ here.there u (⊎_elim (λ before. before)
            (λ (last : s ≡ u). absurd (apart (sym last))) (Contains-push_cases states s u among)) over_u)
            (cases_eq u s);
      }

  -- any other is left
  pub filled_left : {f : OpenList} (states : List ℕ) (s : ℕ) → AreFilled eps h m states f → v_of m s ≤ g_of m s
      → AreFilled eps h m (states ++ s ∷ []) f
  filled_left {f} states s here not_over = record {
    size = here.size;
    right = here.right;
    there = λ u among over.
        here.there u
        (⊎_elim (λ before. before) (λ (last : s ≡ u). let same : IsOver m s = rw last over in absurd (omega arith))
        (Contains-push_cases states s u among)) over;
  }

  -- where all overconsistent states were among them, the queue holds the open states
  pub filled_all : {f : OpenList} (states : List ℕ) → AreFilled eps h m states f
      → NoneUnder (states_of m) (g_of m) (v_of m)
      → ((s : ℕ) → s < states_of m → IsOver m s → Contains states s) → AreQueued eps h none_closed m f
  filled_all {f} states here none_under all = record {
    states = here.size;
    each = λ s.
        queued_by eps h m s (open_list.key_at f s) (here.right s)
        (λ it.
        let over : IsOver m s =
        ⊎_elim (λ (under : IsUnder m s). absurd (omega (arith, none_under.at s it.inside)))
        (λ (over : IsOver m s × (none_closed s ≡ false)). over.0) it.inconsistent in
        here.there s (all s it.inside over) over);
  }
