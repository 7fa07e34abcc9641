-- The queue while the labels of one state have changed.
use Rattle.std.proofs.Common.{◌≡◌, ◌≢◌, ℕ, ◌<◌, ◌≤◌, Bool, true, false, Option, Some, None, List, slice_set, arith}
use Rattle.std.proofs.Common.{⊎_elim, inl, inr, refl, sym, ◌∙◌, ap}
use Rattle.std.proofs.lemmas.Bool.{cases_lt}
use Rattle.std.proofs.lemmas.List.{get_or-set_other, get_or_past}
use Rattle.sbpl_frontier_rules.specs.sbpl_graph.Network.{Network}
use Rattle.sbpl_frontier_rules.specs.sbpl_labels.declared.row.Row.{Row}
use Rattle.sbpl_frontier_rules.specs.sbpl_labels.Marks.{ChangesRow, Marks, g_of, no_row, row_at, states_of, v_of}
use Rattle.sbpl_frontier_rules.specs.sbpl_open.OpenList.{OpenList}
use Rattle.sbpl_frontier_rules.specs.sbpl_open.OpenList as open_list
use Rattle.sbpl_frontier_rules.specs.sbpl_serial.Marked.{closed_at}
use Rattle.sbpl_frontier_rules.specs.sbpl_serial.Queue.{AreQueued, AreQueuedBut, IsQueued, IsUnplaced}
use Rattle.sbpl_frontier_rules.specs.sbpl_serial.Relaxed.{IsRelaxed}
use Rattle.sbpl_frontier_rules.specs.sbpl_serial.Run.{IsOpen, IsOver, IsUnder}

-- a state with the same labels and the same mark is open as before
open_still : (closed closed' : ℕ → Bool) (m m' : Marks) (s : ℕ) → states_of m' ≡ states_of m
    → g_of m' s ≡ g_of m s → v_of m' s ≡ v_of m s
    → closed' s ≡ closed s → IsOpen closed m s → IsOpen closed' m' s
open_still closed closed' m m' s states same_g same_v same it = record {
  inside = omega (arith, it.inside);
  inconsistent =
      ⊎_elim
      (λ (under : IsUnder m s). inl (omega arith))
      (λ (over : IsOver m s × (closed s ≡ false)). inr (omega (arith, over.0), same ∙ over.1))
      it.inconsistent;
}

module _ (eps : ℕ) (h : ℕ → ℕ) where
  -- and is in the queue as before
  queued_still : (closed closed' : ℕ → Bool) (m m' : Marks) (s : ℕ) (key : Option (ℕ × ℕ))
      → states_of m' ≡ states_of m → g_of m' s ≡ g_of m s
      → v_of m' s ≡ v_of m s → closed' s ≡ closed s → IsQueued eps h closed m s key → IsQueued eps h closed' m' s key
  queued_still closed closed' m m' s None states same_g same_v same queued =
      λ it. queued (open_still closed' closed m' m s (sym states) (sym same_g) (sym same_v) (sym same) it)
  queued_still closed closed' m m' s (Some key) states same_g same_v same queued =
      (open_still closed closed' m m' s states same_g same_v same queued.0, rw (same_g, same_v) queued.1)

  -- so are all but the one whose labels have changed
  queued_but : (closed closed' : ℕ → Bool) (m m' : Marks) (f : OpenList) (t : ℕ)
      → AreQueued eps h closed m f → t < states_of m
      → states_of m' ≡ states_of m → ((u : ℕ) → u ≢ t → row_at m' u ≡ row_at m u)
      → ((u : ℕ) → u ≢ t → closed' u ≡ closed u)
      → AreQueuedBut eps h closed' m' f t
  queued_but closed closed' m m' f t queued inside states rows same = record {
    inside = omega arith;
    states = queued.states ∙ sym states;
    others = λ u apart.
        queued_still closed closed' m m' u (open_list.key_at f u) states (ap (λ (r : Row). r.g) (rows u apart))
        (ap (λ (r : Row). r.v) (rows u apart))
        (same u apart) (queued.each u);
  }

  -- a state was settled and is opened
  pub opened_unplaced : (opened opened' : List Bool) (m m' : Marks) (f : OpenList) (s : ℕ) (row : Row)
      → AreQueued eps h (closed_at opened) m f
      → s < states_of m → ChangesRow m m' s row → opened' ≡ slice_set opened s true
      → AreQueuedBut eps h (closed_at opened') m' f s
  opened_unplaced opened opened' m m' f s row queued inside change marked =
      queued_but (closed_at opened) (closed_at opened') m m' f s queued inside change.states change.others
      (λ u apart. ap (λ (marks : List Bool). closed_at marks u) marked ∙ get_or-set_other opened s u true false apart)

  -- an arc has lowered its head, or none
  pub relaxed_unplaced : (n : Network) (closed : ℕ → Bool) (m m' : Marks) (f : OpenList) (s k : ℕ) (head : Option ℕ)
      → AreQueued eps h closed m f
      → IsRelaxed n m m' s k head → IsUnplaced eps h closed m' f head
  relaxed_unplaced n closed m m' f s k None queued relaxed = rw relaxed.0 queued
  relaxed_unplaced n closed m m' f s k (Some t) queued relaxed =
      let by = relaxed.1 in
      let inside : t < states_of m =
      ⊎_elim
      (λ (within : t < states_of m). within)
      (λ (past : states_of m ≤ t).
      absurd (omega (arith, by.lower, ap (λ (r : Row). r.g) (get_or_past m.rows t no_row past))))
      (cases_lt t (states_of m)) in
      queued_but closed closed m m' f t queued inside by.changed.states by.changed.others (λ u apart. refl)
