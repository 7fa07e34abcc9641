-- Rows of the labels that are needed show what the labels show.
use Rattle.std.proofs.Common.{◌≡◌, ℕ, ◌+◌, ◌<◌, ◌≤◌, sym, ◌∙◌, subst, arith, List}
use Rattle.sbpl_labels.specs.sbpl_graph.Bound.{IsLow}
use Rattle.sbpl_labels.specs.sbpl_graph.Certificate.{AreSupported, IsLabel, ShowBound}
use Rattle.sbpl_labels.specs.sbpl_graph.Laws.{IsConsistent, IsSound}
use Rattle.sbpl_labels.specs.sbpl_graph.Network.{Network}
use Rattle.sbpl_labels.specs.Marks.{Marks, states_of, g_of, v_of}
use Rattle.sbpl_cert.specs.declared.outcome.Outcome.{Outcome}
use Rattle.sbpl_cert.specs.declared.outcome.Outcome.TheVariants as outcome
use Rattle.sbpl_cert.specs.declared.sparse_row.SparseRow.{SparseRow}
use Rattle.sbpl_cert.specs.Cut.{AreCutRows}
use Rattle.sbpl_cert.specs.Sparse.{g_in, v_in}
use Rattle.sbpl_cert.proofs.CutShows.{cut_shows}

-- other labels that are the same at the states show the same
same_show : (n : Network) (start goal low : ℕ) (g v g' v' h : ℕ → ℕ) → IsSound n → start < n.states → goal < n.states
    → ((s : ℕ) → s < n.states → (g' s ≡ g s) × (v' s ≡ v s))
    → ShowBound n start goal g v h low → ShowBound n start goal g' v' h low
same_show n start goal low g v g' v' h sound begins inside same shown = record {
  supported = record {
    labels = λ s state. (
      subst IsLabel (sym (same s state).0) (shown.supported.labels s state).0,
      subst IsLabel (sym (same s state).1) (shown.supported.labels s state).1,
    );
    from_start = (same start begins).0 ∙ shown.supported.from_start;
    along = λ s k t c arc near.
        let at = (same t (sound.head_is_state s k t arc.source arc.number arc.head)).0 in
        let from = (same s arc.source).1 in
        let most : g t ≤ v s + c = shown.supported.along s k t c arc (omega (arith, from, near)) in
        omega (arith, at, from, most);
  };
  consistent = shown.consistent;
  at_goal = omega (arith, (same goal inside).0, shown.at_goal);
  unsettled = λ s state differ.
      let g_is = (same s state).0 in
      let v_is = (same s state).1 in
      let most : low ≤ g s + h s = shown.unsettled s state (λ settled. differ (v_is ∙ settled ∙ sym g_is)) in
      omega (arith, g_is, most);
}

-- the labels that are needed for an outcome show the bound that all labels show
needed_show : (o : Outcome) (n : Network) (m : Marks) (h : ℕ → ℕ) (goal low : ℕ) (rows : List SparseRow) → IsSound n
    → m.start < n.states → goal < n.states → AreCutRows o n m h low rows
    → ShowBound n m.start goal (g_of m) (v_of m) h low → ShowBound n m.start goal (g_in rows) (v_in rows) h low
needed_show outcome.NoPath n m h goal low rows sound begins inside cut shown =
    same_show n m.start goal low (g_of m) (v_of m) (g_in rows) (v_in rows) h sound begins inside cut.needed shown
needed_show (outcome.Path cost bound) n m h goal low rows sound begins inside cut shown =
    cut_shows n m.start goal low (g_of m) (v_of m) h (g_in rows) (v_in rows) sound begins inside shown cut.needed
needed_show outcome.Unknown n m h goal low rows sound begins inside cut shown =
    cut_shows n m.start goal low (g_of m) (v_of m) h (g_in rows) (v_in rows) sound begins inside shown cut.needed

-- supported labels show the low that they give, and so do the labels that are needed
pub cut_rows_show : (o : Outcome) (n : Network) (m : Marks) (h : ℕ → ℕ) (goal low : ℕ) (rows : List SparseRow)
    → states_of m ≡ n.states → IsSound n → m.start < n.states → goal < n.states
    → AreCutRows o n m h low rows → IsLow (states_of m) goal (g_of m) (v_of m) h low → IsConsistent n goal h
    → AreSupported n m.start (g_of m) (v_of m)
    → ShowBound n m.start goal (g_in rows) (v_in rows) h low
cut_rows_show o n m h goal low rows same sound begins inside cut lowest consistent supported =
    needed_show o n m h goal low rows sound begins inside cut (record {
      supported = supported;
      consistent = consistent;
      at_goal = lowest.at_goal;
      unsettled = λ s state. lowest.unsettled s (subst (λ (count : ℕ). s < count) (sym same) state);
    })
