-- Rows that are made of labels show what the labels show.
use Rattle.std.proofs.Common.{◌≡◌, ℕ, ◌+◌, ◌<◌, ◌≤◌, sym, ◌∙◌, ap, subst, arith}
use Rattle.sbpl_labels.specs.sbpl_graph.Bound.{IsLow}
use Rattle.sbpl_labels.specs.sbpl_graph.Certificate.{AreSupported, IsLabel, ShowBound}
use Rattle.sbpl_labels.specs.sbpl_graph.Laws.{IsConsistent, IsSound}
use Rattle.sbpl_labels.specs.sbpl_graph.Network.{Network, IsFreeArc}
use Rattle.sbpl_labels.specs.Marks.{Marks, states_of, g_of, v_of}
use Rattle.sbpl_cert.specs.declared.row.Row.{Row}
use Rattle.sbpl_cert.specs.Made.{HaveRows}
use Rattle.sbpl_cert.specs.Sections.{g_at, v_at, h_at}
use Rattle.std.specs.Prelude.{List}

module _ (n : Network) (m : Marks) (h : ℕ → ℕ) (goal low : ℕ) (labels : List Row) (same : n.states ≡ states_of m)
    (have : HaveRows m h labels) where
  inside : (s : ℕ) → s < n.states → s < states_of m
  inside s state = subst (λ count. s < count) same state

  g_is : (s : ℕ) → s < n.states → g_at labels s ≡ g_of m s
  g_is s state = ap (λ (r : Row). r.g) (have.rows s (inside s state))

  v_is : (s : ℕ) → s < n.states → v_at labels s ≡ v_of m s
  v_is s state = ap (λ (r : Row). r.v) (have.rows s (inside s state))

  h_is : (s : ℕ) → s < n.states → h_at labels s ≡ h s
  h_is s state = ap (λ (r : Row). r.h) (have.rows s (inside s state))

  head_inside : IsSound n → (s k t c : ℕ) → IsFreeArc n s k t c → t < n.states
  head_inside sound s k t c arc = sound.head_is_state s k t arc.source arc.number arc.head

  pub rows_show : IsSound n → m.start < n.states → goal < n.states → IsConsistent n goal h
      → AreSupported n m.start (g_of m) (v_of m) → IsLow (states_of m) goal (g_of m) (v_of m) h low
      → ShowBound n m.start goal (g_at labels) (v_at labels) (h_at labels) low
  rows_show sound start end consistent supported lowest = record {
    supported = record {
      labels = λ s state. (
        subst IsLabel (sym (g_is s state)) (supported.labels s state).0,
        subst IsLabel (sym (v_is s state)) (supported.labels s state).1,
      );
      from_start = g_is m.start start ∙ supported.from_start;
      along = λ s k t c arc near.
          let at = g_is t (head_inside sound s k t c arc) in
          let from = v_is s arc.source in
          let most : g_of m t ≤ v_of m s + c = supported.along s k t c arc (omega arith) in
          omega arith;
    };
    consistent = record {
      at_goal = h_is goal end ∙ consistent.at_goal;
      along = λ s k t c arc.
          let at = h_is t (head_inside sound s k t c arc) in
          let from = h_is s arc.source in
          let most : h s ≤ c + h t = consistent.along s k t c arc in
          omega arith;
    };
    at_goal = let at = g_is goal end in let most = lowest.at_goal in omega arith;
    unsettled = λ s state differ.
        let g = g_is s state in
        let v = v_is s state in
        let to = h_is s state in
        let most : low ≤ g_of m s + h s =
        lowest.unsettled s (inside s state) (λ settled. differ (v ∙ settled ∙ sym g)) in
        omega arith;
  }
