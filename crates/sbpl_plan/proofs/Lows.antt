-- The low of labels with a path is above 0, unless the path costs nothing.
use Rattle.std.proofs.Common.{◌≡◌, ◌≢◌, ℕ, ◌+◌, ◌<◌, ◌≤◌, List, [], ◌∷◌, Option, Some, None, refl, sym, ◌∙◌, ap, subst}
use Rattle.std.proofs.Common.{arith, inl, inr}
use Rattle.std.proofs.lemmas.Bool.{cases_lt}
use Rattle.std.proofs.lemmas.List.{get_or_past}
use Rattle.sbpl_search.specs.sbpl_graph.declared.TheConstants.{FAR}
use Rattle.sbpl_search.specs.sbpl_graph.Network.{Network, IsFreeArc}
use Rattle.sbpl_search.specs.sbpl_graph.Laws.{IsSound}
use Rattle.sbpl_search.specs.sbpl_graph.Path.{IsFreePath}
use Rattle.sbpl_search.specs.sbpl_graph.Bound.{IsLow}
use Rattle.sbpl_search.specs.sbpl_graph.Exact.{AreExact}
use Rattle.sbpl_search.specs.sbpl_labels.Chain.{IsBackPath, IsWalk}
use Rattle.sbpl_search.specs.sbpl_labels.Marks.{Marks, states_of, g_of, v_of, back_of, no_row, row_at}
use Rattle.sbpl_search.specs.sbpl_labels.declared.row.Row.{Row}
use Rattle.sbpl_search.specs.Ready.{IsStartFresh}

module _ {n : Network} (m : Marks) (sound : IsSound n) (same : states_of m ≡ n.states)
    (exact : AreExact n m.start (g_of m) (v_of m) (back_of m)) where
  -- each label but the start's is above 0
  label_some : (t : ℕ) (back : Option (ℕ × ℕ)) → t < n.states → t ≢ m.start → back_of m t ≡ back → 1 ≤ g_of m t
  label_some t None inside other is = let far = exact.far_without_arc t inside other is in omega arith
  label_some t (Some (s, k)) inside other is =
      let given = exact.gives t s k inside other is in
      let free : IsFreeArc n s k t given.0 = given.1.free in
      let cost : 1 ≤ given.0 = sound.cost_at_least_one s k given.0 free.source free.number free.cost in
      let sum : g_of m t ≡ v_of m s + given.0 = given.1.sum in omega arith

  -- a state with a back arc is one of the states
  back_inside : (t s k : ℕ) → back_of m t ≡ Some (s, k) → t < n.states
  back_inside t s k is = elim (cases_lt t n.states) [
    | inl inside ↦ inside
    | inr past ↦
        let row : row_at m t ≡ no_row = get_or_past m.rows t no_row (rw same past) in
        absurd (let none : back_of m t ≡ None = ap (λ (r : Row). r.back) row in cc (none, is))
  ]

  -- where some arc is followed from the start, the start was settled
  start_settled : (arcs : List ℕ) (t : ℕ) → arcs ≢ [] → IsBackPath (back_of m) m.start arcs t → v_of m m.start < FAR
  start_settled [] t some path = absurd (some refl)
  start_settled (k ∷ ks) t some (u, back, rest) =
      let other : u ≢ m.start =
      (λ is. absurd (let none = subst (λ (x : ℕ). back_of m x ≡ Some (m.start, k)) is back in
      let no = exact.none_at_start in cc (no, none))) in
      let given = exact.gives u m.start k (back_inside u m.start k back) other back in
      given.1.near

  dear_has_arcs : (arcs : List ℕ) (s t cost : ℕ) → IsFreePath n s arcs t cost → 0 < cost → arcs ≢ []
  dear_has_arcs [] s t cost path dear = λ is. let none : cost ≡ 0 = path.1 in omega arith
  dear_has_arcs (k ∷ ks) s t cost path dear = λ is. cc

  pub low_some : {h : ℕ → ℕ} {goal low cost : ℕ} {arcs : List ℕ} → goal < n.states → IsStartFresh m
      → IsLow (states_of m) goal (g_of m) (v_of m) h low
      → IsWalk n m.start (g_of m) (v_of m) (back_of m) goal cost arcs → 0 < cost → 1 ≤ low
  low_some {goal} {cost} {arcs} inside fresh is walk dear =
      let cheap : cost ≤ g_of m goal = walk.cheap in
      let near : v_of m m.start < FAR =
      start_settled arcs goal (dear_has_arcs arcs m.start goal cost walk.path dear) walk.followed in
      let zero : v_of m m.start ≡ g_of m m.start =
      elim fresh [ inl far ↦ absurd (omega arith) | inr none ↦ none ∙ sym exact.from_start ] in
      is.greatest 1 (omega arith) (λ s here differ.
      let other : s ≢ m.start = (λ at. differ (subst (λ (x : ℕ). v_of m x ≡ g_of m x) (sym at) zero)) in
      let some : 1 ≤ g_of m s =
      label_some s (back_of m s) (subst (λ (x : ℕ). s < x) same here) other refl in omega arith)
