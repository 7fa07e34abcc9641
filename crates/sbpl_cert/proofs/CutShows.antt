-- Cut labels show the bound that the labels show.
use Rattle.std.proofs.Common.{◌≡◌, ◌≢◌, ℕ, ◌+◌, ◌<◌, ◌≤◌, ◌⊎◌, inl, inr, refl, sym, ap, ◌∙◌, subst, arith}
use Rattle.std.proofs.lemmas.Bool.{cases_lt, cases_eq, lt-ltb, le-ltb}
use Rattle.sbpl_labels.specs.sbpl_graph.declared.TheConstants.{FAR}
use Rattle.sbpl_labels.specs.sbpl_graph.Certificate.{IsLabel, ShowBound}
use Rattle.sbpl_labels.specs.sbpl_graph.Laws.{IsSound}
use Rattle.sbpl_labels.specs.sbpl_graph.Network.{Network, IsFreeArc}
use Rattle.sbpl_labels.specs.Cut.{kept_v}
use Rattle.sbpl_cert.specs.Cut.{AreCut}

-- a state is kept, or its v is infinite
pub kept_or_not : (g h : ℕ → ℕ) (low s : ℕ)
    → ((kept_v g h low s ≡ g s) × (g s + h s < low)) ⊎ ((kept_v g h low s ≡ FAR) × (low ≤ g s + h s))
kept_or_not g h low s = elim (cases_lt (g s + h s) low) [
  | inl lt ↦ inl (rw (lt-ltb (g s + h s) low lt) refl, lt)
  | inr le ↦ inr (rw (le-ltb (g s + h s) low le) refl, le)
]

-- where g is infinite, v is
pub far_kept : (g h : ℕ → ℕ) (low s : ℕ) → g s ≡ FAR → kept_v g h low s ≡ FAR
far_kept g h low s far = elim (kept_or_not g h low s) [ inl kept ↦ kept.0 ∙ far | inr not ↦ not.0 ]

module _ (n : Network) (start goal low : ℕ) (g v h cut_g cut_v : ℕ → ℕ) (sound : IsSound n) (begins : start < n.states)
    (inside : goal < n.states)
    (shown : ShowBound n start goal g v h low) (cut : AreCut n start g h low cut_g cut_v) where
  low_at_most_far : low ≤ FAR
  low_at_most_far =
      let most : low ≤ g goal = shown.at_goal in
      elim (shown.supported.labels goal inside).0 [ inl far ↦ omega (arith, far) | inr near ↦ omega (arith, near) ]

  cut_or_not : (s : ℕ) → s < n.states → ((cut_v s ≡ g s) × (g s + h s < low)) ⊎ ((cut_v s ≡ FAR) × (low ≤ g s + h s))
  cut_or_not s state = elim (kept_or_not g h low s) [
    | inl kept ↦ inl ((cut s state).kept ∙ kept.0, kept.1)
    | inr not ↦ inr ((cut s state).kept ∙ not.0, not.1)
  ]

  -- g of a state is left, or is infinite
  left_or_far : (t : ℕ) → t < n.states → (cut_g t ≡ g t) ⊎ (cut_g t ≡ FAR)
  left_or_far t state = elim (cases_eq t start) [
    | inl at ↦ inl ((cut t state).from_start at ∙ sym shown.supported.from_start ∙ ap g (sym at))
    | inr other ↦ (cut t state).left other
  ]

  label_v : (s : ℕ) → s < n.states → IsLabel (cut_v s)
  label_v s state = elim (cut_or_not s state) [
    | inl kept ↦ subst IsLabel (sym kept.0) (shown.supported.labels s state).0
    | inr not ↦ inl not.0
  ]

  label_g : (t : ℕ) → t < n.states → IsLabel (cut_g t)
  label_g t state = elim (left_or_far t state) [
    | inl left ↦ subst IsLabel (sym left) (shown.supported.labels t state).0
    | inr far ↦ inl far
  ]

  -- the labels of a kept state are settled
  settled : (s : ℕ) → s < n.states → g s + h s < low → v s ≡ g s
  settled s state below = elim (cases_eq (v s) (g s)) [
    | inl same ↦ same
    | inr differ ↦ absurd (let most : low ≤ g s + h s = shown.unsettled s state differ in omega (arith, below))
  ]

  -- g of a state that a kept state leads to
  at_head : (s k t c : ℕ) → IsFreeArc n s k t c → cut_v s < FAR → (cut_g t ≡ g t) ⊎ (cut_g t ≡ 0)
  at_head s k t c arc near =
      let state = sound.head_is_state s k t arc.source arc.number arc.head in
      elim (cases_eq t start) [
        | inl at ↦ inr ((cut t state).from_start at)
        | inr other ↦ inl ((cut t state).reached other (s, k, c, arc, omega (arith, (cut s arc.source).kept, near)))
      ]

  along : (s k t c : ℕ) → IsFreeArc n s k t c → cut_v s < FAR → cut_g t ≤ cut_v s + c
  along s k t c arc near = elim (at_head s k t c arc near) [
    | inr zero_there ↦ omega (arith, zero_there)
    | inl left ↦ elim (cut_or_not s arc.source) [
      | inr not ↦ absurd (omega (arith, not.0, near))
      | inl kept ↦ (
          let same = settled s arc.source kept.1 in
          let most : g t ≤ v s + c = shown.supported.along s k t c arc (omega (arith, same, kept.0, near)) in
          omega (arith, same, kept.0, left, most)
          )
    ]
  ]

  unsettled : (s : ℕ) → s < n.states → cut_v s ≢ cut_g s → low ≤ cut_g s + h s
  unsettled s state differ = elim (left_or_far s state) [
    | inr far ↦ omega (arith, far, low_at_most_far)
    | inl left ↦ elim (cut_or_not s state) [
      | inl kept ↦ absurd (differ (kept.0 ∙ sym left))
      | inr not ↦ omega (arith, left, not.1)
    ]
  ]

  low_at_goal : low ≤ cut_g goal
  low_at_goal = elim (left_or_far goal inside) [
    | inl left ↦ (let most : low ≤ g goal = shown.at_goal in omega (arith, left))
    | inr far ↦ omega (arith, far, low_at_most_far)
  ]

  pub cut_shows : ShowBound n start goal cut_g cut_v h low
  cut_shows = record {
    supported = record {
      labels = λ s state. (label_g s state, label_v s state);
      from_start = (cut start begins).from_start refl;
      along = along;
    };
    consistent = shown.consistent;
    at_goal = low_at_goal;
    unsettled = unsettled;
  }
