-- What holds of the listed states of a labelling, and of states of infinite labels, holds of all.
use Rattle.std.proofs.Common.{◌≡◌, ℕ, ◌<◌, inl, inr, subst, ap, arith}
use Rattle.std.proofs.lemmas.Bool.{cases_lt, cases_eq}
use Rattle.sbpl_labels.specs.sbpl_graph.declared.TheConstants.{FAR}
use Rattle.sbpl_cert.specs.Labelling.{IsLabelling, Labelling}

module _ (l : Labelling) (is : IsLabelling l) where
  -- a listed state below another has a lower number
  lower_number : (i j : ℕ) → i < l.count → j < l.count → l.state j < l.state i → j < i
  lower_number i j at there below = elim (cases_lt j i) [
    | inl lt ↦ lt
    | inr ge ↦ elim (cases_eq i j) [
      | inl same ↦ absurd (let states : l.state i ≡ l.state j = ap l.state same in omega (arith, states, below))
      | inr other ↦ absurd (let up = is.upwards i j (omega arith) there in omega (arith, up, below))
    ]
  ]

  module _ (P : ℕ → Type 0) (vacuous : (s : ℕ) → s < l.states → l.g s ≡ FAR → l.v s ≡ FAR → P s) where
    pub all_states : ((i : ℕ) → i < l.count → P (l.state i)) → (s : ℕ) → s < l.states → P s
    all_states listed s inside = elim (is.others s inside) [
      | inl w ↦ subst P w.2 (listed w.0 w.1)
      | inr far ↦ vacuous s inside far.0 far.1
    ]

    pub earlier_states : (i : ℕ) → i < l.count → ((j : ℕ) → j < i → P (l.state j)) → (s : ℕ) → s < l.state i → P s
    earlier_states i at before s below =
        let inside : s < l.states = omega (arith, below, is.inside i at) in
        elim (is.others s inside) [
          | inl w ↦ subst P w.2 (before w.0 (lower_number i w.0 at w.1 (omega (arith, w.2, below))))
          | inr far ↦ vacuous s inside far.0 far.1
        ]
