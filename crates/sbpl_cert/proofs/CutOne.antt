-- The rows of cut labels are determined.
use Rattle.std.proofs.Common.{◌≡◌, ◌≢◌, ℕ, zero, suc, ◌<◌, inl, inr, List, [], ◌∷◌, length, refl, sym, ◌∙◌, ap, ap₂}
use Rattle.std.proofs.Common.{subst, arith, eq-eqb}
use Rattle.std.proofs.lemmas.Bool.{cases_eq, cases_lt, ne_eqb}
use Rattle.sbpl_labels.specs.sbpl_graph.declared.TheConstants.{FAR}
use Rattle.sbpl_labels.specs.sbpl_graph.Network.{Network}
use Rattle.sbpl_labels.specs.Cut.{kept_v}
use Rattle.sbpl_labels.specs.Marks.{Marks, g_of}
use Rattle.sbpl_cert.specs.declared.outcome.Outcome.{Outcome}
use Rattle.sbpl_cert.specs.declared.outcome.Outcome.TheVariants as outcome
use Rattle.sbpl_cert.specs.declared.sparse_row.SparseRow.{SparseRow}
use Rattle.sbpl_cert.specs.Cut.{AreCutRows, IsCutAt, IsFinite, IsNeededAt, IsReached}
use Rattle.sbpl_cert.specs.Sparse.{GoUpwards, g_in, sparse_row_at, v_in}
use Rattle.sbpl_cert.proofs.SparseRows.{row_or_none}

-- ---- cut labels

-- numbers that do not differ are the same
not_apart : (a b : ℕ) → (a ≢ b → ⊥) → a ≡ b
not_apart a b never = elim (cases_eq a b) [ inl same ↦ same | inr other ↦ absurd (never other) ]

module _ (n : Network) (start : ℕ) (g h k : ℕ → ℕ) (low : ℕ) (alike : (s : ℕ) → s < n.states → h s ≡ k s) where
  kept_alike : (s : ℕ) → s < n.states → kept_v g h low s ≡ kept_v g k low s
  kept_alike s state = ap (λ (x : ℕ). kept_v g (λ _. x) low s) (alike s state)

  reached_alike : (t : ℕ) → IsReached n (kept_v g h low) t → IsReached n (kept_v g k low) t
  reached_alike t (s, a, c, arc, near) = (s, a, c, arc, subst (λ (x : ℕ). x < FAR) (kept_alike s arc.source) near)

  reached_back : (t : ℕ) → IsReached n (kept_v g k low) t → IsReached n (kept_v g h low) t
  reached_back t (s, a, c, arc, near) = (s, a, c, arc, subst (λ (x : ℕ). x < FAR) (sym (kept_alike s arc.source)) near)

  -- the cut labels of a state are determined
  one_cut : (s g₁ v₁ g₂ v₂ : ℕ) → s < n.states → IsCutAt n start g h low s g₁ v₁
      → IsCutAt n start g k low s g₂ v₂ → (g₁ ≡ g₂) × (v₁ ≡ v₂)
  one_cut s g₁ v₁ g₂ v₂ state x y = (one_g, x.kept ∙ kept_alike s state ∙ sym y.kept)
    where
      one_g : g₁ ≡ g₂
      one_g = elim (cases_eq s start) [
        | inl at ↦ x.from_start at ∙ sym (y.from_start at)
        | inr other ↦ not_apart g₁ g₂ (λ apart.
            let never : IsReached n (kept_v g h low) s → ⊥ =
            λ reached. apart (x.reached other reached ∙ sym (y.reached other (reached_alike s reached))) in
            apart (x.unreached other never ∙ sym (y.unreached other (λ reached. never (reached_back s reached)))))
      ]

one_needed : (o : Outcome) (n : Network) (m : Marks) (h k : ℕ → ℕ) (low s g₁ v₁ g₂ v₂ : ℕ)
    → ((u : ℕ) → u < n.states → h u ≡ k u) → s < n.states
    → IsNeededAt o n m h low s g₁ v₁ → IsNeededAt o n m k low s g₂ v₂ → (g₁ ≡ g₂) × (v₁ ≡ v₂)
one_needed outcome.NoPath n m h k low s g₁ v₁ g₂ v₂ alike state x y = (x.0 ∙ sym y.0, x.1 ∙ sym y.1)
one_needed (outcome.Path cost bound) n m h k low s g₁ v₁ g₂ v₂ alike state x y =
    one_cut n m.start (g_of m) h k low alike s g₁ v₁ g₂ v₂ state x y
one_needed outcome.Unknown n m h k low s g₁ v₁ g₂ v₂ alike state x y =
    one_cut n m.start (g_of m) h k low alike s g₁ v₁ g₂ v₂ state x y

-- ---- rows with the same labels

-- the labels of a state are the same in two lists of rows
abbrev SameAt : List SparseRow → List SparseRow → ℕ → Type 0
SameAt rows others s = (g_in rows s ≡ g_in others s) × (v_in rows s ≡ v_in others s)

-- a state below all rows has infinite labels
below_rows : (rows : List SparseRow) (s : ℕ) → ((i : ℕ) → i < length rows → s < (sparse_row_at rows i).state)
    → (g_in rows s ≡ FAR) × (v_in rows s ≡ FAR)
below_rows rows s below =
    elim (row_or_none rows s) [ inl w ↦ absurd (omega (arith, below w.0 w.1, w.2)) | inr far ↦ far ]

module _ (r : SparseRow) (rs : List SparseRow) where
  rest_up : GoUpwards (r ∷ rs) → GoUpwards rs
  rest_up up i j lt at = up (suc i) (suc j) (omega (arith, lt)) (omega (arith, at))

  above_first : GoUpwards (r ∷ rs) → (i : ℕ) → i < length rs → r.state < (sparse_row_at rs i).state
  above_first up i at = up 0 (suc i) (omega arith) (omega (arith, at))

  first_g : g_in (r ∷ rs) r.state ≡ r.g
  first_g = rw (eq-eqb r.state r.state refl) refl

  first_v : v_in (r ∷ rs) r.state ≡ r.v
  first_v = rw (eq-eqb r.state r.state refl) refl

  rest_g : (s : ℕ) → r.state ≢ s → g_in (r ∷ rs) s ≡ g_in rs s
  rest_g s other = rw (ne_eqb r.state s other) refl

  rest_v : (s : ℕ) → r.state ≢ s → v_in (r ∷ rs) s ≡ v_in rs s
  rest_v s other = rw (ne_eqb r.state s other) refl

-- a finite row's state is not infinite in the other list
not_far : (r : SparseRow) (rs others : List SparseRow) → IsFinite r → SameAt (r ∷ rs) others r.state
    → (g_in others r.state ≡ FAR) × (v_in others r.state ≡ FAR) → ⊥
not_far r rs others (inl near) same far = omega (arith, near, first_g r rs, same.0, far.0)
not_far r rs others (inr near) same far = omega (arith, near, first_v r rs, same.1, far.1)

-- the first row of one list does not stand below all rows of the other
not_below : (r : SparseRow) (rs others : List SparseRow) → IsFinite r → SameAt (r ∷ rs) others r.state
    → ((i : ℕ) → i < length others → r.state < (sparse_row_at others i).state) → ⊥
not_below r rs others finite same below = not_far r rs others finite same (below_rows others r.state below)

module _ (r q : SparseRow) (rs qs : List SparseRow) (up : GoUpwards (r ∷ rs)) (up' : GoUpwards (q ∷ qs)) where
  below_all : r.state < q.state → (i : ℕ) → i < length (q ∷ qs) → r.state < (sparse_row_at (q ∷ qs) i).state
  below_all lt zero at = lt
  below_all lt (suc i) at = omega (arith, lt, above_first q qs up' i (omega (arith, at)))

  same_rest : r.state ≡ q.state → (s : ℕ) → SameAt (r ∷ rs) (q ∷ qs) s → SameAt rs qs s
  same_rest first s same = elim (cases_eq r.state s) [
    | inl at ↦ (
        let here = below_rows rs s (λ i within. omega (arith, at, above_first r rs up i within)) in
        let there = below_rows qs s (λ i within. omega (arith, at, first, above_first q qs up' i within)) in
        (here.0 ∙ sym there.0, here.1 ∙ sym there.1)
        )
    | inr other ↦ (
        let apart : q.state ≢ s = λ at. other (first ∙ at) in (
          sym (rest_g r rs s other) ∙ same.0 ∙ rest_g q qs s apart,
          sym (rest_v r rs s other) ∙ same.1 ∙ rest_v q qs s apart,
        )
        )
  ]

  same_first : r.state ≡ q.state → SameAt (r ∷ rs) (q ∷ qs) r.state → r ≡ q
  same_first first same =
      let g : r.g ≡ q.g = sym (first_g r rs) ∙ same.0 ∙ ap (g_in (q ∷ qs)) first ∙ first_g q qs in
      let v : r.v ≡ q.v = sym (first_v r rs) ∙ same.1 ∙ ap (v_in (q ∷ qs)) first ∙ first_v q qs in
      λ i. record { state = first i; g = g i; v = v i }

abbrev AreFinite : List SparseRow → Type 0
AreFinite rows = (i : ℕ) → i < length rows → IsFinite (sparse_row_at rows i)

rest_finite : (r : SparseRow) (rs : List SparseRow) → AreFinite (r ∷ rs) → AreFinite rs
rest_finite r rs finite i at = finite (suc i) (omega (arith, at))

same_rows : (states : ℕ) (rows others : List SparseRow) → GoUpwards rows → GoUpwards others
    → AreFinite rows → AreFinite others
    → ((i : ℕ) → i < length rows → (sparse_row_at rows i).state < states)
    → ((i : ℕ) → i < length others → (sparse_row_at others i).state < states)
    → ((s : ℕ) → s < states → SameAt rows others s) → rows ≡ others
same_rows states [] [] up up' finite finite' inside inside' same = refl
same_rows states (r ∷ rs) [] up up' finite finite' inside inside' same =
    absurd (not_below r rs [] (finite 0 (omega arith)) (same r.state (inside 0 (omega arith)))
    (λ i at. absurd (omega (arith, at))))
same_rows states [] (q ∷ qs) up up' finite finite' inside inside' same =
    let here = same q.state (inside' 0 (omega arith)) in
    absurd (not_below q qs [] (finite' 0 (omega arith)) (sym here.0, sym here.1) (λ i at. absurd (omega (arith, at))))
same_rows states (r ∷ rs) (q ∷ qs) up up' finite finite' inside inside' same =
    let here = same r.state (inside 0 (omega arith)) in
    let there = same q.state (inside' 0 (omega arith)) in
    let first : r.state ≡ q.state = not_apart r.state q.state (λ apart. elim (cases_lt r.state q.state) [
      | inl lt ↦ not_below r rs (q ∷ qs) (finite 0 (omega arith)) here (below_all r q rs qs up up' lt)
      | inr ge ↦
          not_below q qs (r ∷ rs) (finite' 0 (omega arith)) (sym there.0, sym there.1)
          (below_all q r qs rs up' up (omega (arith, ge, apart)))
    ]) in
    ap₂ (λ (x : SparseRow) (xs : List SparseRow). x ∷ xs) (same_first r q rs qs up up' first here)
    (same_rows states rs qs (rest_up r rs up) (rest_up q qs up') (rest_finite r rs finite) (rest_finite q qs finite')
    (λ i at. inside (suc i) (omega (arith, at))) (λ i at. inside' (suc i) (omega (arith, at)))
    (λ s state. same_rest r q rs qs up up' first s (same s state)))

pub cut_rows_one : (o : Outcome) (n : Network) (m : Marks) (h k : ℕ → ℕ) (low : ℕ) (rows others : List SparseRow)
    → ((s : ℕ) → s < n.states → h s ≡ k s)
    → AreCutRows o n m h low rows → AreCutRows o n m k low others → rows ≡ others
cut_rows_one o n m h k low rows others alike x y =
    same_rows n.states rows others x.rows_are.upwards y.rows_are.upwards x.finite y.finite
    (λ i at. (x.rows_are.each i at).inside) (λ i at. (y.rows_are.each i at).inside)
    (λ s state. one_needed o n m h k low s (g_in rows s) (v_in rows s) (g_in others s) (v_in others s) alike state
    (x.needed s state) (y.needed s state))
