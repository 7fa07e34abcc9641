-- The rows of cut labels, made one after another.
use Rattle.std.proofs.Common.{◌≡◌, ◌≢◌, ℕ, suc, ◌+◌, ◌<◌, inl, inr, ◌++◌, List, [], ◌∷◌, length, refl, sym, ap, subst}
use Rattle.std.proofs.Common.{◌∙◌, arith, eq-eqb, length-append}
use Rattle.std.proofs.Math.ListN.{get_or-append}
use Rattle.std.proofs.Math.Seq.{get_or-append_seam}
use Rattle.std.proofs.lemmas.Bool.{cases_eq, cases_lt, ne_eqb}
use Rattle.sbpl_labels.specs.sbpl_graph.declared.TheConstants.{FAR}
use Rattle.sbpl_labels.specs.sbpl_graph.Certificate.{IsLabel}
use Rattle.sbpl_labels.specs.sbpl_graph.Network.{Network}
use Rattle.sbpl_labels.specs.Marks.{Marks}
use Rattle.sbpl_cert.specs.declared.outcome.Outcome.{Outcome}
use Rattle.sbpl_cert.specs.declared.sparse_row.SparseRow.{SparseRow}
use Rattle.sbpl_cert.specs.Cut.{AreCutRows, IsFinite, IsNeededAt}
use Rattle.sbpl_cert.specs.Sparse.{GoUpwards, IsSparseRow, g_in, no_sparse_row, sparse_row_at, v_in}
use Rattle.sbpl_cert.proofs.SparseRows.{row_or_none}

-- ---- one row more

absent : (rows : List SparseRow) (s : ℕ) → ((k : ℕ) → k < length rows → (sparse_row_at rows k).state ≢ s)
    → (g_in rows s ≡ FAR) × (v_in rows s ≡ FAR)
absent rows s other = elim (row_or_none rows s) [ inl w ↦ absurd (other w.0 w.1 w.2) | inr far ↦ far ]

added_other : (rows : List SparseRow) (r : SparseRow) (s : ℕ) → r.state ≢ s
    → (g_in (rows ++ r ∷ []) s ≡ g_in rows s) × (v_in (rows ++ r ∷ []) s ≡ v_in rows s)
added_other [] r s other = (rw (ne_eqb r.state s other) refl, rw (ne_eqb r.state s other) refl)
added_other (q ∷ rows) r s other =
    let more = added_other rows r s other in
    elim (cases_eq q.state s) [
      | inl same ↦ (rw (eq-eqb q.state s same) refl, rw (eq-eqb q.state s same) refl)
      | inr apart ↦ (rw (ne_eqb q.state s apart) more.0, rw (ne_eqb q.state s apart) more.1)
    ]

added_last : (rows : List SparseRow) (r : SparseRow)
    → ((k : ℕ) → k < length rows → (sparse_row_at rows k).state ≢ r.state)
    → (g_in (rows ++ r ∷ []) r.state ≡ r.g) × (v_in (rows ++ r ∷ []) r.state ≡ r.v)
added_last [] r other = (rw (eq-eqb r.state r.state refl) refl, rw (eq-eqb r.state r.state refl) refl)
added_last (q ∷ rows) r other =
    let more = added_last rows r (λ k at. other (suc k) (omega (arith, at))) in
    let apart : q.state ≢ r.state = other 0 (omega arith) in
    (rw (ne_eqb q.state r.state apart) more.0, rw (ne_eqb q.state r.state apart) more.1)

module _ (rows : List SparseRow) (r : SparseRow) where
  longer : length (rows ++ r ∷ []) ≡ length rows + 1
  longer = length-append rows (r ∷ [])

  old_row : (k : ℕ) → k < length rows → sparse_row_at (rows ++ r ∷ []) k ≡ sparse_row_at rows k
  old_row k at = get_or-append rows (r ∷ []) no_sparse_row k at

  new_row : (k : ℕ) → k ≡ length rows → sparse_row_at (rows ++ r ∷ []) k ≡ r
  new_row k is = rw is (get_or-append_seam rows r [] no_sparse_row)

  each_more : (P : SparseRow → Type 0) → ((k : ℕ) → k < length rows → P (sparse_row_at rows k)) → P r → (k : ℕ)
      → k < length (rows ++ r ∷ [])
      → P (sparse_row_at (rows ++ r ∷ []) k)
  each_more P before last k at = elim (cases_lt k (length rows)) [
    | inl lt ↦ subst P (sym (old_row k lt)) (before k lt)
    | inr ge ↦ subst P (sym (new_row k (omega (arith, ge, at, longer)))) last
  ]

-- ---- rows of the states below i

module _ (o : Outcome) (n : Network) (m : Marks) (h : ℕ → ℕ) (low : ℕ) where
  pub record AreRowsTo (rows : List SparseRow) (i : ℕ) : Type 0 where
    pub each : (k : ℕ) → k < length rows → IsSparseRow n.states (sparse_row_at rows k)
    pub upwards : GoUpwards rows
    pub below : (k : ℕ) → k < length rows → (sparse_row_at rows k).state < i
    pub finite : (k : ℕ) → k < length rows → IsFinite (sparse_row_at rows k)
    pub needed : (s : ℕ) → s < i → IsNeededAt o n m h low s (g_in rows s) (v_in rows s)

  pub no_rows : AreRowsTo [] 0
  no_rows = record {
    each = λ k at. absurd (omega (arith, at));
    upwards = λ i j lt at. absurd (omega (arith, at));
    below = λ k at. absurd (omega (arith, at));
    finite = λ k at. absurd (omega (arith, at));
    needed = λ s at. absurd (omega (arith, at));
  }

  moved : (s g v g' v' : ℕ) → g ≡ g' → v ≡ v' → IsNeededAt o n m h low s g v → IsNeededAt o n m h low s g' v'
  moved s g v g' v' gs vs is =
      subst (λ x. IsNeededAt o n m h low s x v') gs (subst (λ x. IsNeededAt o n m h low s g x) vs is)

  -- a state of infinite labels needs no row
  pub row_skipped : (rows : List SparseRow) (i : ℕ) (r : SparseRow) → AreRowsTo rows i → r.state ≡ i
      → IsNeededAt o n m h low i r.g r.v
      → IsLabel r.g × IsLabel r.v → (IsFinite r → ⊥) → AreRowsTo rows (i + 1)
  row_skipped rows i r are here is labels infinite = record {
    each = are.each;
    upwards = are.upwards;
    below = λ k at. omega (arith, are.below k at);
    finite = are.finite;
    needed = λ s lt. elim (cases_lt s i) [
      | inl before ↦ are.needed s before
      | inr ge ↦
          let at : i ≡ s = omega (arith, lt, ge) in
          let none = absent rows i (λ k inside same. omega (arith, are.below k inside, same)) in
          let g_far : r.g ≡ FAR =
          elim labels.0 [ inl far ↦ far | inr near ↦ absurd (infinite (inl (omega (arith, near)))) ] in
          let v_far : r.v ≡ FAR =
          elim labels.1 [ inl far ↦ far | inr near ↦ absurd (infinite (inr (omega (arith, near)))) ] in
          subst (λ x. IsNeededAt o n m h low x (g_in rows x) (v_in rows x))
          at (moved i r.g r.v (g_in rows i) (v_in rows i) (g_far ∙ sym none.0) (v_far ∙ sym none.1) is)
    ];
  }

  pub row_added : (rows : List SparseRow) (i : ℕ) (r : SparseRow) → AreRowsTo rows i → i < n.states → r.state ≡ i
      → IsNeededAt o n m h low i r.g r.v
      → IsLabel r.g × IsLabel r.v → IsFinite r → AreRowsTo (rows ++ r ∷ []) (i + 1)
  row_added rows i r are inside here is labels finite = record {
    each =
        each_more rows r (IsSparseRow n.states) are.each
        (record { inside = omega (arith, inside, here); g = labels.0; v = labels.1 });
    upwards = λ a b lt at. elim (cases_lt b (length rows)) [
      | inl old ↦ (
          let up = are.upwards a b lt old in
          let one = ap (λ (q : SparseRow). q.state) (old_row rows r a (omega (arith, lt, old))) in
          let two = ap (λ (q : SparseRow). q.state) (old_row rows r b old) in
          omega (arith, up, one, two)
          )
      | inr ge ↦ (
          let last : b ≡ length rows = omega (arith, ge, at, longer rows r) in
          let before : a < length rows = omega (arith, lt, last) in
          let up = are.below a before in
          let one = ap (λ (q : SparseRow). q.state) (old_row rows r a before) in
          let two = ap (λ (q : SparseRow). q.state) (new_row rows r b last) in
          omega (arith, up, one, two, here)
          )
    ];
    below = each_more rows r (λ q. q.state < i + 1) (λ k at. omega (arith, are.below k at)) (omega (arith, here));
    finite = each_more rows r IsFinite are.finite finite;
    needed = λ s lt. elim (cases_lt s i) [
      | inl before ↦ (
          let same = added_other rows r s (λ q. omega (arith, q, here, before)) in
          moved s (g_in rows s) (v_in rows s) _ _ (sym same.0) (sym same.1) (are.needed s before)
          )
      | inr ge ↦ (
          let at : i ≡ s = omega (arith, lt, ge) in
          let last = added_last rows r (λ k there same. omega (arith, are.below k there, same, here)) in
          let all = rows ++ r ∷ [] in
          let found : IsNeededAt o n m h low i (g_in all r.state) (v_in all r.state) =
          moved i r.g r.v _ _ (sym last.0) (sym last.1) is in
          subst (λ x. IsNeededAt o n m h low x (g_in all x) (v_in all x))
          at (subst (λ x. IsNeededAt o n m h low i (g_in all x) (v_in all x)) here found)
          )
    ];
  }

  pub rows_cut : (rows : List SparseRow) (i : ℕ) → AreRowsTo rows i → i ≡ n.states → AreCutRows o n m h low rows
  rows_cut rows i are all = record {
    rows_are = record { each = are.each; upwards = are.upwards };
    finite = are.finite;
    needed = λ s state. are.needed s (omega (arith, state, all));
  }
