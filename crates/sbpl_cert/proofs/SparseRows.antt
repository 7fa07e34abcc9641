-- Rows of a sparse section, looked up by state.
use Rattle.std.proofs.Common.{◌≡◌, ℕ, zero, suc, ◌<◌, ◌≤◌, ◌⊎◌, inl, inr, List, [], ◌∷◌, length, IfNone, IfSome, Result}
use Rattle.std.proofs.Common.{Ok, Err, refl, sym, ap, arith, eq-eqb}
use Rattle.std.specs.List.Sorted.{IsSearchInRange, IsBinarySearchResult, IsNonDecreasingBy}
use Rattle.std.specs.Result.{result_ok}
use Rattle.std.specs.Ordering.{nat_cmp, ordering_index}
use Rattle.std.proofs.lemmas.Cmp.{ranked}
use Rattle.std.proofs.lemmas.List.Sorted.{IsNonDecreasingBy-from_default}
use Rattle.std.proofs.lemmas.Bool.{cases_eq, cases_lt, ne_eqb}
use Rattle.std.proofs.lemmas.Bool.Decides.{nat_tests}
use Rattle.sbpl_labels.specs.sbpl_graph.declared.TheConstants.{FAR}
use Rattle.sbpl_labels.specs.sbpl_graph.Certificate.{IsLabel}
use Rattle.sbpl_cert.specs.declared.sparse_row.SparseRow.{SparseRow}
use Rattle.sbpl_cert.specs.Labelling.{IsLabelling}
use Rattle.sbpl_cert.specs.Sparse.{AreSparseRows, GoUpwards, IsSparseSection, SparseSection, g_in, no_sparse_row}
use Rattle.sbpl_cert.specs.Sparse.{sparse_labelling, sparse_row_at, v_in}

tail_up : (r : SparseRow) (rs : List SparseRow) → GoUpwards (r ∷ rs) → GoUpwards rs
tail_up r rs up i j lt at = up (suc i) (suc j) (omega (arith, lt)) (omega (arith, at))

-- the labels of a state with a row are those of the row
pub g_read : (rows : List SparseRow) → GoUpwards rows → (i : ℕ) → i < length rows
    → g_in rows (sparse_row_at rows i).state ≡ (sparse_row_at rows i).g
g_read [] up i at = absurd (omega (arith, at))
g_read (r ∷ rs) up zero at = rw (eq-eqb r.state r.state refl) refl
g_read (r ∷ rs) up (suc i) at =
    let below : r.state < (sparse_row_at rs i).state = up 0 (suc i) (omega arith) at in
    rw (ne_eqb r.state (sparse_row_at rs i).state (λ q. omega (arith, q, below)))
    (g_read rs (tail_up r rs up) i (omega (arith, at)))

pub v_read : (rows : List SparseRow) → GoUpwards rows → (i : ℕ) → i < length rows
    → v_in rows (sparse_row_at rows i).state ≡ (sparse_row_at rows i).v
v_read [] up i at = absurd (omega (arith, at))
v_read (r ∷ rs) up zero at = rw (eq-eqb r.state r.state refl) refl
v_read (r ∷ rs) up (suc i) at =
    let below : r.state < (sparse_row_at rs i).state = up 0 (suc i) (omega arith) at in
    rw (ne_eqb r.state (sparse_row_at rs i).state (λ q. omega (arith, q, below)))
    (v_read rs (tail_up r rs up) i (omega (arith, at)))

-- a state has a row, or infinite labels
pub row_or_none : (rows : List SparseRow) (s : ℕ)
    → ((i : ℕ) × (i < length rows) × ((sparse_row_at rows i).state ≡ s)) ⊎ ((g_in rows s ≡ FAR) × (v_in rows s ≡ FAR))
row_or_none [] s = inr (refl, refl)
row_or_none (r ∷ rs) s = elim (cases_eq r.state s) [
  | inl same ↦ inl (0, omega arith, same)
  | inr other ↦ elim (row_or_none rs s) [
    | inl w ↦ inl (suc w.0, omega (arith, w.1), w.2)
    | inr far ↦ inr (rw (ne_eqb r.state s other) far.0, rw (ne_eqb r.state s other) far.1)
  ]
]

-- where each row has labels, all states have
label_g : (rows : List SparseRow) → ((i : ℕ) → i < length rows → IsLabel (sparse_row_at rows i).g)
    → (s : ℕ) → IsLabel (g_in rows s)
label_g [] each s = inl refl
label_g (r ∷ rs) each s = elim (cases_eq r.state s) [
  | inl same ↦ rw (eq-eqb r.state s same) (each 0 (omega arith))
  | inr other ↦ rw (ne_eqb r.state s other) (label_g rs (λ i at. each (suc i) (omega (arith, at))) s)
]

label_v : (rows : List SparseRow) → ((i : ℕ) → i < length rows → IsLabel (sparse_row_at rows i).v)
    → (s : ℕ) → IsLabel (v_in rows s)
label_v [] each s = inl refl
label_v (r ∷ rs) each s = elim (cases_eq r.state s) [
  | inl same ↦ rw (eq-eqb r.state s same) (each 0 (omega arith))
  | inr other ↦ rw (ne_eqb r.state s other) (label_v rs (λ i at. each (suc i) (omega (arith, at))) s)
]

-- there are no more rows than states
number_below : (rows : List SparseRow) → GoUpwards rows → (i : ℕ) → i < length rows → i ≤ (sparse_row_at rows i).state
number_below rows up zero at = omega arith
number_below rows up (suc i) at =
    let before = number_below rows up i (omega (arith, at)) in
    let more = up i (suc i) (omega arith) at in
    omega (arith, before, more)

pub rows_few : (states : ℕ) (rows : List SparseRow) → AreSparseRows states rows → length rows ≤ states
rows_few states rows are = by (length rows) refl
  where
    by : (m : ℕ) → length rows ≡ m → length rows ≤ states
    by zero is = omega (arith, is)
    by (suc m) is =
        let last = are.each m (omega (arith, is)) in
        let least = number_below rows are.upwards m (omega (arith, is)) in
        omega (arith, is, last.inside, least)

-- a sparse section is a labelling
pub sparse_is_labelling : (s : SparseSection) → IsSparseSection s → IsLabelling (sparse_labelling s)
sparse_is_labelling s is = record {
  inside = λ i at. (is.rows.each i at).inside;
  upwards = is.rows.upwards;
  others = λ u inside. row_or_none s.rows u;
  labels =
      λ u inside. (label_g s.rows (λ i at. (is.rows.each i at).g) u, label_v s.rows (λ i at. (is.rows.each i at).v) u);
}

-- ---- a binary search

module _ (rows : List SparseRow) (up : GoUpwards rows) (s : ℕ) where
  states_rise : (i j : ℕ) → i ≤ j → j < length rows → (sparse_row_at rows i).state ≤ (sparse_row_at rows j).state
  states_rise i j le at = elim (cases_eq i j) [
    | inl same ↦
        (let states : (sparse_row_at rows i).state ≡ (sparse_row_at rows j).state =
        ap (λ k. (sparse_row_at rows k).state) same in omega (arith, states))
    | inr other ↦ (let more = up i j (omega (arith, le, other)) at in omega (arith, more))
  ]

  -- the comparisons with a state rise along the rows, as a binary search asks
  comparisons_rise : IsNonDecreasingBy (λ (row : SparseRow). ordering_index (nat_cmp row.state s)) rows
  comparisons_rise =
      IsNonDecreasingBy-from_default (λ (row : SparseRow). ordering_index (nat_cmp row.state s)) rows no_sparse_row
      (λ i j le at. let rise = states_rise i j le at in grind (arith, nat_tests))

  pub found_by : (r : Result ℕ ℕ) → IsSearchInRange r (length rows)
      → IsBinarySearchResult (λ (row : SparseRow). nat_cmp row.state s) rows r
      → IfSome (result_ok r) (λ i. (i < length rows) × ((sparse_row_at rows i).state ≡ s))
  found_by (Ok at) in_range equal = (in_range, ranked _ s _ (sym (equal no_sparse_row)))
  found_by (Err at) in_range parted = tt

  pub none_by : (r : Result ℕ ℕ) → IsSearchInRange r (length rows)
      → IsBinarySearchResult (λ (row : SparseRow). nat_cmp row.state s) rows r
      → IfNone (result_ok r) ((i : ℕ) → i < length rows → (sparse_row_at rows i).state ≡ s → ⊥)
  none_by (Ok at) in_range equal = tt
  none_by (Err at) in_range parted = λ i inside here. elim (cases_lt i at) [
    | inl lt ↦
        (let below = ranked _ s _ (sym ((parted comparisons_rise).0 i no_sparse_row (omega arith) lt)) in
        omega (arith, below, here))
    | inr ge ↦
        (let above = ranked _ s _ (sym ((parted comparisons_rise).1 i no_sparse_row ge inside)) in
        omega (arith, above, here))
  ]
