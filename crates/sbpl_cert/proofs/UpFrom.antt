-- Rows whose states go upwards, by recursion and by their places.
use Rattle.std.proofs.Common.{ℕ, zero, suc, ◌+◌, ◌<◌, ◌≤◌, List, [], ◌∷◌, length, arith}
use Rattle.std.specs.List.{AllByRecursion}
use Rattle.sbpl_cert.specs.declared.sparse_row.SparseRow.{SparseRow}
use Rattle.sbpl_cert.specs.Sparse.{AreSparseRows, GoUpwards, IsSparseRow, sparse_row_at}
use Rattle.sbpl_cert.proofs.SparseRows.{rows_few}

-- from this state on they go upwards
abbrev pub AreUpFrom : ℕ → List SparseRow → Type 0
AreUpFrom least [] = Unit {0}
AreUpFrom least (r ∷ rs) = (least ≤ r.state) × AreUpFrom (r.state + 1) rs

above : (least : ℕ) (rows : List SparseRow) → AreUpFrom least rows → (i : ℕ) → i < length rows
    → least ≤ (sparse_row_at rows i).state
above least [] up i at = absurd (omega (arith, at))
above least (r ∷ rs) up zero at = up.0
above least (r ∷ rs) up (suc i) at =
    let more = above (r.state + 1) rs up.1 i (omega (arith, at)) in omega (arith, more, up.0)

go_up : (least : ℕ) (rows : List SparseRow) → AreUpFrom least rows → GoUpwards rows
go_up least [] up i j lt at = absurd (omega (arith, at))
go_up least (r ∷ rs) up i zero lt at = absurd (omega (arith, lt))
go_up least (r ∷ rs) up zero (suc j) lt at =
    let more = above (r.state + 1) rs up.1 j (omega (arith, at)) in omega (arith, more)
go_up least (r ∷ rs) up (suc i) (suc j) lt at = go_up (r.state + 1) rs up.1 i j (omega (arith, lt)) (omega (arith, at))

up_go : (least : ℕ) (rows : List SparseRow) → GoUpwards rows
    → ((i : ℕ) → i < length rows → least ≤ (sparse_row_at rows i).state) → AreUpFrom least rows
up_go least [] up from = tt
up_go least (r ∷ rs) up from = (
  from 0 (omega arith),
  up_go (r.state + 1) rs (λ i j lt at. up (suc i) (suc j) (omega (arith, lt)) (omega (arith, at)))
      (λ i at. let more = up 0 (suc i) (omega arith) (omega (arith, at)) in omega (arith, more)),
)

each_of : (states : ℕ) (rows : List SparseRow) → AllByRecursion (IsSparseRow states) rows → (i : ℕ) → i < length rows
    → IsSparseRow states (sparse_row_at rows i)
each_of states [] all i at = absurd (omega (arith, at))
each_of states (r ∷ rs) all zero at = all.0
each_of states (r ∷ rs) all (suc i) at = each_of states rs all.1 i (omega (arith, at))

all_of : (states : ℕ) (rows : List SparseRow) → ((i : ℕ) → i < length rows → IsSparseRow states (sparse_row_at rows i))
    → AllByRecursion (IsSparseRow states) rows
all_of states [] each = tt
all_of states (r ∷ rs) each = (each 0 (omega arith), all_of states rs (λ i at. each (suc i) (omega (arith, at))))

pub up_from_zero : (states : ℕ) (rows : List SparseRow) → AreUpFrom 0 rows → AllByRecursion (IsSparseRow states) rows
    → AreSparseRows states rows
up_from_zero states rows up all = record { each = each_of states rows all; upwards = go_up 0 rows up }

pub rows_up_from : (states : ℕ) (rows : List SparseRow) → AreSparseRows states rows
    → (length rows ≤ states) × AreUpFrom 0 rows × AllByRecursion (IsSparseRow states) rows
rows_up_from states rows are =
    (rows_few states rows are, up_go 0 rows are.upwards (λ i at. omega arith), all_of states rows are.each)
