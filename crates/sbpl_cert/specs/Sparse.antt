-- A section of a label text that leaves out the states of infinite labels, and the guide's values.
use Rattle.std.specs.Prelude.{◌==◌, if◌then◌else◌, ℕ, ◌^◌, ◌<◌, false, List, [], ◌∷◌, length, slice_index_or}
use Rattle.sbpl_labels.specs.sbpl_graph.declared.TheConstants.{FAR}
use Rattle.sbpl_labels.specs.sbpl_graph.Certificate.{IsLabel}
use Rattle.sbpl_cert.specs.declared.outcome.Outcome.{Outcome}
use Rattle.sbpl_cert.specs.declared.sparse_row.SparseRow.{SparseRow}
use Rattle.sbpl_cert.specs.Claims.{Claim}
use Rattle.sbpl_cert.specs.Labelling.{Labelling}
use Rattle.sbpl_cert.specs.Sections.{HasArcs, IsLowest, IsOutcomeInRange}

-- the plan's number, the number of states, the low of the labels, the outcome, the arc numbers of a path from the start, and rows
-- for some of the states
pub record SparseSection : Type 0 where
  pub plan : ℕ
  pub states : ℕ
  pub low : ℕ
  pub outcome : Outcome
  pub arcs : List ℕ
  pub rows : List SparseRow

-- what stands past the last row
abbrev pub no_sparse_row : SparseRow
no_sparse_row = record { state = 0; g = 0; v = 0 }

abbrev pub sparse_row_at : List SparseRow → ℕ → SparseRow
sparse_row_at rows i = slice_index_or rows i no_sparse_row

-- g and v of a state: those of its row, and infinite where it has none
abbrev pub g_in : List SparseRow → ℕ → ℕ
g_in [] s = FAR
g_in (r ∷ rs) s = if r.state == s then r.g else g_in rs s

abbrev pub v_in : List SparseRow → ℕ → ℕ
v_in [] s = FAR
v_in (r ∷ rs) s = if r.state == s then r.v else v_in rs s

-- a row of one of this many states, with two labels, each infinite or below 2^62
pub record IsSparseRow (states : ℕ) (r : SparseRow) : Type 0 where
  pub inside : r.state < states
  pub g : IsLabel r.g
  pub v : IsLabel r.v

-- the states of the rows go upwards
abbrev pub GoUpwards : List SparseRow → Type 0
GoUpwards rows = (i j : ℕ) → i < j → j < length rows → (sparse_row_at rows i).state < (sparse_row_at rows j).state

-- rows of this many states
pub record AreSparseRows (states : ℕ) (rows : List SparseRow) : Type 0 where
  pub each : (i : ℕ) → i < length rows → IsSparseRow states (sparse_row_at rows i)
  pub upwards : GoUpwards rows

-- every value lies in its range, and the states go upwards
pub record IsSparseSection (s : SparseSection) : Type 0 where
  pub plan : s.plan < 2 ^ 32
  pub states : s.states < 2 ^ 32
  pub low : IsLowest s.low
  pub outcome : IsOutcomeInRange s.outcome
  pub arcs : HasArcs s.outcome s.arcs
  pub rows : AreSparseRows s.states s.rows

-- its labels, of which those with a row are listed
abbrev pub sparse_labelling : SparseSection → Labelling
sparse_labelling s = record { states = s.states; count = length s.rows; state = λ i. (sparse_row_at s.rows i).state; g = g_in s.rows; v = v_in s.rows }

-- what it claims, with h by a guide
abbrev pub sparse_claim : (h : ℕ → ℕ) → SparseSection → Claim
sparse_claim h s = record { low = s.low; outcome = s.outcome; arcs = s.arcs; g = g_in s.rows; v = v_in s.rows; h = h; own = false }
