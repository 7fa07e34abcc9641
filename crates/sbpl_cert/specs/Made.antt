-- A section that is made of the labels that a plan left.
use Rattle.std.specs.Prelude.{◌≡◌, ℕ, ◌<◌, List, length}
use Rattle.sbpl_labels.specs.sbpl_graph.Bound.{IsLow}
use Rattle.sbpl_labels.specs.sbpl_graph.Network.{Network}
use Rattle.sbpl_labels.specs.Marks.{Marks, states_of, g_of, v_of}
use Rattle.sbpl_cert.specs.declared.row.Row.{Row}
use Rattle.sbpl_cert.specs.Sections.{FullSection, row_at}
use Rattle.sbpl_cert.specs.Cut.{AreCutRows}
use Rattle.sbpl_cert.specs.Sparse.{SparseSection}

-- there is a row for each state, with its labels and what a guide says there
pub record HaveRows (m : Marks) (h : ℕ → ℕ) (labels : List Row) : Type 0 where
  pub states : length labels ≡ states_of m
  pub rows : (s : ℕ) → s < states_of m → row_at labels s ≡ record { g = g_of m s; v = v_of m s; h = h s }

-- a section says labels and a guide, and the low that they give
pub record IsOfLabels (m : Marks) (h : ℕ → ℕ) (goal : ℕ) (s : FullSection) : Type 0 where
  pub labels : HaveRows m h s.labels
  pub low : IsLow (states_of m) goal (g_of m) (v_of m) h s.low

-- a sparse section says the low that labels and a guide give, and the labels that are cut to it, for its outcome
pub record IsOfCutLabels (n : Network) (m : Marks) (h : ℕ → ℕ) (goal : ℕ) (s : SparseSection) : Type 0 where
  pub rows : AreCutRows s.outcome n m h s.low s.rows
  pub low : IsLow (states_of m) goal (g_of m) (v_of m) h s.low
