-- Labels that are cut to what a low needs: they show the same bound, and few of them are finite.
use Rattle.std.specs.Prelude.{◌≡◌, ◌≢◌, ℕ, ◌<◌, ◌⊎◌, List, length}
use Rattle.sbpl_labels.specs.sbpl_graph.declared.TheConstants.{FAR}
use Rattle.sbpl_labels.specs.sbpl_graph.Certificate.{ShowBound}
use Rattle.sbpl_labels.specs.sbpl_graph.Laws.{IsSound, IsTail}
use Rattle.sbpl_labels.specs.sbpl_graph.Network.{Network, IsFreeArc}
use Rattle.sbpl_labels.specs.Cut.{kept_v}
use Rattle.sbpl_labels.specs.Marks.{Marks, g_of, v_of}
use Rattle.sbpl_cert.specs.declared.outcome.Outcome.{Outcome}
use Rattle.sbpl_cert.specs.declared.outcome.Outcome.TheVariants as outcome
use Rattle.sbpl_cert.specs.declared.sparse_row.SparseRow.{SparseRow}
use Rattle.sbpl_cert.specs.Sparse.{AreSparseRows, g_in, sparse_row_at, v_in}

-- a free arc leads to t from a state of finite v
abbrev pub IsReached : Network → (v : ℕ → ℕ) → ℕ → Type 0
IsReached n v t = (s : ℕ) × (k : ℕ) × (c : ℕ) × IsFreeArc n s k t c × (v s < FAR)

-- and it is tail j of t
abbrev pub IsReachedBy : Network → (v : ℕ → ℕ) → ℕ → ℕ → Type 0
IsReachedBy n v t j = (s : ℕ) × (k : ℕ) × (c : ℕ) × IsTail n t j s k × IsFreeArc n s k t c × (v s < FAR)

-- These are the labels of s, cut to what a low needs, where all labels g and a guide h are given: v is g where g + h is below the
-- low, and infinite elsewhere. g is 0 at the start, left where a free arc leads from a state whose v is finite then, and infinite
-- where none does.
pub record IsCutAt (n : Network) (start : ℕ) (g h : ℕ → ℕ) (low s cut_g cut_v : ℕ) : Type 0 where
  pub kept : cut_v ≡ kept_v g h low s
  pub from_start : s ≡ start → cut_g ≡ 0
  pub reached : s ≢ start → IsReached n (kept_v g h low) s → cut_g ≡ g s
  pub unreached : s ≢ start → (IsReached n (kept_v g h low) s → ⊥) → cut_g ≡ FAR
  pub left : s ≢ start → (cut_g ≡ g s) ⊎ (cut_g ≡ FAR)

-- these are the cut labels of all states
abbrev pub AreCut : Network → (start : ℕ) → (g h : ℕ → ℕ) → (low : ℕ) → (cut_g cut_v : ℕ → ℕ) → Type 0
AreCut n start g h low cut_g cut_v = (s : ℕ) → s < n.states → IsCutAt n start g h low s (cut_g s) (cut_v s)

-- where labels show their bound, the cut ones show it too
abbrev pub CutLabelsShow : Type 0
CutLabelsShow = (n : Network) (start goal low : ℕ) (g v h cut_g cut_v : ℕ → ℕ) → IsSound n → start < n.states → goal < n.states
    → ShowBound n start goal g v h low → AreCut n start g h low cut_g cut_v → ShowBound n start goal cut_g cut_v h low

-- the labels of s that a section needs for its outcome: all of them where there is no path, and cut ones otherwise
abbrev pub IsNeededAt : Outcome → Network → (m : Marks) → (h : ℕ → ℕ) → (low s g v : ℕ) → Type 0
IsNeededAt outcome.NoPath n m h low s g v = (g ≡ g_of m s) × (v ≡ v_of m s)
IsNeededAt _ n m h low s g v = IsCutAt n m.start (g_of m) h low s g v

-- a row has a finite label
abbrev pub IsFinite : SparseRow → Type 0
IsFinite r = (r.g < FAR) ⊎ (r.v < FAR)

-- rows of the labels that are needed: one for each state of which a label is finite
pub record AreCutRows (o : Outcome) (n : Network) (m : Marks) (h : ℕ → ℕ) (low : ℕ) (rows : List SparseRow) : Type 0 where
  pub rows_are : AreSparseRows n.states rows
  pub finite : (i : ℕ) → i < length rows → IsFinite (sparse_row_at rows i)
  pub needed : (s : ℕ) → s < n.states → IsNeededAt o n m h low s (g_in rows s) (v_in rows s)

-- these rows are determined: by the labels, the guide's values at the states, and the low
abbrev pub CutRowsAreOne : Type 0
CutRowsAreOne = (o : Outcome) (n : Network) (m : Marks) (h k : ℕ → ℕ) (low : ℕ) (rows others : List SparseRow) → ((s : ℕ) → s < n.states → h s ≡ k s)
    → AreCutRows o n m h low rows → AreCutRows o n m k low others → rows ≡ others
