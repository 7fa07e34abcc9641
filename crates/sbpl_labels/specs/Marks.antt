-- The labels of all states.
use Rattle.std.specs.Prelude.{◌≡◌, ◌≢◌, ℕ, ◌^◌, ◌<◌, Option, None, List, length, slice_index_or}
use Rattle.sbpl_graph.specs.declared.TheConstants.{FAR}
use Rattle.sbpl_graph.specs.Certificate.{IsLabel}
use Rattle.sbpl_labels.specs.declared.row.Row.{Row}

-- the start, and the labels of each state in order
pub record Marks : Type 0 where
  pub start : ℕ
  pub rows : List Row

-- what stands past the last state
abbrev pub no_row : Row
no_row = record { g = 0; v = 0; back = None }

-- the labels of a state to which no way is known
abbrev pub far_row : Row
far_row = record { g = FAR; v = FAR; back = None }

abbrev pub row_at : Marks → ℕ → Row
row_at m s = slice_index_or m.rows s no_row

-- how many states there are, and g, v and the back arc of a state
abbrev pub states_of : Marks → ℕ
states_of m = length m.rows

abbrev pub g_of : Marks → ℕ → ℕ
g_of m s = (row_at m s).g

abbrev pub v_of : Marks → ℕ → ℕ
v_of m s = (row_at m s).v

abbrev pub back_of : Marks → ℕ → Option (ℕ × ℕ)
back_of m s = (row_at m s).back

-- what holds of all labels, on whatever graph
pub record AreLabels (m : Marks) : Type 0 where
  pub start_inside : m.start < states_of m
  pub few_states : states_of m < 2 ^ 32
  pub labels : (s : ℕ) → s < states_of m → IsLabel (g_of m s) × IsLabel (v_of m s)
  pub from_start : g_of m m.start ≡ 0
  pub none_at_start : back_of m m.start ≡ None

-- opened labels: g is 0 at the start, all others are infinite, and there is no back arc
pub record AreInitial (m : Marks) (count first : ℕ) : Type 0 where
  pub states : states_of m ≡ count
  pub start : m.start ≡ first
  pub from_start : g_of m first ≡ 0
  pub far_g : (s : ℕ) → s < count → s ≢ first → g_of m s ≡ FAR
  pub far_v : (s : ℕ) → s < count → v_of m s ≡ FAR
  pub no_arc : (s : ℕ) → back_of m s ≡ None

-- the labels of s become these, and all others stay
pub record ChangesRow (old new : Marks) (s : ℕ) (row : Row) : Type 0 where
  pub start : new.start ≡ old.start
  pub states : states_of new ≡ states_of old
  pub at : row_at new s ≡ row
  pub others : (u : ℕ) → u ≢ s → row_at new u ≡ row_at old u
