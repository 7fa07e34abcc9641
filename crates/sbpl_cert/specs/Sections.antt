-- A section of a label text: what a plan answered, and the labels that show it.
use Rattle.std.specs.Prelude.{◌≡◌, ℕ, ◌^◌, ◌<◌, ◌≤◌, ◌⊎◌, List, [], length, slice_index, slice_index_or}
use Rattle.sbpl_labels.specs.sbpl_graph.declared.TheConstants.{FAR}
use Rattle.sbpl_labels.specs.sbpl_graph.Certificate.{IsLabel}
use Rattle.sbpl_cert.specs.declared.outcome.Outcome.{Outcome}
use Rattle.sbpl_cert.specs.declared.outcome.Outcome.TheVariants as outcome
use Rattle.sbpl_cert.specs.declared.row.Row.{Row}
use Rattle.sbpl_cert.specs.Labelling.{Labelling}
use Rattle.sbpl_labels.specs.sbpl_graph.Laws.{IsConsistent}
use Rattle.sbpl_labels.specs.sbpl_graph.Network.{Network}

-- the plan's number, the low of the labels, the outcome, the arc numbers of a path from the start, and a row for each state in order
pub record FullSection : Type 0 where
  pub plan : ℕ
  pub low : ℕ
  pub outcome : Outcome
  pub arcs : List ℕ
  pub labels : List Row

-- what stands past the last state
abbrev pub no_row : Row
no_row = record { g = 0; v = 0; h = 0 }

abbrev pub row_at : List Row → ℕ → Row
row_at labels s = slice_index_or labels s no_row

-- the labels g and v of a state, and its guide's value
abbrev pub g_at : List Row → ℕ → ℕ
g_at labels s = (row_at labels s).g

abbrev pub v_at : List Row → ℕ → ℕ
v_at labels s = (row_at labels s).v

abbrev pub h_at : List Row → ℕ → ℕ
h_at labels s = (row_at labels s).h

-- ---- ranges

-- two labels, each infinite or below 2^62, and a guide's value below 2^55
pub record IsRow (r : Row) : Type 0 where
  pub g : IsLabel r.g
  pub v : IsLabel r.v
  pub h : r.h < 2 ^ 55

abbrev pub AreRows : List Row → Type 0
AreRows labels = (s : ℕ) → s < length labels → IsRow (row_at labels s)

-- a low is infinite or below 2^63
abbrev pub IsLowest : ℕ → Type 0
IsLowest low = (low ≡ FAR) ⊎ (low < 2 ^ 63)

-- a cost below 2^62, and a bound of 1.000 and more with thousandths below 2^100
abbrev pub IsOutcomeInRange : Outcome → Type 0
IsOutcomeInRange (outcome.Path cost bound) = (cost < 2 ^ 62) × (1000 ≤ bound) × (bound < 2 ^ 100)
IsOutcomeInRange outcome.NoPath = Unit {0}
IsOutcomeInRange outcome.Unknown = Unit {0}

-- fewer than 2^28 arc numbers below 4096
pub record AreArcs (arcs : List ℕ) : Type 0 where
  pub few : length arcs < 2 ^ 28
  pub small : (i : ℕ) → i < length arcs → slice_index arcs i < 4096

-- arcs stand in a section of a path alone
abbrev pub HasArcs : Outcome → List ℕ → Type 0
HasArcs (outcome.Path cost bound) arcs = AreArcs arcs
HasArcs outcome.NoPath arcs = arcs ≡ []
HasArcs outcome.Unknown arcs = arcs ≡ []

-- every value lies in its range
pub record IsFullSection (s : FullSection) : Type 0 where
  pub plan : s.plan < 2 ^ 32
  pub low : IsLowest s.low
  pub outcome : IsOutcomeInRange s.outcome
  pub arcs : HasArcs s.outcome s.arcs
  pub states : length s.labels < 2 ^ 32
  pub labels : AreRows s.labels

-- ---- its labels and its guide

-- its labels: each state is listed
abbrev pub full_labelling : FullSection → Labelling
full_labelling s = record { states = length s.labels; count = length s.labels; state = λ i. i; g = g_at s.labels; v = v_at s.labels }

-- its values of a guide are those of a guide to the goal on this graph
pub record GuidesBy (s : FullSection) (n : Network) (goal : ℕ) : Type 0 where
  pub consistent : IsConsistent n goal (h_at s.labels)
  pub known : (u : ℕ) → u < n.states → u < length s.labels
  pub small : (u : ℕ) → u < n.states → h_at s.labels u < 2 ^ 55
