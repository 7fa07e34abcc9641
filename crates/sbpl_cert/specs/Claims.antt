-- What a section claims of the states of a graph, however it is written.
use Rattle.std.specs.Prelude.{ℕ, ◌<◌, Bool, true, List}
use Rattle.sbpl_labels.specs.sbpl_graph.Certificate.{IsLabel}
use Rattle.sbpl_cert.specs.declared.outcome.Outcome.{Outcome}
use Rattle.sbpl_cert.specs.Sections.{FullSection, g_at, v_at, h_at}

-- the low, the outcome, the arc numbers of a path from the start, the labels and the guide's value of each state, and whether these
-- values are the section's own
pub record Claim : Type 0 where
  pub low : ℕ
  pub outcome : Outcome
  pub arcs : List ℕ
  pub g : ℕ → ℕ
  pub v : ℕ → ℕ
  pub h : ℕ → ℕ
  pub own : Bool

-- its labels are labels
abbrev pub AreLabelled : (states : ℕ) → Claim → Type 0
AreLabelled states c = (s : ℕ) → s < states → IsLabel (c.g s) × IsLabel (c.v s)

-- what a section with a row for each state claims
abbrev pub claim_of : FullSection → Claim
claim_of s = record { low = s.low; outcome = s.outcome; arcs = s.arcs; g = g_at s.labels; v = v_at s.labels; h = h_at s.labels; own = true }
