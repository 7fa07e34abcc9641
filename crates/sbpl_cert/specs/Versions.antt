-- A section of either version: in full, or sparse.
use Rattle.std.specs.Prelude.{◌≡◌, ℕ, List, length}
use Rattle.sbpl_cert.specs.declared.outcome.Outcome.{Outcome}
use Rattle.sbpl_cert.specs.declared.section.Section.{Section}
use Rattle.sbpl_cert.specs.declared.section.Section.TheVariants.{Full, Sparse}
use Rattle.sbpl_cert.specs.Claims.{Claim, claim_of}
use Rattle.sbpl_cert.specs.Sections.{IsFullSection}
use Rattle.sbpl_cert.specs.Sparse.{IsSparseSection, sparse_claim}

-- every value lies in its range
abbrev pub IsSection : Section → Type 0
IsSection (Full s) = IsFullSection s
IsSection (Sparse s) = IsSparseSection s

-- a section is of this plan, and of this number of states
abbrev pub IsOf : ℕ → ℕ → Section → Type 0
IsOf plan states (Full s) = (s.plan ≡ plan) × (length s.labels ≡ states)
IsOf plan states (Sparse s) = (s.plan ≡ plan) × (s.states ≡ states)

-- its outcome, and the arc numbers of a path from the start
abbrev pub outcome_of : Section → Outcome
outcome_of (Full s) = s.outcome
outcome_of (Sparse s) = s.outcome

abbrev pub arcs_of : Section → List ℕ
arcs_of (Full s) = s.arcs
arcs_of (Sparse s) = s.arcs

-- what it claims: in full with its own values of a guide, sparse with h by the guide of the map
abbrev pub claim_by : (h : ℕ → ℕ) → Section → Claim
claim_by h (Full s) = claim_of s
claim_by h (Sparse s) = sparse_claim h s
