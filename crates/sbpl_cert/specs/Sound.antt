-- What a claim without a flaw shows, and what is true on the graph then.
use Rattle.std.specs.Prelude.{ℕ, ◌*◌, ◌≤◌, List}
use Rattle.sbpl_labels.specs.sbpl_graph.Network.{Network}
use Rattle.sbpl_labels.specs.sbpl_graph.Path.{IsFreePath}
use Rattle.sbpl_labels.specs.sbpl_graph.Bound.{IsBound}
use Rattle.sbpl_labels.specs.sbpl_graph.Certificate.{ShowBound, ShowNone}
use Rattle.sbpl_cert.specs.declared.outcome.Outcome.{Outcome}
use Rattle.sbpl_cert.specs.declared.outcome.Outcome.TheVariants as outcome
use Rattle.sbpl_cert.specs.Claims.{Claim}

-- the labels, the guide and the low show their bound
abbrev pub ShowsBound : Network → ℕ → ℕ → Claim → Type 0
ShowsBound n start goal s = ShowBound n start goal s.g s.v s.h s.low

-- a path is free and has its cost and its bound; for none, the labels show that there is none
abbrev pub ShowsOutcome : Network → ℕ → ℕ → Claim → Outcome → Type 0
ShowsOutcome n start goal s (outcome.Path cost bound) = IsFreePath n start s.arcs goal cost × IsBound cost s.low bound
ShowsOutcome n start goal s outcome.NoPath = ShowNone n start goal s.g s.v
ShowsOutcome n start goal s outcome.Unknown = Unit {0}

-- it shows what it says
pub record ShowsAll (n : Network) (start goal : ℕ) (s : Claim) : Type 0 where
  pub bound : ShowsBound n start goal s
  pub outcome : ShowsOutcome n start goal s s.outcome

-- The path is free, joins start and goal, has its cost, and costs at most its bound times what any free path does. Or there is none.
abbrev pub IsSo : Network → ℕ → ℕ → List ℕ → Outcome → Type 0
IsSo n start goal arcs (outcome.Path cost bound) =
    IsFreePath n start arcs goal cost × ((others : List ℕ) (dear : ℕ) → IsFreePath n start others goal dear → 1000 * cost ≤ bound * dear)
IsSo n start goal arcs outcome.NoPath = (others : List ℕ) (cost : ℕ) → IsFreePath n start others goal cost → ⊥
IsSo n start goal arcs outcome.Unknown = Unit {0}
