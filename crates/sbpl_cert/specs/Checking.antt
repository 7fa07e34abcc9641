-- What the parts of a check answer: a test holds wherever it was made, or there is a first place where it fails.
use Rattle.std.specs.Prelude.{◌≡◌, ◌≢◌, ℕ, ◌+◌, ◌<◌, ◌≤◌, ◌⊎◌, Option, Some, List, length, take, slice_index}
use Rattle.sbpl_labels.specs.sbpl_graph.declared.TheConstants.{FAR}
use Rattle.sbpl_labels.specs.sbpl_graph.Network.{Network, IsFreeArc}
use Rattle.sbpl_labels.specs.sbpl_graph.Bound.{IsBound}
use Rattle.sbpl_labels.specs.sbpl_graph.Path.{IsFreePath}
use Rattle.sbpl_cert.specs.declared.outcome.Outcome.{Outcome}
use Rattle.sbpl_cert.specs.declared.outcome.Outcome.TheVariants as outcome
use Rattle.sbpl_cert.specs.declared.flaw.Flaw.{Flaw}
use Rattle.sbpl_cert.specs.declared.flaw.Flaw.TheVariants as flaw
use Rattle.sbpl_cert.specs.Flaws.{IsArcOff, IsGuideOff, IsLeastBound}

-- arc k of state s is not free
abbrev pub IsShut : Network → ℕ → ℕ → Type 0
IsShut n s k = (t c : ℕ) → IsFreeArc n s k t c → ⊥

-- ---- labels along arcs

-- the head's label is at most what the way over the arc costs
abbrev pub IsArcKept : Network → (g v : ℕ → ℕ) → ℕ → ℕ → Type 0
IsArcKept n g v s k = (t c : ℕ) → IsFreeArc n s k t c → v s < FAR → g t ≤ v s + c

-- this is the flaw of the arc
abbrev pub IsArcFlaw : Network → (g v : ℕ → ℕ) → ℕ → ℕ → Flaw → Type 0
IsArcFlaw n g v s k f = (has : ℕ) × (most : ℕ) × (f ≡ flaw.Arc s k has most) × IsArcOff n g v s k has most

-- this is the flaw of the first arc of the state that has one
abbrev pub IsArcFlawAt : Network → (g v : ℕ → ℕ) → ℕ → Flaw → Type 0
IsArcFlawAt n g v s f = (k : ℕ) × IsArcFlaw n g v s k f × ((j : ℕ) → j < k → IsArcKept n g v s j)

-- this is the flaw of the first state that has one
abbrev pub IsFirstArcFlaw : Network → (g v : ℕ → ℕ) → Flaw → Type 0
IsFirstArcFlaw n g v f = (s : ℕ) × IsArcFlawAt n g v s f × ((u : ℕ) → u < s → (k : ℕ) → IsArcKept n g v u k)

-- g is 0 at the start, and labels are kept along all arcs
abbrev pub AreAllKept : Network → (start : ℕ) → (g v : ℕ → ℕ) → Type 0
AreAllKept n start g v = (g start ≡ 0) × ((s k : ℕ) → IsArcKept n g v s k)

-- this is the first flaw of the start and of the labels along arcs
abbrev pub IsSupportFlaw : Network → (start : ℕ) → (g v : ℕ → ℕ) → Flaw → Type 0
IsSupportFlaw n start g v f = ((g start ≢ 0) × (f ≡ flaw.Start (g start))) ⊎ ((g start ≡ 0) × IsFirstArcFlaw n g v f)

-- ---- the guide along arcs

-- the guide falls along the arc by no more than it costs
abbrev pub IsGuideKept : Network → (h : ℕ → ℕ) → ℕ → ℕ → Type 0
IsGuideKept n h s k = (t c : ℕ) → IsFreeArc n s k t c → h s ≤ c + h t

abbrev pub IsGuideFlaw : Network → (h : ℕ → ℕ) → ℕ → ℕ → Flaw → Type 0
IsGuideFlaw n h s k f = (has : ℕ) × (most : ℕ) × (f ≡ flaw.Guide s k has most) × IsGuideOff n h s k has most

abbrev pub IsGuideFlawAt : Network → (h : ℕ → ℕ) → ℕ → Flaw → Type 0
IsGuideFlawAt n h s f = (k : ℕ) × IsGuideFlaw n h s k f × ((j : ℕ) → j < k → IsGuideKept n h s j)

abbrev pub IsFirstGuideFlaw : Network → (h : ℕ → ℕ) → Flaw → Type 0
IsFirstGuideFlaw n h f = (s : ℕ) × IsGuideFlawAt n h s f × ((u : ℕ) → u < s → (k : ℕ) → IsGuideKept n h u k)

-- the guide is 0 at the goal, and kept along all arcs
abbrev pub IsGuideRight : Network → (goal : ℕ) → (h : ℕ → ℕ) → Type 0
IsGuideRight n goal h = (h goal ≡ 0) × ((s k : ℕ) → IsGuideKept n h s k)

-- this is the first flaw of the guide
abbrev pub IsGuideOffFirst : Network → (goal : ℕ) → (h : ℕ → ℕ) → Flaw → Type 0
IsGuideOffFirst n goal h f = ((h goal ≢ 0) × (f ≡ flaw.GoalGuide (h goal))) ⊎ ((h goal ≡ 0) × IsFirstGuideFlaw n h f)

-- ---- the low

-- the low is at most what the state allows
abbrev pub IsLowKept : (g v h : ℕ → ℕ) → ℕ → ℕ → Type 0
IsLowKept g v h low s = (v s ≡ g s → ⊥) → low ≤ g s + h s

-- this is the flaw of the first state that does not allow the low
abbrev pub IsFirstLowFlaw : (states : ℕ) → (g v h : ℕ → ℕ) → ℕ → Flaw → Type 0
IsFirstLowFlaw states g v h low f =
    (s : ℕ) × (f ≡ flaw.Low s low (g s + h s)) × (s < states) × (v s ≡ g s → ⊥)
    × (g s + h s < low) × ((u : ℕ) → u < s → IsLowKept g v h low u)

-- the low is at most what the goal and each state allow
abbrev pub IsLowAllowed : (states goal : ℕ) → (g v h : ℕ → ℕ) → ℕ → Type 0
IsLowAllowed states goal g v h low = (low ≤ g goal) × ((s : ℕ) → s < states → IsLowKept g v h low s)

-- this is the first flaw of the low
abbrev pub IsLowFlaw : (states goal : ℕ) → (g v h : ℕ → ℕ) → ℕ → Flaw → Type 0
IsLowFlaw states goal g v h low f = ((g goal < low) × (f ≡ flaw.Low goal low (g goal))) ⊎ ((low ≤ g goal) × IsFirstLowFlaw states g v h low f)

-- ---- a path

-- this is the flaw of the first step whose arc is not free
abbrev pub IsStepFlaw : Network → ℕ → List ℕ → Flaw → Type 0
IsStepFlaw n start arcs f =
    (step : ℕ) × (f ≡ flaw.Path step) × (step < length arcs) × (at : ℕ) × (paid : ℕ) × IsFreePath n start (take step arcs) at paid × IsShut n at (slice_index arcs step)

-- this is the flaw of a bound that is not the least one
abbrev pub IsBoundFlaw : ℕ → ℕ → ℕ → Flaw → Type 0
IsBoundFlaw cost low bound f = (least : Option ℕ) × (f ≡ flaw.Bound bound least) × IsLeastBound cost low least × (least ≡ Some bound → ⊥)

-- ---- no path

-- a state of finite g is not the goal and has a finite v
abbrev pub IsSettled : ℕ → (g v : ℕ → ℕ) → ℕ → Type 0
IsSettled goal g v s = g s < FAR → (s ≡ goal → ⊥) × (v s < FAR)

-- this is the flaw of the first state that is not settled
abbrev pub IsFirstUnsettledFlaw : (states goal : ℕ) → (g v : ℕ → ℕ) → Flaw → Type 0
IsFirstUnsettledFlaw states goal g v f = (s : ℕ) × (f ≡ flaw.Goal s) × (s < states) × (g s < FAR) × ((s ≡ goal) ⊎ (v s ≡ FAR)) × ((u : ℕ) → u < s → IsSettled goal g v u)

-- ---- an outcome

-- this is the first flaw of a path whose arcs are free, which ends at this state and costs this
abbrev pub IsEndFlaw : (goal cost low bound at paid : ℕ) → Flaw → Type 0
IsEndFlaw goal cost low bound at paid f =
    ((paid ≢ cost) × (f ≡ flaw.Cost cost paid))
    ⊎ ((paid ≡ cost) × (IsBoundFlaw cost low bound f ⊎ (IsBound cost low bound × (at ≢ goal) × (f ≡ flaw.Goal at))))

-- this is the first flaw of a path
abbrev pub IsPathFlaw : Network → (start goal : ℕ) → List ℕ → (cost low bound : ℕ) → Flaw → Type 0
IsPathFlaw n start goal arcs cost low bound f =
    IsStepFlaw n start arcs f ⊎ ((at : ℕ) × (paid : ℕ) × IsFreePath n start arcs at paid × IsEndFlaw goal cost low bound at paid f)

-- the outcome is right: a path is free and has its cost and its bound; for none, each state is settled
abbrev pub IsOutcomeRight : Network → (start goal low : ℕ) → List ℕ → (g v : ℕ → ℕ) → Outcome → Type 0
IsOutcomeRight n start goal low arcs g v (outcome.Path cost bound) = IsFreePath n start arcs goal cost × IsBound cost low bound
IsOutcomeRight n start goal low arcs g v outcome.NoPath = (s : ℕ) → s < n.states → IsSettled goal g v s
IsOutcomeRight n start goal low arcs g v outcome.Unknown = Unit {0}

-- this is the first flaw of the outcome
abbrev pub IsOutcomeFlaw : Network → (start goal low : ℕ) → List ℕ → (g v : ℕ → ℕ) → Outcome → Flaw → Type 0
IsOutcomeFlaw n start goal low arcs g v (outcome.Path cost bound) f = IsPathFlaw n start goal arcs cost low bound f
IsOutcomeFlaw n start goal low arcs g v outcome.NoPath f = IsFirstUnsettledFlaw n.states goal g v f
IsOutcomeFlaw n start goal low arcs g v outcome.Unknown f = ⊥
