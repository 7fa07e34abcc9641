-- Flaws of a claim on a graph, and which of them comes first. Infinity counts as 2^63 in each comparison.
use Rattle.std.specs.Prelude.{◌≡◌, ◌≢◌, ℕ, ◌+◌, ◌<◌, ◌⊎◌, if◌then◌else◌, ◌==◌, IsTrue, Option, Some, None, List, length, take, slice_index, codes}
use Rattle.sbpl_labels.specs.sbpl_graph.declared.TheConstants.{FAR}
use Rattle.sbpl_labels.specs.sbpl_graph.Network.{Network, IsFreeArc}
use Rattle.sbpl_labels.specs.sbpl_graph.Path.{IsFreePath}
use Rattle.sbpl_labels.specs.sbpl_graph.Bound.{IsBound}
use Rattle.sbpl_cert.specs.declared.outcome.Outcome.TheVariants as outcome
use Rattle.sbpl_cert.specs.declared.flaw.Flaw.{Flaw}
use Rattle.sbpl_cert.specs.declared.flaw.Flaw.TheVariants as flaw
use Rattle.sbpl_cert.specs.Claims.{Claim}

-- ---- what each flaw says

-- the start's label is this, and not 0
pub record IsStartOff (g : ℕ → ℕ) (start has : ℕ) : Type 0 where
  pub has_is : has ≡ g start
  pub some : has ≢ 0

-- over a free arc from a state of finite v, the head's label is above what the way over the arc costs
pub record IsArcOff (n : Network) (g v : ℕ → ℕ) (state arc has most : ℕ) : Type 0 where
  pub target : ℕ
  pub cost : ℕ
  pub free : IsFreeArc n state arc target cost
  pub near : v state < FAR
  pub has_is : has ≡ g target
  pub most_is : most ≡ v state + cost
  pub above : most < has

-- the guide is this at the goal, and not 0
pub record IsGoalGuideOff (h : ℕ → ℕ) (goal has : ℕ) : Type 0 where
  pub has_is : has ≡ h goal
  pub some : has ≢ 0

-- the guide falls along a free arc by more than the arc costs
pub record IsGuideOff (n : Network) (h : ℕ → ℕ) (state arc has most : ℕ) : Type 0 where
  pub target : ℕ
  pub cost : ℕ
  pub free : IsFreeArc n state arc target cost
  pub has_is : has ≡ h state
  pub most_is : most ≡ cost + h target
  pub above : most < has

-- a limit of the low at a state: the goal's label, or g + h at another state whose g and v differ
abbrev pub IsLimit : Network → ℕ → (g v h : ℕ → ℕ) → ℕ → ℕ → Type 0
IsLimit n goal g v h state most =
    ((state ≡ goal) × (most ≡ g goal))
    ⊎ ((state ≢ goal) × (state < n.states) × (v state ≢ g state) × (most ≡ g state + h state))

-- the low is above a limit
pub record IsLowOff (n : Network) (goal : ℕ) (s : Claim) (state has most : ℕ) : Type 0 where
  pub limit : IsLimit n goal s.g s.v s.h state most
  pub has_is : has ≡ s.low
  pub above : most < has

-- the arcs before this step are a free path, and from its end the step's arc is not free or does not exist
pub record IsStepOff (n : Network) (start : ℕ) (s : Claim) (step : ℕ) : Type 0 where
  pub cost : ℕ
  pub bound : ℕ
  pub outcome : s.outcome ≡ outcome.Path cost bound
  pub inside : step < length s.arcs
  pub at : ℕ
  pub paid : ℕ
  pub before : IsFreePath n start (take step s.arcs) at paid
  pub shut : (t c : ℕ) → IsFreeArc n at (slice_index s.arcs step) t c → ⊥

-- the arcs are a free path of another cost
pub record IsCostOff (n : Network) (start : ℕ) (s : Claim) (has paid : ℕ) : Type 0 where
  pub bound : ℕ
  pub outcome : s.outcome ≡ outcome.Path has bound
  pub end : ℕ
  pub path : IsFreePath n start s.arcs end paid
  pub differ : paid ≢ has

-- the bound of a cost and a low, if there is one
abbrev pub IsLeastBound : ℕ → ℕ → Option ℕ → Type 0
IsLeastBound cost low (Some b) = IsBound cost low b
IsLeastBound cost low None = (0 < cost) × (low ≡ 0)

-- the bound is not that of the cost and the low
pub record IsBoundOff (s : Claim) (has : ℕ) (least : Option ℕ) : Type 0 where
  pub cost : ℕ
  pub outcome : s.outcome ≡ outcome.Path cost has
  pub least_is : IsLeastBound cost s.low least
  pub differ : least ≢ Some has

-- the path ends at this state, which is not the goal
pub record IsEndOff (n : Network) (start goal : ℕ) (s : Claim) (state : ℕ) : Type 0 where
  pub cost : ℕ
  pub bound : ℕ
  pub outcome : s.outcome ≡ outcome.Path cost bound
  pub paid : ℕ
  pub path : IsFreePath n start s.arcs state paid
  pub other : state ≢ goal

-- there is said to be no path, and this state of finite g is the goal or has an infinite v
pub record IsUnsettled (n : Network) (goal : ℕ) (s : Claim) (state : ℕ) : Type 0 where
  pub outcome : s.outcome ≡ outcome.NoPath
  pub inside : state < n.states
  pub near : s.g state < FAR
  pub unsettled : (state ≡ goal) ⊎ (s.v state ≡ FAR)

-- The claim has this flaw. Values of a guide are flawed only where they are the section's own.
abbrev pub HasFlaw : Network → ℕ → ℕ → Claim → Flaw → Type 0
HasFlaw n start goal s (flaw.Start g) = IsStartOff s.g start g
HasFlaw n start goal s (flaw.Arc state arc has most) = IsArcOff n s.g s.v state arc has most
HasFlaw n start goal s (flaw.GoalGuide has) = IsTrue s.own × IsGoalGuideOff s.h goal has
HasFlaw n start goal s (flaw.Guide state arc has most) = IsTrue s.own × IsGuideOff n s.h state arc has most
HasFlaw n start goal s (flaw.Low state has most) = IsLowOff n goal s state has most
HasFlaw n start goal s (flaw.Path step) = IsStepOff n start s step
HasFlaw n start goal s (flaw.Cost has paid) = IsCostOff n start s has paid
HasFlaw n start goal s (flaw.Bound has least) = IsBoundOff s has least
HasFlaw n start goal s (flaw.Goal state) = IsEndOff n start goal s state ⊎ IsUnsettled n goal s state

-- ---- the order in which they are tested

-- its number
abbrev pub number_of : Flaw → ℕ
number_of (flaw.Start _) = 1
number_of (flaw.Arc _ _ _ _) = 2
number_of (flaw.GoalGuide _) = 3
number_of (flaw.Guide _ _ _ _) = 3
number_of (flaw.Low _ _ _) = 4
number_of (flaw.Path _) = 5
number_of (flaw.Cost _ _) = 6
number_of (flaw.Bound _ _) = 7
number_of (flaw.Goal _) = 8

-- its turn among those of its number: by the state, but a test of the goal alone comes first; or by the step
abbrev pub turn_of : ℕ → Flaw → ℕ
turn_of goal (flaw.Start _) = 0
turn_of goal (flaw.Arc state _ _ _) = state
turn_of goal (flaw.GoalGuide _) = 0
turn_of goal (flaw.Guide state _ _ _) = state + 1
turn_of goal (flaw.Low state _ _) = if state == goal then 0 else state + 1
turn_of goal (flaw.Path step) = step
turn_of goal (flaw.Cost _ _) = 0
turn_of goal (flaw.Bound _ _) = 0
turn_of goal (flaw.Goal state) = state

-- its arc
abbrev pub arc_of : Flaw → ℕ
arc_of (flaw.Start _) = 0
arc_of (flaw.Arc _ arc _ _) = arc
arc_of (flaw.GoalGuide _) = 0
arc_of (flaw.Guide _ arc _ _) = arc
arc_of (flaw.Low _ _ _) = 0
arc_of (flaw.Path _) = 0
arc_of (flaw.Cost _ _) = 0
arc_of (flaw.Bound _ _) = 0
arc_of (flaw.Goal _) = 0

-- one flaw is tested before another: by the number, then by the turn, then by the arc
abbrev pub IsBefore : ℕ → Flaw → Flaw → Type 0
IsBefore goal e f =
    (number_of e < number_of f)
    ⊎ ((number_of e ≡ number_of f) × ((turn_of goal e < turn_of goal f) ⊎ ((turn_of goal e ≡ turn_of goal f) × (arc_of e < arc_of f))))

-- the claim has this flaw, and none that is tested before it
pub record IsFirstFlaw (n : Network) (start goal : ℕ) (s : Claim) (f : Flaw) : Type 0 where
  pub has : HasFlaw n start goal s f
  pub first : (e : Flaw) → HasFlaw n start goal s e → IsBefore goal e f → ⊥

abbrev pub HasNoFlaw : Network → ℕ → ℕ → Claim → Type 0
HasNoFlaw n start goal s = (f : Flaw) → HasFlaw n start goal s f → ⊥

-- ---- what the program prints

-- its name
abbrev pub name_of : Flaw → List ℕ
name_of (flaw.Start _) = codes "Start"
name_of (flaw.Arc _ _ _ _) = codes "Arc"
name_of (flaw.GoalGuide _) = codes "Guide"
name_of (flaw.Guide _ _ _ _) = codes "Guide"
name_of (flaw.Low _ _ _) = codes "Low"
name_of (flaw.Path _) = codes "Path"
name_of (flaw.Cost _ _) = codes "Cost"
name_of (flaw.Bound _ _) = codes "Bound"
name_of (flaw.Goal _) = codes "Goal"
