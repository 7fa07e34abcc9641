-- When labels show a bound, and when they show that there is no path.
use Rattle.std.specs.Prelude.{◌≡◌, ◌≢◌, ℕ, ◌+◌, ◌^◌, ◌<◌, ◌≤◌, ◌⊎◌, List}
use Rattle.sbpl_graph.specs.declared.TheConstants.{FAR}
use Rattle.sbpl_graph.specs.Network.{Network, IsFreeArc}
use Rattle.sbpl_graph.specs.Laws.{IsSound, IsConsistent}
use Rattle.sbpl_graph.specs.Path.{IsFreePath}

-- a label is infinite or below 2^62
abbrev pub IsLabel : ℕ → Type 0
IsLabel x = (x ≡ FAR) ⊎ (x < 2 ^ 62)

-- labels are 0 at the start, and along each free arc g grows from v by at most the arc's cost
pub record AreSupported (n : Network) (start : ℕ) (g v : ℕ → ℕ) : Type 0 where
  pub labels : (s : ℕ) → s < n.states → IsLabel (g s) × IsLabel (v s)
  pub from_start : g start ≡ 0
  pub along : (s k t c : ℕ) → IsFreeArc n s k t c → v s < FAR → g t ≤ v s + c

-- labels, a guide h and a number low show their bound
pub record ShowBound (n : Network) (start goal : ℕ) (g v h : ℕ → ℕ) (low : ℕ) : Type 0 where
  pub supported : AreSupported n start g v
  pub consistent : IsConsistent n goal h
  pub at_goal : low ≤ g goal
  pub unsettled : (s : ℕ) → s < n.states → v s ≢ g s → low ≤ g s + h s

-- labels show that there is no path: the goal is infinite, and every state of finite g has a finite v
pub record ShowNone (n : Network) (start goal : ℕ) (g v : ℕ → ℕ) : Type 0 where
  pub supported : AreSupported n start g v
  pub goal_is_far : g goal ≡ FAR
  pub closed : (s : ℕ) → s < n.states → g s < FAR → v s < FAR

-- where labels show their bound, every free path from start to goal costs at least that
abbrev pub BoundHolds : Type 0
BoundHolds = (n : Network) (start goal low : ℕ) (g v h : ℕ → ℕ) → IsSound n → ShowBound n start goal g v h low
    → (arcs : List ℕ) (cost : ℕ) → IsFreePath n start arcs goal cost → low ≤ cost

-- where labels show that there is no path, no free path leads from start to goal
abbrev pub NoneHolds : Type 0
NoneHolds = (n : Network) (start goal : ℕ) (g v : ℕ → ℕ) → IsSound n → ShowNone n start goal g v
    → (arcs : List ℕ) (cost : ℕ) → IsFreePath n start arcs goal cost → ⊥
