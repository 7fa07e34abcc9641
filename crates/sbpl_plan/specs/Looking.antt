-- What labels show after a pass.
use Rattle.std.specs.Prelude.{◌≡◌, ℕ, ◌≤◌, List, []}
use Rattle.sbpl_search.specs.sbpl_graph.declared.TheConstants.{FAR}
use Rattle.sbpl_search.specs.sbpl_graph.Network.{Network}
use Rattle.sbpl_search.specs.sbpl_graph.Bound.{IsBound, IsLow}
use Rattle.sbpl_search.specs.sbpl_labels.Marks.{Marks, states_of, g_of, v_of, back_of}
use Rattle.sbpl_search.specs.sbpl_labels.Chain.{IsWalk, IsFirstBreak}
use Rattle.sbpl_plan.specs.declared.found.Found.{Found}
use Rattle.sbpl_plan.specs.declared.found.Found.TheVariants as found

-- the walk along the back arcs is this path, and its bound is that of its cost and the labels' low
pub record IsPathFound (n : Network) (h : ℕ → ℕ) (goal : ℕ) (m : Marks) (arcs : List ℕ) (cost bound : ℕ) : Type 0 where
  pub walk : IsWalk n m.start (g_of m) (v_of m) (back_of m) goal cost arcs
  pub low : ℕ
  pub low_is : IsLow (states_of m) goal (g_of m) (v_of m) h low
  pub bound_is : IsBound cost low bound

-- what the walk along the back arcs gives, and its arcs from the start
abbrev pub WalkFinds : Network → (ℕ → ℕ) → ℕ → Marks → List ℕ → Found → Type 0
WalkFinds n h goal m arcs (found.Path cost bound) = IsPathFound n h goal m arcs cost bound
WalkFinds n h goal m arcs found.None = (g_of m goal ≡ FAR) × (arcs ≡ [])
WalkFinds n h goal m arcs found.Broken = ((s : ℕ) × IsFirstBreak (states_of m) (g_of m) (v_of m) (back_of m) goal s) × (arcs ≡ [])

-- a path with a bound that is good enough
abbrev pub IsEnough : ℕ → Found → Type 0
IsEnough asked (found.Path cost bound) = bound ≤ asked
IsEnough asked _ = ⊥
