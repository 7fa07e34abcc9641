-- The least weights of walks by hops.
use Rattle.std.specs.Prelude.{◌≡◌, ℕ, ◌+◌, ◌*◌, ◌^◌, ◌<◌, ◌≤◌, List, [], ◌∷◌, slice_get, Some}
use Rattle.sbpl_serial.specs.sbpl_graph.declared.TheConstants.{FAR}
use Rattle.sbpl_cost.specs.sbpl_cfg.Environment.{Environment}
use Rattle.sbpl_cost.specs.sbpl_map.CellMap.{CellMap}
use Rattle.sbpl_heur.specs.declared.hop.Hop.{Hop}
use Rattle.sbpl_heur.specs.Walks.{IsCellStep}

-- hop j leads from cell a to cell b
pub record IsHopArc (e : Environment) (m : CellMap) (hops : List Hop) (a b j weight : ℕ) : Type 0 where
  pub hop : Hop
  pub at : slice_get hops j ≡ Some hop
  pub step : IsCellStep e m hop.dx hop.dy hop.cost a b weight

-- a walk from cell a over these cells by hops ends at the goal, and weighs this
abbrev pub IsHopWalk : Environment → CellMap → List Hop → ℕ → List ℕ → ℕ → ℕ → Type 0
IsHopWalk e m hops a [] goal weight = (a ≡ goal) × (weight ≡ 0)
IsHopWalk e m hops a (b ∷ cells) goal weight = (j : ℕ) × (first : ℕ) × (rest : ℕ) × IsHopArc e m hops a b j first × IsHopWalk e m hops b cells goal rest × (weight ≡ first + rest)

-- each cell has the least weight of a walk to the goal, below 2^60, or FAR where there is none
pub record AreLeast (e : Environment) (m : CellMap) (hops : List Hop) (goal : ℕ) (d : ℕ → ℕ) : Type 0 where
  pub goal_inside : goal < m.width * m.height
  pub at_goal : d goal ≡ 0
  pub attained : (a : ℕ) → a < m.width * m.height → d a < FAR → (cells : List ℕ) × IsHopWalk e m hops a cells goal (d a)
  pub least : (a : ℕ) (cells : List ℕ) (weight : ℕ) → a < m.width * m.height → IsHopWalk e m hops a cells goal weight → (d a < 2 ^ 60) × (d a ≤ weight)
