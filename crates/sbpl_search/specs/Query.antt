-- What stays the same over a pass.
use Rattle.std.specs.Prelude.{ℕ}
use Rattle.sbpl_labels.specs.sbpl_graph.Network.{Network}

-- the graph, the guide, the inflation in thousandths, and the goal
pub record Query : Type 0 where
  pub network : Network
  pub guide : ℕ → ℕ
  pub eps : ℕ
  pub goal : ℕ

abbrev pub query : Network → (ℕ → ℕ) → ℕ → ℕ → Query
query n h eps goal = record { network = n; guide = h; eps = eps; goal = goal }
