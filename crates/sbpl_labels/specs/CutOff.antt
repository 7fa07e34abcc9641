-- Labels by which the goal is cut off from the start.
use Rattle.std.specs.Prelude.{◌≡◌, ℕ, ◌<◌}
use Rattle.sbpl_graph.specs.declared.TheConstants.{FAR}

-- the goal's label is infinite, and each state of finite g has a finite v
pub record IsCutOff (states goal : ℕ) (g v : ℕ → ℕ) : Type 0 where
  pub goal_is_far : g goal ≡ FAR
  pub closed : (s : ℕ) → s < states → g s < FAR → v s < FAR
