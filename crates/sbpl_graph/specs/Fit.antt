-- How large labels can be after a count of expansions.
use Rattle.std.specs.Prelude.{ℕ, ◌+◌, ◌*◌, ◌<◌, ◌≤◌}
use Rattle.sbpl_graph.specs.declared.TheConstants.{FAR}

-- each finite g is at most `count` greatest costs, and each finite v is at most one cost fewer, so with count 0 no v is finite
pub record FitCount (states : ℕ) (g v : ℕ → ℕ) (count : ℕ) : Type 0 where
  pub near_g : (s : ℕ) → s < states → g s < FAR → g s ≤ count * 4294967295
  pub near_v : (s : ℕ) → s < states → v s < FAR → v s + 4294967295 ≤ count * 4294967295
