-- The least way to a state by a look at one tail after the other.
use Rattle.std.specs.Prelude.{◌≡◌, ℕ, ◌+◌, ◌<◌, ◌≤◌, Option, Some, None}
use Rattle.sbpl_graph.specs.declared.TheConstants.{FAR}
use Rattle.sbpl_graph.specs.Network.{Network}
use Rattle.sbpl_labels.specs.Recomputed.{IsWay}

-- tail j, below number i, is a way that gives t the label g; none below i gives less, and none before j gives as little
pub record IsLeastWay (n : Network) (v : ℕ → ℕ) (t i g j s k c : ℕ) : Type 0 where
  pub below : j < i
  pub way : IsWay n v t j s k c
  pub gives : g ≡ v s + c
  pub least : (x a l d : ℕ) → x < i → IsWay n v t x a l d → g ≤ v a + d
  pub first : (x a l d : ℕ) → x < j → IsWay n v t x a l d → g < v a + d

-- the least way over the tails below number i, or none
abbrev pub IsLeastBelow : Network → (ℕ → ℕ) → ℕ → ℕ → Option ((ℕ × ℕ) × ℕ) → Type 0
IsLeastBelow n v t i None = (j s k c : ℕ) → j < i → IsWay n v t j s k c → ⊥
IsLeastBelow n v t i (Some ((s, k), g)) = (j : ℕ) × (c : ℕ) × IsLeastWay n v t i g j s k c

-- a way is better than the least one so far where it gives less than this
abbrev pub limit_of : Option ((ℕ × ℕ) × ℕ) → ℕ
limit_of None = FAR
limit_of (Some (arc, g)) = g
