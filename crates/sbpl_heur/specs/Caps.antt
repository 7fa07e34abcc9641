-- Distances capped at the greatest that a reached cell has, and at MOST.
use Rattle.std.specs.Prelude.{◌≡◌, ℕ, ◌+◌, ◌*◌, ◌/◌, ◌%◌, ◌<◌, ◌≤◌, ◌⊎◌, min, max, List, length, slice_index}
use Rattle.sbpl_serial.specs.sbpl_graph.declared.TheConstants.{FAR}
use Rattle.sbpl_cost.specs.World.{World}
use Rattle.sbpl_cost.specs.Lattices.{network_of}
use Rattle.sbpl_heur.specs.declared.cap.TheConstants.{MOST}

-- the greatest distance below FAR of the first n cells, or 0 where there is none
pub record IsFarthestReached (d : ℕ → ℕ) (n far : ℕ) : Type 0 where
  pub none_above : (a : ℕ) → a < n → d a < FAR → d a ≤ far
  pub attained : (far ≡ 0) ⊎ ((a : ℕ) × (a < n) × (d a ≡ far) × (far < FAR))
  pub small : far < FAR

-- what a distance becomes: capped at a bound, and raised to the gap that its cell makes with the goal's heading
abbrev pub capped_to : World → ℕ → ℕ → ℕ → ℕ → ℕ
capped_to w goal most a d = max (min d most) ((network_of w).gap (a * w.env.headings + goal % w.env.headings) goal)

-- each distance has become that, by the lesser of the greatest and MOST
pub record IsCapped (w : World) (goal : ℕ) (old new : List ℕ) : Type 0 where
  pub far : ℕ
  pub farthest : IsFarthestReached (slice_index old) (length old) far
  pub size : length new ≡ length old
  pub values : (a : ℕ) → a < length old → slice_index new a ≡ capped_to w goal (min far MOST) a (slice_index old a)

-- for each heading the gap that it makes at the goal's cell
abbrev pub AreTurns : World → ℕ → List ℕ → Type 0
AreTurns w goal turns = (t : ℕ) → t < length turns → slice_index turns t ≡ (network_of w).gap (goal / w.env.headings * w.env.headings + t) goal
