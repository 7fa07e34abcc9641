-- Ends of arcs that are appended to a list.
use Rattle.std.specs.Prelude.{◌≡◌, ◌≢◌, ℕ, ◌<◌, ◌≤◌, ◌++◌, List, length}
use Rattle.std.specs.List.{AllByRecursion, AllPairs}
use Rattle.sbpl_terrain.specs.sbpl_graph.Network.{Network, IsArc}
use Rattle.sbpl_nav2d.specs.declared.cell.Cell.{Cell}
use Rattle.sbpl_nav2d.specs.Directions.{moved}
use Rattle.sbpl_nav2d.specs.World.{GridWorld}
use Rattle.sbpl_nav2d.specs.Arc.{cell_of}
use Rattle.sbpl_terrain.specs.Ends.{at_end}
use Rattle.sbpl_terrain.specs.declared.arc_end.ArcEnd.{ArcEnd}
use Rattle.sbpl_nav2d.specs.Reads.{ReadsCell}
use Rattle.sbpl_nav2d.specs.Reading.{AreAtEnd, IsAmong}

-- something was appended to a list
pub record Extends (old new : List ℕ) : Type 0 where
  pub added : List ℕ
  pub kept : new ≡ old ++ added

-- the states at this end of all arcs of a kind were appended to a list, one for each of them, and at most so many
pub record Adds (end : ArcEnd) (n : Network) (P : ℕ → ℕ → Type 0) (old new : List ℕ) (most : ℕ) : Type 0 where
  pub added : List ℕ
  pub kept : new ≡ old ++ added
  pub arcs : List (ℕ × ℕ)
  pub ends : AreAtEnd end n arcs added
  pub sound : AllByRecursion (λ (a : ℕ × ℕ). P a.0 a.1) arcs
  pub each : (s k t : ℕ) → IsArc n s k t → P s k → IsAmong s k arcs
  pub apart : AllPairs (λ (a b : ℕ × ℕ). a ≢ b) arcs
  pub few : length added ≤ most

-- an arc in direction k reads a cell as this far from its source
pub record ReadsAs (w : GridWorld) (k : ℕ) (offset cell : Cell) (s number : ℕ) : Type 0 where
  pub number_is : number ≡ k
  pub cell_is : moved (cell_of w s) offset ≡ cell

-- an arc in direction k reads a cell
pub record ReadsIn (w : GridWorld) (k : ℕ) (cell : Cell) (s number : ℕ) : Type 0 where
  pub number_is : number ≡ k
  pub reads : ReadsCell w s number cell.x cell.y

-- an arc in one of the first directions reads a cell
pub record ReadsBelow (w : GridWorld) (k : ℕ) (cell : Cell) (s number : ℕ) : Type 0 where
  pub before : number < k
  pub reads : ReadsCell w s number cell.x cell.y

-- this state is at this end of the arc in direction k that reads a cell as this far from its source
pub record IsEndBy (end : ArcEnd) (w : GridWorld) (k : ℕ) (offset cell : Cell) (n : Network) (t : ℕ) : Type 0 where
  pub source : ℕ
  pub head : ℕ
  pub arc : IsArc n source k head
  pub at : t ≡ at_end end (source, head)
  pub reads : ReadsAs w k offset cell source k
