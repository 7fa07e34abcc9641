-- The heuristic: the cell bound joined with the gap.
use Rattle.std.specs.Prelude.{◌≡◌, ℕ, ◌*◌, ◌/◌, ◌%◌, ◌^◌, ◌<◌, ◌≤◌, max, List, length, slice_index}
use Rattle.sbpl_serial.specs.sbpl_graph.Network.{Network}
use Rattle.sbpl_serial.specs.sbpl_graph.Laws.{IsConsistent}
use Rattle.sbpl_cost.specs.sbpl_cfg.Environment.{Environment}
use Rattle.sbpl_cost.specs.States.{state_count}
use Rattle.sbpl_cost.specs.World.{World}
use Rattle.sbpl_cost.specs.Lattices.{network_of}
use Rattle.sbpl_heur.specs.Walks.{IsCellBound}
use Rattle.sbpl_heur.specs.Boards.{cell_count}
use Rattle.sbpl_heur.specs.Followed.{Walking, HasLeast}

-- the number of the cell of a state
abbrev pub cell_of : Environment → ℕ → ℕ
cell_of e s = s / e.headings

-- at each state h is the greater of its cell's bound and its gap to the goal
pub record IsBest (w : World) (goal : ℕ) (h : ℕ → ℕ) : Type 0 where
  pub bound : ℕ → ℕ
  pub bounds : (s : ℕ) → s < state_count w.env → IsCellBound w.env w.prims.items w.map (cell_of w.env goal) (cell_of w.env s) (bound s)
  pub values : (s : ℕ) → s < state_count w.env → h s ≡ max (bound s) ((network_of w).gap s goal)

-- what a heuristic keeps: the goal; for each cell the greater of its bound and of the gap to the goal without the turn; for each heading the gap by turning; and for how many pairs there is room
pub record Table : Type 0 where
  pub goal : ℕ
  pub cells : List ℕ
  pub turns : List ℕ
  pub room : ℕ

-- what the heuristic answers at a state
abbrev pub distance_in : Table → ℕ → ℕ
distance_in b s = max (slice_index b.cells (s / length b.turns)) (slice_index b.turns (s % length b.turns))

-- a state that the heuristic answers for
abbrev pub IsKnown : Table → ℕ → Type 0
IsKnown b s = s < length b.cells * length b.turns

-- there are few states, and the goal is one of them; no value is great
pub record IsTable (b : Table) : Type 0 where
  pub few_cells : length b.cells ≤ 2 ^ 28
  pub few_turns : length b.turns ≤ 2 ^ 28
  pub goal : IsKnown b b.goal
  pub cells : (i : ℕ) → slice_index b.cells i < 2 ^ 55
  pub turns : (i : ℕ) → slice_index b.turns i < 2 ^ 55

-- the lattice has the size that the heuristic was made for, and no more primitives
pub record Fits (w : World) (b : Table) : Type 0 where
  pub cells : length b.cells ≡ w.env.width * w.env.height
  pub turns : length b.turns ≡ w.env.headings
  pub prims : length w.prims.items ≤ b.room

-- the heuristic guides to this goal in this graph
pub record IsGuide (n : Network) (goal : ℕ) (b : Table) : Type 0 where
  pub table : IsTable b
  pub states : n.states ≡ length b.cells * length b.turns
  pub consistent : IsConsistent n goal (distance_in b)

-- the heuristic is the best one to a goal in a world
pub record IsBestGuide (w : World) (goal : ℕ) (b : Table) : Type 0 where
  pub to_goal : b.goal ≡ goal
  pub best : IsBest w goal (distance_in b)
  pub guides : IsGuide (network_of w) goal b
  pub fits : Fits w b

-- the parts of a heuristic: its table, and the walks of cells to the goal's cell
pub record AreParts (b : Table) (walks : Walking) : Type 0 where
  pub table : IsTable b
  pub cells : cell_count walks.board ≡ length b.cells
  pub goal : walks.goal ≡ b.goal / length b.turns
  pub hops : walks.board.room ≡ b.room
  pub least : HasLeast walks
