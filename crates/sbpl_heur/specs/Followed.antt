-- A search for the least weights that follows the map.
use Rattle.std.specs.Prelude.{◌≡◌, ◌≢◌, ℕ, ◌+◌, ◌<◌, ◌≤◌, ◌⊎◌, Bool, true, false, List, Some, length, slice_index, slice_index_or, slice_set}
use Rattle.std.specs.List.{sum_by}
use Rattle.sbpl_serial.specs.sbpl_graph.declared.TheConstants.{FAR}
use Rattle.sbpl_heur.specs.Boards.{Board, IsBoard, cell_count, map_of, start_of, end_of}
use Rattle.sbpl_heur.specs.Weights.{IsHopArc, AreLeast}

-- the cells, the goal, a distance for each cell, and which cells wait to be expanded and which are in doubt
pub record Walking : Type 0 where
  pub board : Board
  pub goal : ℕ
  pub distances : List ℕ
  pub waits : List Bool
  pub doubts : List Bool

-- the distance of a cell
abbrev pub distance : Walking → ℕ → ℕ
distance s a = slice_index s.distances a

-- a cell is marked in a list
abbrev pub IsMarked : List Bool → ℕ → Type 0
IsMarked marks a = slice_index_or marks a false ≡ true

-- hop j leads from cell a to cell c on the board
abbrev pub IsArc : Board → ℕ → ℕ → ℕ → ℕ → Type 0
IsArc b a c j weight = IsHopArc b.env (map_of b) b.hops a c j weight

-- the parts belong together, the goal's distance is 0, and none is above FAR
pub record IsWalking (s : Walking) : Type 0 where
  pub board : IsBoard s.board
  pub goal : s.goal < cell_count s.board
  pub distances : length s.distances ≡ cell_count s.board
  pub waits : length s.waits ≡ cell_count s.board
  pub doubts : length s.doubts ≡ cell_count s.board
  pub at_goal : distance s s.goal ≡ 0
  pub at_most : (a : ℕ) → distance s a ≤ FAR

-- an arc leads from a cell to one from which, by the distances, the goal is near enough
pub record IsSupported (b : Board) (distances : List ℕ) (a : ℕ) : Type 0 where
  pub next : ℕ
  pub hop : ℕ
  pub weight : ℕ
  pub arc : IsArc b a next hop weight
  pub enough : weight + slice_index distances next ≤ slice_index distances a

-- each reached cell but the goal is supported, except where it is in doubt; and no arc would lower a distance, except those that are open
pub record IsUnderway (s : Walking) (doubted : ℕ → Type 0) (open_ : ℕ → ℕ → ℕ → Type 0) : Type 0 where
  pub supported : (a : ℕ) → a < cell_count s.board → distance s a < FAR → a ≢ s.goal → doubted a ⊎ IsSupported s.board s.distances a
  pub relaxed : (a c j weight : ℕ) → IsArc s.board a c j weight → open_ a c j ⊎ (distance s a ≤ weight + distance s c)

-- none is in doubt, and the arcs into waiting cells are open
abbrev pub IsSinking : Walking → Type 0
IsSinking s = IsUnderway s (λ _. ⊥) (λ _ c _. IsMarked s.waits c)

-- a cell is an obstacle, from which no arc leads and to which none does
abbrev pub IsWall : Board → ℕ → Type 0
IsWall b a = b.env.obsthresh ≤ slice_index b.costs a

-- the same, where the distances of obstacles say nothing
abbrev pub IsShut : Walking → Type 0
IsShut s = IsUnderway s (IsWall s.board) (λ _ c _. IsMarked s.waits c)

-- the same, and the arcs from hop k on into a cell are open too
abbrev pub IsExpanded : Walking → ℕ → ℕ → Type 0
IsExpanded s cell k = IsUnderway s (IsWall s.board) (λ _ c j. IsMarked s.waits c ⊎ ((c ≡ cell) × (k ≤ j)))

-- the arcs by hops k to n into a cell would not lower a distance
abbrev pub LowerNone : Walking → ℕ → ℕ → ℕ → Type 0
LowerNone s cell k n = (a j weight : ℕ) → k ≤ j → j < n → IsArc s.board a cell j weight → distance s a ≤ weight + distance s cell

-- other distances are those of obstacles beside the goal
pub record DiffersInWalls (s : Walking) (distances : List ℕ) : Type 0 where
  pub size : length distances ≡ length s.distances
  pub others : (a : ℕ) → (IsWall s.board a → ⊥) ⊎ (a ≡ s.goal) → slice_index distances a ≡ distance s a
  pub at_most : (a : ℕ) → slice_index distances a ≤ FAR

-- the marked cells are in doubt, and the arcs into waiting cells are open
abbrev pub IsDoubtful : Walking → Type 0
IsDoubtful s = IsUnderway s (IsMarked s.doubts) (λ _ c _. IsMarked s.waits c)

-- and one more cell is in doubt
abbrev pub IsDoubtfulBeside : Walking → ℕ → Type 0
IsDoubtfulBeside s cell = IsUnderway s (λ a. IsMarked s.doubts a ⊎ (a ≡ cell)) (λ _ c _. IsMarked s.waits c)

-- a marked cell is taken out of a list of marks
pub record Takes (old new : List Bool) (cell : ℕ) : Type 0 where
  pub inside : cell < length old
  pub marked : IsMarked old cell
  pub taken : new ≡ slice_set old cell false

-- no cell is marked
abbrev pub HasNone : List Bool → Type 0
HasNone marks = (a : ℕ) → slice_index_or marks a false ≡ false

-- what is left to do: it falls with each cell that is taken, and does not rise where a distance is lowered
abbrev pub one_if : Bool → ℕ
one_if true = 1
one_if false = 0

abbrev pub left : Walking → ℕ
left s = sum_by (λ d. d) s.distances + sum_by one_if s.waits

-- the arc by hop k into a cell lowers the distance of its start, which then waits, or would not lower it
pub data Lowers (old new : Walking) (cell k : ℕ) : Type 0 where
  stays : new ≡ old → ((a weight : ℕ) → IsArc old.board a cell k weight → distance old a ≤ weight + distance old cell) → Lowers old new cell k
  falls : (a weight : ℕ) → IsArc old.board a cell k weight → weight + distance old cell < distance old a → new ≡ record old { distances = slice_set old.distances a (weight + distance old cell); waits = slice_set old.waits a true } → Lowers old new cell k

-- only marks have changed, and none was taken away
pub record Marks (old new : Walking) : Type 0 where
  pub rest : new ≡ record old { waits = new.waits; doubts = new.doubts }
  pub waits : (a : ℕ) → IsMarked old.waits a → IsMarked new.waits a
  pub doubts : (a : ℕ) → IsMarked old.doubts a → IsMarked new.doubts a

-- the reached cell that lies farther from the goal than this and from which hop k leads to a cell is in doubt, and the reached one to which it leads from there waits
pub record IsRousedBy (s : Walking) (cell was k : ℕ) : Type 0 where
  pub doubts : (a : ℕ) → start_of s.board cell k ≡ Some a → was < distance s a → distance s a < FAR → IsMarked s.doubts a
  pub waits : (c : ℕ) → end_of s.board cell k ≡ Some c → distance s c < FAR → IsMarked s.waits c

-- each hop does so
abbrev pub AreRoused : Walking → ℕ → ℕ → ℕ → Type 0
AreRoused s cell was n = (k : ℕ) → k < n → IsRousedBy s cell was k

-- each cell has the least weight of a walk to the goal
abbrev pub HasLeast : Walking → Type 0
HasLeast s = AreLeast s.board.env (map_of s.board) s.board.hops s.goal (distance s)
