-- What the text of a grid's environment is: its list of tokens, each number with its value and in its range.
use Rattle.std.specs.Prelude.{◌≡◌, ◌≢◌, ℕ, pos, ◌*◌, ◌≤◌, List, [], ◌∷◌, ◌++◌, length, codes}
use Rattle.std.specs.List.{AllByRecursion}
use Rattle.sbpl_fixed.specs.Meaning.{HasFirstFault}
use Rattle.sbpl_terrain.specs.sbpl_cfg.Text.{Said, word, number, AllMean, words_of, spelled_grid}
use Rattle.sbpl_terrain.specs.sbpl_cfg.declared.fault.EnvFault.{EnvFault}
use Rattle.sbpl_terrain.specs.sbpl_cfg.declared.fault.EnvFault.TheVariants.{NoMemory}
use Rattle.sbpl_terrain.specs.sbpl_cfg.Faults.{told}
use Rattle.sbpl_nav2d.specs.Format.{environment_format}
use Rattle.sbpl_nav2d.specs.Environment.{NavEnvironment, IsNavEnvironment, column_of, row_of}

abbrev pub spelled_size : NavEnvironment → List Said
spelled_size e = word (codes "discretization(cells):") ∷ number (pos e.width) ∷ number (pos e.height) ∷ []

abbrev pub spelled_obsthresh : NavEnvironment → List Said
spelled_obsthresh e = word (codes "obsthresh:") ∷ number (pos e.obsthresh) ∷ []

-- a state by the column and the row of its cell
abbrev pub spelled_state : List ℕ → (width : ℕ) → (state : ℕ) → List Said
spelled_state name width s = word name ∷ number (pos (column_of width s)) ∷ number (pos (row_of width s)) ∷ []

-- the tokens before the costs
abbrev pub spelled_numbers : NavEnvironment → List Said
spelled_numbers e =
    spelled_size e
    ++ (spelled_obsthresh e
    ++ (spelled_state (codes "start(cells):") e.width e.start ++ spelled_state (codes "end(cells):") e.width e.end))

-- the whole list, with the costs row by row
abbrev pub spelled : NavEnvironment → List ℕ → List Said
spelled e cells = spelled_numbers e ++ spelled_grid cells

-- the costs of a grid of an environment's size
pub record IsGridOf (e : NavEnvironment) (cells : List ℕ) : Type 0 where
  pub size : length cells ≡ e.width * e.height
  pub costs : AllByRecursion (λ c. c ≤ 255) cells

-- The text stands for the environment and the grid: its tokens are those of the file, the numbers lie in their ranges,
-- there are not more states than the limit, both cells are on the map, and the grid has the size.
pub record IsTextOf (states : ℕ) (text : List ℕ) (e : NavEnvironment) (cells : List ℕ) : Type 0 where
  pub tokens : AllMean (spelled e cells) (words_of text)
  pub environment : IsNavEnvironment e
  pub few : e.width * e.height ≤ states
  pub grid : IsGridOf e cells

-- the text stands for an environment and a grid
abbrev pub IsText : (states : ℕ) → List ℕ → Type 0
IsText states text = (e : NavEnvironment) × (cells : List ℕ) × IsTextOf states text e cells

-- up to the fault's offset the text is what the format calls for, and there it fails in the way that the fault names
abbrev pub HasFault : (states : ℕ) → List ℕ → EnvFault → Type 0
HasFault states text f = HasFirstFault told (environment_format states) text f

abbrev pub IsFaulty : (states : ℕ) → List ℕ → Type 0
IsFaulty states text = (f : EnvFault) × (f ≢ NoMemory) × HasFault states text f
