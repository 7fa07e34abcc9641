-- The headline of `plan` and `nav`, in plain words.
use Rattle.std.specs.Prelude.{◌≡◌, ◌⊎◌, ◌^◌, ℕ, suc, List, [], ◌∷◌, length, take, Some, MatchOption, IfSome, slice_get, sum_by, codes}
use Rattle.std.specs.List.{flat_map}
use Rattle.std.specs.Io.KnownBytes.{Appends}
use Rattle.sbpl_promises.specs.sbpl_cfg.Environment.{Environment, IsPlaceOf}
use Rattle.sbpl_promises.specs.sbpl_cfg.declared.pose.Place.{Place}
use Rattle.sbpl_promises.specs.sbpl_desk.Desk.{DeskState, Told}
use Rattle.sbpl_promises.specs.sbpl_mprim.declared.prim.Primitive.{Primitive}
use Rattle.sbpl_headline.specs.Files.{IsChangeText, IsEnvironmentText, IsGiven, IsPrimitiveText, ChangeLine, said_pose}
use Rattle.sbpl_headline.specs.Grid as grid
use Rattle.sbpl_headline.specs.Map.{Map}
use Rattle.sbpl_headline.specs.Motion.{Moves, Starts}
use Rattle.sbpl_headline.specs.Path.{Keeps, Plan, Step, expansions}
use Rattle.sbpl_headline.specs.Report.{pose_words, report, square_words}
use Rattle.sbpl_headline.specs.Words.{Ask, Asked}

-- P holds of some text, which is what is held under the name, where the desk tells that
abbrev pub Read : Told → List ℕ → (List ℕ → Type 0) → Type 0
Read held name P = (text : List ℕ) × IfSome (held name) (λ bytes. text ≡ bytes) × P text

-- On the map of the files, as it is and again after each batch of changes, one plan to the goal was made. Each keeps its promises, and is
-- marked as spent only with its count of expansions, which is the budget, or the run's count is 2 ^ 30. Their report was written. (That
-- the counts are those of a search is said elsewhere, of the records that are reported: IsSearched.)
pub record ArePlanned {P : Type 0} (Moves : Map → P → Step P → ℕ → Type 0) (Starts : Map → P → Type 0) (words : P → List (List ℕ)) (goal : P) (asked : Asked) (first : Map) (before after : DeskState) : Type 0 where
  pub batches : List (List ChangeLine)
  pub changes : MatchOption asked.changes (batches ≡ []) (λ name. Read before.held name (IsChangeText batches))
  pub plans : List (Plan P)
  pub count : length plans ≡ suc (length batches)
  pub each : (k : ℕ) (p : Plan P) (m : Map) → slice_get plans k ≡ Some p → m ≡ record first { changed = flat_map (λ b. b) (take k batches) } → Starts m p.start × Keeps (Moves m) p.start goal asked.bound p.spent p.result
  pub marked : (k n : ℕ) (p : Plan P) → slice_get plans k ≡ Some p → p.spent ≡ Some n → (n ≡ expansions p) × ((n ≡ asked.budget) ⊎ (sum_by expansions (take (suc k) plans) ≡ 2 ^ 30))
  pub printed : Appends (before.written (codes "-")) (after.written (codes "-")) (report words 0 plans)

-- the words after `plan` name two files, which stand for a lattice, and plans on it were made, from the start and to the goal of the words or
-- of the file
pub record IsPlanned (words : List (List ℕ)) (before after : DeskState) : Type 0 where
  pub env : List ℕ
  pub prims : List ℕ
  pub asked : Asked
  pub asks : Ask words (env ∷ prims ∷ []) asked
  pub file : Environment
  pub environment : Environment
  pub posed : environment ≡ record file { start = environment.start; end = environment.end }
  pub start_is : IsGiven said_pose asked.start file.start environment.start
  pub end_is : IsGiven said_pose asked.goal file.end environment.end
  pub primitives : List Primitive
  pub map : Map
  pub size : (map.width ≡ environment.width) × (map.height ≡ environment.height)
  pub environment_read : Read before.held env (IsEnvironmentText file map.cells)
  pub primitives_read : Read before.held prims (IsPrimitiveText environment primitives)
  pub goal : Place
  pub goal_is : IsPlaceOf environment environment.end goal
  pub plans : ArePlanned (Moves environment primitives asked.radius) (Starts environment) pose_words goal asked map before after

-- the words after `nav` name one file, which stands for a grid, and plans on it were made, likewise
pub record IsPlannedOnGrid (words : List (List ℕ)) (before after : DeskState) : Type 0 where
  pub env : List ℕ
  pub asked : Asked
  pub asks : Ask words (env ∷ []) asked
  pub obsthresh : ℕ
  pub file_start : grid.Square
  pub file_end : grid.Square
  pub map : Map
  pub environment_read : Read before.held env (grid.IsGridText obsthresh file_start file_end map)
  pub start : grid.Square
  pub start_is : IsGiven grid.said_square asked.start file_start start
  pub goal : grid.Square
  pub goal_is : IsGiven grid.said_square asked.goal file_end goal
  pub plans : ArePlanned (grid.Moves obsthresh) (λ m s. s ≡ start) square_words goal asked map before after

-- where the words begin with `plan` or `nav` and the status is 0, plans on a lattice or on a grid were made
pub record IsHeadline (words : List (List ℕ)) (before after : DeskState) (status : ℕ) : Type 0 where
  pub plan : (rest : List (List ℕ)) → words ≡ codes "plan" ∷ rest → status ≡ 0 → IsPlanned rest before after
  pub nav : (rest : List (List ℕ)) → words ≡ codes "nav" ∷ rest → status ≡ 0 → IsPlannedOnGrid rest before after
