-- What a text is to the formats of the files: what it stands for, and its first fault.
use Rattle.std.specs.Prelude.{◌≡◌, ◌+◌, ◌*◌, ◌<◌, ℕ, Bool, if◌then◌else◌, List, Option, Some, None, IfSome}
use Rattle.std.specs.Option.{option_map_or, unwrap_or}
use Rattle.sbpl_report.specs.declared.refusal.PathEnd.{PathEnd}
use Rattle.sbpl_report.specs.declared.refusal.PathEnd.TheVariants as path_end
use Rattle.sbpl_report.specs.sbpl_job.declared.job.GridSources.{GridSources}
use Rattle.sbpl_report.specs.sbpl_job.declared.job.Sources.{Sources}
use Rattle.sbpl_report.specs.sbpl_job.declared.job.Square.{Square}
use Rattle.sbpl_report.specs.sbpl_cfg.declared.pose.Place.{Place}
use Rattle.sbpl_report.specs.sbpl_cfg.declared.fault.EnvFault.{EnvFault}
use Rattle.sbpl_report.specs.sbpl_cfg.Environment.{Environment, IsPoseOnMap}
use Rattle.sbpl_report.specs.sbpl_cfg.Text as environments
use Rattle.sbpl_report.specs.sbpl_map.CellMap.{CellMap}
use Rattle.sbpl_report.specs.sbpl_map.ChangeText as changes
use Rattle.sbpl_report.specs.sbpl_map.LineFaults as change_faults
use Rattle.sbpl_report.specs.sbpl_map.declared.fault.ChangeFault.{ChangeFault}
use Rattle.sbpl_report.specs.sbpl_map.declared.write.Write.{Write}
use Rattle.sbpl_promises.specs.declared.updates.Updates.{Updates}
use Rattle.sbpl_report.specs.sbpl_mprim.declared.fault.PrimFault.{PrimFault}
use Rattle.sbpl_report.specs.sbpl_mprim.Primitives.{Primitives}
use Rattle.sbpl_report.specs.sbpl_mprim.Text as primitives
use Rattle.sbpl_nav2d.specs.Environment.{NavEnvironment}
use Rattle.sbpl_nav2d.specs.Text as grids

-- the text of an environment file stands for an environment, with at most this many states, and the costs of its cells
abbrev pub IsEnvironmentText : (states : ℕ) → List ℕ → Environment → List ℕ → Type 0
IsEnvironmentText states text e cells = environments.IsTextOf states text e cells

-- the first fault of the text of an environment file, under this limit of states
abbrev pub HasEnvironmentFault : (states : ℕ) → List ℕ → EnvFault → Type 0
HasEnvironmentFault states text f = environments.HasFault states text f

-- the text of a primitive file stands for primitives, for this environment
pub record IsPrimitiveText (e : Environment) (text : List ℕ) (ps : Primitives) : Type 0 where
  pub stands : primitives.IsTextOf text ps
  pub cell : ps.cell ≡ e.cell
  pub headings : ps.headings ≡ e.headings

-- the first fault of the text of a primitive file, for this environment
abbrev pub HasPrimitiveFault : Environment → List ℕ → PrimFault → Type 0
HasPrimitiveFault e text f = primitives.HasFault e.cell e.headings text f

-- the same of the environment file of a grid
abbrev pub IsGridText : (states : ℕ) → List ℕ → NavEnvironment → List ℕ → Type 0
IsGridText states text e cells = grids.IsTextOf states text e cells

abbrev pub HasGridFault : (states : ℕ) → List ℕ → EnvFault → Type 0
HasGridFault states text f = grids.HasFault states text f

-- ---- the start and the goal, where words give them

-- they are on a map
abbrev pub AreOn : {P : Type 0} → (IsOn : P → Type 0) → (start goal : Option P) → Type 0
AreOn IsOn start goal = IfSome start IsOn × IfSome goal IsOn

-- an end of a path is given, and it is off the map
pub record IsOff {P : Type 0} (IsOn : P → Type 0) (given : Option P) : Type 0 where
  pub end : P
  pub is : given ≡ Some end
  pub off : IsOn end → ⊥

-- this is the first of them that is off the map: the start comes before the goal
abbrev pub IsFirstOff : {P : Type 0} → (IsOn : P → Type 0) → (start goal : Option P) → PathEnd → Type 0
IsFirstOff IsOn start goal path_end.Start = IsOff IsOn start
IsFirstOff IsOn start goal path_end.Goal = IfSome start IsOn × IsOff IsOn goal

-- the environment of a file, with the start and the goal of the words in place of its own
abbrev pub posed : Sources → Environment → Environment
posed from e = record e { start = unwrap_or from.start e.start; end = unwrap_or from.goal e.end }

-- the text of an environment file, and the words, stand for an environment and the costs of its cells
abbrev pub IsEnvironmentFor : Sources → List ℕ → Environment → List ℕ → Type 0
IsEnvironmentFor from text e cells = (file : Environment) × IsEnvironmentText from.states text file cells × AreOn (IsPoseOnMap file) from.start from.goal × (e ≡ posed from file)

-- the text stands for an environment, and this end that the words give is off its map
abbrev pub HasEndOff : Sources → List ℕ → PathEnd → Type 0
HasEndOff from text end = (file : Environment) × (cells : List ℕ) × IsEnvironmentText from.states text file cells × IsFirstOff (IsPoseOnMap file) from.start from.goal end

-- the same of a grid, whose states are its cells, row by row
abbrev pub IsSquareOn : NavEnvironment → Square → Type 0
IsSquareOn e c = (c.x < e.width) × (c.y < e.height)

abbrev pub square_state : (width : ℕ) → Square → ℕ
square_state width c = c.y * width + c.x

abbrev pub posed_on_grid : GridSources → NavEnvironment → NavEnvironment
posed_on_grid from e = record e {
  start = option_map_or (square_state e.width) from.start e.start;
  end = option_map_or (square_state e.width) from.goal e.end;
}

abbrev pub IsGridFor : GridSources → List ℕ → NavEnvironment → List ℕ → Type 0
IsGridFor from text e cells = (file : NavEnvironment) × IsGridText from.states text file cells × AreOn (IsSquareOn file) from.start from.goal × (e ≡ posed_on_grid from file)

abbrev pub HasGridEndOff : GridSources → List ℕ → PathEnd → Type 0
HasGridEndOff from text end = (file : NavEnvironment) × (cells : List ℕ) × IsGridText from.states text file cells × IsFirstOff (IsSquareOn file) from.start from.goal end

-- ---- change files

-- what a change file is read for: the limit of states, the map, and, where its lines can say where the robot is, the number of headings
pub record Scope : Type 0 where
  pub states : ℕ
  pub map : CellMap
  pub headings : Option ℕ

-- the scope of a change file for an environment and a map, where the robot moves or not
abbrev pub scope_for : (states : ℕ) → (moving : Bool) → Environment → CellMap → Scope
scope_for states moving e m = record { states = states; map = m; headings = if moving then Some e.headings else None }

-- where the robot stays
abbrev pub still_scope : (states : ℕ) → CellMap → Scope
still_scope states m = record { states = states; map = m; headings = None }

-- batches over which the robot stays where it is
abbrev pub still : List (List Write) → Updates
still batches = record { batches = batches; moves = None }

-- the text of a change file stands for map updates
abbrev pub IsTextOfUpdates : (states : ℕ) → CellMap → (headings : Option ℕ) → List ℕ → Updates → Type 0
IsTextOfUpdates states m None text c = changes.IsTextOf states m text c.batches × (c.moves ≡ None)
IsTextOfUpdates states m (Some headings) text c =
    (moves : List (Option Place)) × (c.moves ≡ Some moves) × changes.IsMovesTextOf states m headings text c.batches moves

abbrev pub IsChangeText : Scope → List ℕ → Updates → Type 0
IsChangeText s text c = IsTextOfUpdates s.states s.map s.headings text c

-- the first fault of the text of a change file
abbrev pub HasChangeFault : Scope → List ℕ → ChangeFault → Type 0
HasChangeFault s text f = change_faults.HasTextFault s.states s.map s.headings text f
