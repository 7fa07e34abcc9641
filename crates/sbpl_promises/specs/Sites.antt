-- What is planned on: a graph over a map of cells, what its heuristic says, and how plans on it are reported.
use Rattle.std.specs.Prelude.{ℕ, ℤ, ◌≡◌, Bool, true, false, List, Option, Some, None, option_map, unwrap_or, take}
use Rattle.std.specs.List.{filter_map, last_or}
use Rattle.sbpl_report.specs.sbpl_graph.Network.{Network}
use Rattle.sbpl_report.specs.sbpl_cfg.declared.pose.Place.{Place}
use Rattle.sbpl_report.specs.sbpl_terrain.Cells.{Cells}
use Rattle.sbpl_report.specs.declared.record.PathStep.{PathStep}
use Rattle.sbpl_report.specs.declared.record.ReportPose.{ReportPose}
use Rattle.sbpl_replan.specs.sbpl_back.Reversed.{AreTurned, reversed}
use Rattle.sbpl_replan.specs.sbpl_back.ReversedCells.{reads_turned}
use Rattle.sbpl_replan.specs.sbpl_back.Starts.{IsGapFrom}

-- Of the places that are planned on, as files and reports word them:
-- told: of each world, the graph whose paths are told
-- back: whether that graph is searched the other way round, from the goal to the start, which may move
-- arcs: a graph has just the arcs of a world, as its files say them
-- starts, ends: the state from which the environment's plans go, and the one to which
-- report_pose: where a state is, as a path tells it
-- step: arc k of state s, which leads to t, is this step of a path
-- headings: how many headings a place may have that a change file gives, none where such a file gives none
-- state: the state of such a place
pub record Reporting (W : Type 0) : Type 1 where
  pub told : W → Network
  pub back : Bool
  pub arcs : Network → W → Type 0
  pub starts : W → ℕ → Type 0
  pub ends : W → ℕ → Type 0
  pub report_pose : W → ℕ → ReportPose
  pub step : W → (s k t : ℕ) → PathStep → Type 0
  pub headings : W → ℕ
  pub state : W → Place → ℕ

-- What is planned on:
-- network: the graph of each world that is searched
-- cells: its map, and which cells its arcs read
-- says: what the heuristic says at each state, to the state to which the search goes
-- reporting: how plans on it are reported
-- The record has no name of its own: a workspace's ghost members make such a record, which contracts name 'W.Workspace'.
abbrev pub Site : Type 0 → Type 1
Site W = record {
  network : W → Network;
  cells : Cells W;
  says : W → (goal : ℕ) → (guide : ℕ → ℕ) → Type 0;
  reporting : Reporting W;
}

-- two worlds word places alike
pub record WordPlacesAlike {W : Type 0} (words : Reporting W) (w v : W) : Type 0 where
  pub headings : words.headings v ≡ words.headings w
  pub state : words.state v ≡ words.state w

-- the start of plan k: the state of the place that the first k batches give last, and that of the file where they give none
abbrev pub start_after : {W : Type 0} → Reporting W → W → (start : ℕ) → (moves : Option (List (Option Place))) → (k : ℕ) → ℕ
start_after words w start None k = start
start_after words w start (Some moves) k = unwrap_or (last_or None (filter_map (option_map (words.state w)) (take k moves))) start

-- ---- a graph that is searched the other way round

-- of the start and the goal of a plan, the state from which its search goes, and the one to which
abbrev pub from_of : (back : Bool) → (start goal : ℕ) → ℕ
from_of true start goal = goal
from_of false start goal = start

abbrev pub to_of : (back : Bool) → (start goal : ℕ) → ℕ
to_of true start goal = start
to_of false start goal = goal

-- and on a site
abbrev pub from_on : {W : Type 0} → Site W → (start goal : ℕ) → ℕ
from_on on = from_of on.reporting.back

abbrev pub to_on : {W : Type 0} → Site W → (start goal : ℕ) → ℕ
to_on on = to_of on.reporting.back

-- the path that a search found is this path of a graph from the start to the goal; where the search went the other way round, it is
-- this path turned round
abbrev pub Leads : (back : Bool) → Network → (start goal : ℕ) → (found path : List ℕ) → Type 0
Leads true n start goal found path = AreTurned n goal found start path
Leads false n start goal found path = path ≡ found

-- a graph as it is searched, the cells that its arcs then read, and what guides the search: the gap from the state to which it goes,
-- where it goes the other way round, and otherwise the heuristic
abbrev pub network_by : (back : Bool) → Network → Network
network_by true n = reversed n
network_by false n = n

abbrev pub reads_by : {W : Type 0} → (back : Bool) → (W → Network) → Cells W → W → (s k : ℕ) → (x y : ℤ) → Type 0
reads_by true network cells = reads_turned network cells
reads_by false network cells = cells.reads

abbrev pub says_by : {W : Type 0} → (back : Bool) → (W → Network) → (W → (goal : ℕ) → (guide : ℕ → ℕ) → Type 0) → W → (to : ℕ) → (guide : ℕ → ℕ) → Type 0
says_by true network says w to guide = IsGapFrom (network w) to guide
says_by false network says w to guide = says w to guide

-- the site where the graph whose paths are told is searched the other way round, or as it is
abbrev pub searched_on : {W : Type 0} → Site W → (back : Bool) → Site W
searched_on on back = record {
  network = λ w. network_by back (on.reporting.told w);
  cells = record on.cells { reads = reads_by back on.reporting.told on.cells };
  says = says_by back on.reporting.told on.says;
  reporting = record on.reporting { back = back };
}
