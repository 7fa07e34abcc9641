-- A search by ePA*SE between its passes.
use Rattle.std.specs.Prelude.{◌≡◌, ℕ, ◌<◌, ◌≤◌, List, Option, Some, None, IsSome, []}
use Rattle.sbpl_adstar.specs.sbpl_graph.Kept.{NoneUnder}
use Rattle.sbpl_adstar.specs.sbpl_labels.Marks.{Marks, g_of, states_of, v_of}
use Rattle.sbpl_adstar.specs.sbpl_search.State.{State}
use Rattle.sbpl_adstar.specs.Raised.{Raising}
use Rattle.sbpl_frontier.specs.sbpl_frontier_rules.declared.event.Event.{Event}
use Rattle.sbpl_frontier.specs.sbpl_frontier_rules.Journal.{openings}
use Rattle.sbpl_frontier.specs.sbpl_frontier_core.Log.{Log}
use Rattle.sbpl_frontier.specs.sbpl_frontier_core.Nothing.{no_marks}
use Rattle.sbpl_frontier.specs.sbpl_frontier_core.Waiting.{HoldsOver, Waiting}

-- the labels, which are there except within a pass
abbrev pub labels_in : Option Marks → Marks
labels_in None = no_marks
labels_in (Some m) = m

-- the memory of a pass, which is there except within one
abbrev pub space_in : Option Waiting → Waiting
space_in None = record { marks = []; queue = record { keys = [] }; expanded = [] }
space_in (Some space) = space

-- one worker or more, and 64 at most
pub record IsCrew (workers : ℕ) : Type 0 where
  pub some : 1 ≤ workers
  pub few : workers ≤ 64

-- the workers, the labels, the goal, the events of the last pass, whether they were kept, and the states that were raised last
abbrev pub search_of : (workers : ℕ) → Option Marks → (goal : ℕ) → Log → (raised : List ℕ) → State Event
search_of workers labels goal journal raised = record { workers = workers; labels = labels_in labels; goal = goal; actions = journal.events; kept = journal.keeps; raised = raised }

-- The labels and the memory of a pass are there. No state is underconsistent, and each overconsistent one is where the next pass
-- looks for it. There are 1 to 64 workers, the goal is a state, this many states were expanded in the last pass, and there is room to raise each state once.
pub record AreEpaseParts (workers : ℕ) (labels : Option Marks) (space : Option Waiting) (goal : ℕ) (journal : Log) (expanded : ℕ) (raiser : Raising) : Type 0 where
  pub crew : IsCrew workers
  pub there : IsSome labels
  pub room : IsSome space
  pub over : HoldsOver (space_in space) (labels_in labels)
  pub none_under : NoneUnder (states_of (labels_in labels)) (g_of (labels_in labels)) (v_of (labels_in labels))
  pub goal_inside : goal < states_of (labels_in labels)
  pub counted : expanded ≡ openings journal.events
  pub room_to_raise : states_of (labels_in labels) ≤ raiser.room

-- a search, and what makes its passes
pub record Seeker (F : Type 0) : Type 0 where
  pub make : F
  pub search : State Event
