-- What a whole pass by events does to labels.
use Rattle.std.specs.Prelude.{◌≡◌, ◌≢◌, ℕ, ◌+◌, ◌^◌, ◌≤◌, Bool, nat_lt, List}
use Rattle.sbpl_serial.specs.sbpl_labels.Counts.{Counts}
use Rattle.sbpl_serial.specs.sbpl_labels.Marks.{Marks, g_of}
use Rattle.sbpl_serial.specs.sbpl_labels.declared.time.Time.TheVariants.{Late}
use Rattle.sbpl_serial.specs.sbpl_open.KeyOrder.{IsBelow}
use Rattle.sbpl_serial.specs.sbpl_search.Query.{Query}
use Rattle.sbpl_serial.specs.sbpl_search.Ready.{IsStartFresh}
use Rattle.sbpl_serial.specs.Run.{IsAtRest, IsOpen, goal_key_at, key_at}
use Rattle.sbpl_frontier_rules.specs.declared.event.Event.{Event}
use Rattle.sbpl_frontier_rules.specs.Events.{AreEvents, IsFirst, IsIdle}
use Rattle.sbpl_frontier_rules.specs.Frontier.{Frontier, is_opened}
use Rattle.sbpl_frontier_rules.specs.Journal.{opened_times, openings}

-- whether these events open a state
abbrev pub opened_by : List Event → ℕ → Bool
opened_by events s = nat_lt 0 (opened_times s events)

-- the plan and the run have this many expansions left, and the plan is not late
pub record HasRoom (c : Counts) (count : ℕ) : Type 0 where
  pub of_plan : c.plan + count ≤ c.per_plan
  pub of_run : c.run + count ≤ 2 ^ 30
  pub in_time : c.time ≢ Late

-- the counts after this many expansions in time
abbrev pub counted_with : Counts → ℕ → Counts
counted_with c count = record c { plan = c.plan + count; run = c.run + count }

-- these events lead from a frontier with the old labels and these counts, at the beginning of a pass, to one with the new labels
pub record Replays (q : Query) (before : Counts) (events : List Event) (old new : Marks) (last : Frontier) : Type 0 where
  pub first : Frontier
  pub is_first : IsFirst old before first
  pub events_are : AreEvents q events first last
  pub labels : last.labels ≡ new

-- they make a pass: whatever the budget, as long as it leaves room for what they open, they lead from the old labels to the new
-- ones, and no arc is ready or out at their end
abbrev pub ArePass : Query → List Event → (old new : Marks) → Type 0
ArePass q events old new = (before : Counts) → HasRoom before (openings events) → (last : Frontier) × Replays q before events old new last × IsIdle last

-- after them no open key is below the goal's, or one is
abbrev pub LeavesRest : Query → List Event → Marks → Type 0
LeavesRest q events m = IsAtRest q (opened_by events) m

abbrev pub LeavesOpen : Query → List Event → Marks → Type 0
LeavesOpen q events m = (s : ℕ) × IsOpen (opened_by events) m s × IsBelow (key_at q.eps q.guide m s) (goal_key_at q m)

-- a list of events stays one whatever the budget, as long as it leaves room for what they open; only the counts differ
abbrev pub CountsAreFree : Type 0
CountsAreFree = (q : Query) (events : List Event) (old new : Frontier) (counts : Counts) → AreEvents q events old new → HasRoom counts (openings events)
    → AreEvents q events (record old { counts = counts }) (record new { counts = counted_with counts (openings events) })

-- the opened states are those that the events opened
abbrev pub OpenedByEvents : Type 0
OpenedByEvents = (q : Query) (m : Marks) (before : Counts) (events : List Event) (old new : Frontier) → IsFirst m before old → AreEvents q events old new
    → (s : ℕ) → is_opened new s ≡ opened_by events s

-- the start's v stays infinite, or 0 as its g is
abbrev pub StartStaysFresh : Type 0
StartStaysFresh = (q : Query) (events : List Event) (old new : Frontier) → AreEvents q events old new → g_of old.labels old.labels.start ≡ 0
    → IsStartFresh old.labels → IsStartFresh new.labels
