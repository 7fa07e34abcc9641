-- What every list of events keeps.
use Rattle.std.specs.Prelude.{◌≡◌, ℕ, ◌+◌, ◌<◌, ◌≤◌, true, Option, List, ◌∷◌, ◌++◌, length}
use Rattle.std.specs.List.{Contains}
use Rattle.sbpl_serial.specs.sbpl_graph.Bound.{IsLow}
use Rattle.sbpl_serial.specs.sbpl_graph.Certificate.{AreSupported, ShowBound}
use Rattle.sbpl_serial.specs.sbpl_graph.Exact.{AreExact}
use Rattle.sbpl_serial.specs.sbpl_graph.Laws.{HasGaps, IsConsistent, IsSound}
use Rattle.sbpl_serial.specs.sbpl_graph.Network.{Network}
use Rattle.sbpl_serial.specs.sbpl_labels.Counts.{AreCounts, Counts, GrowBy}
use Rattle.sbpl_serial.specs.sbpl_labels.Marks.{AreLabels, Marks, states_of, g_of, v_of, back_of}
use Rattle.sbpl_serial.specs.sbpl_search.Query.{Query}
use Rattle.sbpl_serial.specs.sbpl_search.Ready.{AreReady}
use Rattle.sbpl_frontier_rules.specs.declared.event.Event.{Event}
use Rattle.sbpl_frontier_rules.specs.declared.event.Event.TheVariants.{Taken, Posted}
use Rattle.sbpl_frontier_rules.specs.Events.{AreEvents, IsFirst, IsIdle, IsOutOfBudget}
use Rattle.sbpl_frontier_rules.specs.Frontier.{Frontier, is_opened}
use Rattle.sbpl_frontier_rules.specs.Journal.{opened_times, openings, posted_times, posts_in, taken_times, takes_in, handed_out_times}
use Rattle.sbpl_frontier_rules.specs.Kept.{IsKept}

-- the graph keeps its laws, the guide is consistent on it, and the inflation is at least one
pub record IsLawful (q : Query) : Type 0 where
  pub sound : IsSound q.network
  pub gaps : HasGaps q.network
  pub consistent : IsConsistent q.network q.goal q.guide
  pub inflation : 1000 ≤ q.eps

-- labels and counts from which a frontier may begin: exact labels none of which is underconsistent, that fit the run's count
pub record MayBegin (q : Query) (m : Marks) (before : Counts) : Type 0 where
  pub labels : AreLabels m
  pub ready : AreReady q.network m before.run
  pub counts : AreCounts before

-- a frontier that begins with these is kept
abbrev pub FirstIsKept : Type 0
FirstIsKept = (q : Query) (m : Marks) (counts : Counts) (f : Frontier) → MayBegin q m counts → IsFirst m counts f → IsKept q f

-- every list of events keeps a frontier
abbrev pub EventsKeep : Type 0
EventsKeep = (q : Query) (events : List Event) (old new : Frontier) → IsLawful q → AreEvents q events old new → IsKept q old → IsKept q new

-- labels of a kept frontier with no arc ready or out are exact: where v of a state is finite, over each of its free arcs g of
-- the head is at most v and the cost
abbrev pub IdleIsExact : Type 0
IdleIsExact = (q : Query) (f : Frontier) → IsKept q f → IsIdle f
    → AreExact q.network f.labels.start (g_of f.labels) (v_of f.labels) (back_of f.labels) × AreSupported q.network f.labels.start (g_of f.labels) (v_of f.labels)

-- so they show that their low is a lower bound on the cost of every path
abbrev pub IdleShows : Type 0
IdleShows = (q : Query) (f : Frontier) (low : ℕ) → IsLawful q → IsKept q f → IsIdle f → IsLow (states_of f.labels) q.goal (g_of f.labels) (v_of f.labels) q.guide low
    → ShowBound q.network f.labels.start q.goal (g_of f.labels) (v_of f.labels) q.guide low

-- with inflation one, v = g of each opened state
abbrev pub SettledAtOne : Type 0
SettledAtOne = (q : Query) (f : Frontier) → IsLawful q → q.eps ≡ 1000 → IsKept q f → (s : ℕ) → is_opened f s ≡ true → v_of f.labels s ≡ g_of f.labels s

-- what a list of events from the beginning of a pass opened: each state at most once, so no more than there are, and fewer where
-- one is still open; each is opened at its end, and is counted; the start stays
pub record OpensOnce (q : Query) (m : Marks) (before : Counts) (events : List Event) (f : Frontier) : Type 0 where
  pub each : (s : ℕ) → opened_times s events ≤ 1
  pub few : openings events ≤ states_of m
  pub unfinished : IsOutOfBudget q f → openings events < states_of m
  pub opened : (s : ℕ) → 0 < opened_times s events → is_opened f s ≡ true
  pub counted : GrowBy (openings events) before f.counts
  pub start : f.labels.start ≡ m.start
  pub states : states_of f.labels ≡ states_of m

abbrev pub EachOpensOnce : Type 0
EachOpensOnce = (q : Query) (m : Marks) (before : Counts) (events : List Event) (old new : Frontier) → IsLawful q → MayBegin q m before
    → IsFirst m before old → AreEvents q events old new → OpensOnce q m before events new

-- each arc that was handed out since the beginning of a pass is out, or its judgement came back
abbrev pub TakesComeBack : Type 0
TakesComeBack = (q : Query) (m : Marks) (before : Counts) (events : List Event) (old new : Frontier) → IsLawful q → MayBegin q m before
    → IsFirst m before old → AreEvents q events old new → posts_in events + length new.out ≡ takes_in events

-- these events handed out an arc under this ticket, and this is its judgement
pub record WasTaken (n : Network) (events : List Event) (ticket : ℕ) (cost : Option ℕ) : Type 0 where
  pub seat : ℕ
  pub state : ℕ
  pub arc : ℕ
  pub taken : Contains events (Taken ticket seat state arc)
  pub judged : cost ≡ n.cost state arc

-- No ticket is taken twice, or posted more often than it is taken. Each judgement that comes back is that of the arc that an earlier
-- event handed out under its ticket, and no earlier event brought it back.
pub record GoOnce (n : Network) (events : List Event) : Type 0 where
  pub taken : (ticket : ℕ) → taken_times ticket events ≤ 1
  pub posted : (ticket : ℕ) → posted_times ticket events ≤ taken_times ticket events
  pub earlier : (before after : List Event) (ticket : ℕ) (cost : Option ℕ) → events ≡ before ++ Posted ticket cost ∷ after → WasTaken n before ticket cost
  pub fresh : (before after : List Event) (ticket : ℕ) (cost : Option ℕ) → events ≡ before ++ Posted ticket cost ∷ after → posted_times ticket before ≡ 0

-- every list of events from the beginning of a pass does so
abbrev pub TicketsGoOnce : Type 0
TicketsGoOnce = (q : Query) (m : Marks) (before : Counts) (events : List Event) (old new : Frontier) → IsFirst m before old → AreEvents q events old new
    → GoOnce q.network events

-- every list of events from the beginning of a pass hands out each arc of a state at most once
abbrev pub EachArcGoesOnce : Type 0
EachArcGoesOnce = (q : Query) (m : Marks) (before : Counts) (events : List Event) (old new : Frontier) → IsFirst m before old → AreEvents q events old new
    → (s k : ℕ) → handed_out_times s k events ≤ 1
