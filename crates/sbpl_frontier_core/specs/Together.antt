-- What holds of the parts of a core.
use Rattle.std.specs.Prelude.{◌≡◌, ℕ, ◌+◌, ◌*◌, ◌<◌, ◌≤◌, Bool, true, List, [], length}
use Rattle.std.specs.List.{All, Contains}
use Rattle.sbpl_frontier_rules.specs.sbpl_labels.Counts.{Counts}
use Rattle.sbpl_frontier_rules.specs.sbpl_labels.Marks.{Marks, states_of}
use Rattle.sbpl_frontier_rules.specs.sbpl_open.declared.entry.Entry.{Entry}
use Rattle.sbpl_frontier_rules.specs.sbpl_open.OpenList.{OpenList}
use Rattle.sbpl_frontier_rules.specs.sbpl_search.Query.{Query}
use Rattle.sbpl_frontier_rules.specs.sbpl_serial.Queue.{AreQueued}
use Rattle.sbpl_frontier_rules.specs.Frontier.{Frontier, is_opened}
use Rattle.sbpl_frontier_rules.specs.Laws.{IsLawful, MayBegin}
use Rattle.sbpl_frontier_core.specs.Book.{IsReplay}
use Rattle.sbpl_frontier_core.specs.Log.{Log}

-- room to put entries of the queue aside
pub record Room : Type 0 where
  pub entries : List Entry
  pub size : ℕ

-- The frontier is the replay of the journal. The queue holds the open states, and the list of expanded states the opened ones. The
-- journal has room for the results of all arcs that are out. Each expansion has made at most 4096 arcs ready.
pub record AreCoreParts (q : Query) (opening : Marks) (before : Counts) (keeps : Bool) (f : Frontier) (log : Log) (queue : OpenList) (expanded : List ℕ) (state : ℕ) (aside : Room) : Type 0 where
  pub lawful : IsLawful q
  pub may_begin : MayBegin q opening before
  pub replay : IsReplay q opening before log.events f
  pub states : states_of f.labels ≡ q.network.states
  pub marks : length f.opened ≡ q.network.states
  pub goal_inside : q.goal < q.network.states
  pub queued : AreQueued q.eps q.guide (is_opened f) f.labels queue
  pub listed : (s : ℕ) → is_opened f s ≡ true → Contains expanded s
  pub listed_inside : All (λ s. s < q.network.states) expanded
  pub cursor : state < q.network.states
  pub room : length f.out ≤ log.spare
  pub counted : f.next + length f.ready ≤ 4096 * f.counts.run
  pub kept : log.keeps ≡ keeps
  pub none_aside : aside.entries ≡ []
  pub aside_room : 64 ≤ aside.size
