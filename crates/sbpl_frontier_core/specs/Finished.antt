-- What a pass leaves.
use Rattle.std.specs.Prelude.{◌≡◌, ℕ, Bool, true}
use Rattle.sbpl_frontier_rules.specs.sbpl_graph.Bound.{IsLow}
use Rattle.sbpl_frontier_rules.specs.sbpl_graph.Certificate.{AreSupported, ShowBound}
use Rattle.sbpl_frontier_rules.specs.sbpl_labels.Counts.{Counts}
use Rattle.sbpl_frontier_rules.specs.sbpl_labels.Marks.{Marks, g_of, states_of, v_of}
use Rattle.sbpl_frontier_rules.specs.sbpl_search.Query.{Query}
use Rattle.sbpl_frontier_rules.specs.Frontier.{is_opened}
use Rattle.sbpl_frontier_rules.specs.Kept.{IsKept}
use Rattle.sbpl_frontier_rules.specs.Laws.{MayBegin, OpensOnce}
use Rattle.sbpl_frontier_core.specs.Book.{Book, IsReplay}
use Rattle.sbpl_frontier_core.specs.Log.{Log}

-- The labels and the counts are those to which the journal leads. Another pass may begin with them, and with their low they show a
-- bound of every path. No state was opened twice. With inflation one each opened state is settled.
pub record IsFinished (q : Query) (opening : Marks) (before : Counts) (keeps : Bool) (book : Book) (labels : Marks) (counts : Counts) (log : Log) : Type 0 where
  pub labels_are : labels ≡ book.frontier.labels
  pub counts_are : counts ≡ book.frontier.counts
  pub events : log.events ≡ book.journal
  pub keeps_are : log.keeps ≡ keeps
  pub replay : IsReplay q opening before book.journal book.frontier
  pub again : MayBegin q labels counts
  pub kept : IsKept q book.frontier
  pub supported : AreSupported q.network labels.start (g_of labels) (v_of labels)
  pub shows : (low : ℕ) → IsLow (states_of labels) q.goal (g_of labels) (v_of labels) q.guide low → ShowBound q.network labels.start q.goal (g_of labels) (v_of labels) q.guide low
  pub once : OpensOnce q opening before book.journal book.frontier
  pub settled : q.eps ≡ 1000 → (s : ℕ) → is_opened book.frontier s ≡ true → v_of labels s ≡ g_of labels s

-- the same for a pass that is given up, whatever is ready or out: what is kept at each moment holds
pub record IsGivenUp (q : Query) (opening : Marks) (before : Counts) (book : Book) (labels : Marks) (counts : Counts) : Type 0 where
  pub labels_are : labels ≡ book.frontier.labels
  pub counts_are : counts ≡ book.frontier.counts
  pub replay : IsReplay q opening before book.journal book.frontier
  pub kept : IsKept q book.frontier
  pub once : OpensOnce q opening before book.journal book.frontier
