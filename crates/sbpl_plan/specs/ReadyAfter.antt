-- A search that is ready for another pass.
use Rattle.std.specs.Prelude.{◌≡◌, ℕ}
use Rattle.sbpl_search.specs.sbpl_graph.Network.{Network}
use Rattle.sbpl_search.specs.sbpl_labels.Counts.{Counts, GrowBy}
use Rattle.sbpl_search.specs.sbpl_labels.Marks.{states_of}
use Rattle.sbpl_search.specs.Meaning.{Meaning}
use Rattle.sbpl_search.specs.Ready.{IsStartFresh}
use Rattle.sbpl_search.specs.State.{State}

-- after this many expansions, each counted for the plan and for the run, a search may begin another pass, with the start, the states, the goal and the workers that it had
pub record IsReadyAfter {Action : Type 0} (means : Meaning Action) (n : Network) (count : ℕ) (old new : State Action) (before after : Counts) : Type 0 where
  pub counted : GrowBy count before after
  pub ready : means.ready n new.labels after.run
  pub fresh : IsStartFresh new.labels
  pub start : new.labels.start ≡ old.labels.start
  pub states : states_of new.labels ≡ states_of old.labels
  pub same_goal : new.goal ≡ old.goal
  pub same_workers : new.workers ≡ old.workers
