-- What a pass does to a search and to the counts of expansions.
use Rattle.std.specs.Prelude.{◌≡◌, ℕ, ◌*◌, ◌<◌, ◌≤◌, Some}
use Rattle.sbpl_labels.specs.sbpl_graph.declared.TheConstants.{FAR}
use Rattle.sbpl_labels.specs.sbpl_graph.Certificate.{AreSupported, ShowBound, ShowNone}
use Rattle.sbpl_labels.specs.Chain.{chain_at}
use Rattle.sbpl_labels.specs.Counts.{Counts, GrowBy, IsSpent}
use Rattle.sbpl_labels.specs.Marks.{states_of, g_of, v_of, back_of}
use Rattle.sbpl_labels.specs.declared.pass_end.PassEnd.{PassEnd}
use Rattle.sbpl_labels.specs.declared.pass_end.PassEnd.TheVariants.{Rest, Spent}
use Rattle.sbpl_search.specs.Meaning.{Meaning}
use Rattle.sbpl_search.specs.Query.{Query}
use Rattle.sbpl_search.specs.Ready.{IsStartFresh}
use Rattle.sbpl_search.specs.State.{State}

-- A pass led from the one state of a search to the other, and ended so. It is made by the search's workers, takes each state no more
-- often than the planner says, each expansion is counted, and it is spent only where the budget is and something is left to expand, so not after it
-- has taken each state as often as it may. At rest no state on the chain of back arcs from the goal is underconsistent; with
-- inflation one the labels then show that there is no path where the goal's is infinite, and that each path costs at least g of
-- the goal. The labels may begin another pass, and support a bound. The list of the states that were raised for the plan stays as
-- it is.
pub record IsPassed {Action : Type 0} (means : Meaning Action) (q : Query) (old new : State Action) (before after : Counts) (end : PassEnd) : Type 0 where
  pub leads : means.leads q new.actions old.labels new.labels
  pub rests : end ≡ Rest → means.rests q new.actions new.labels
  pub goes_on : end ≡ Spent → means.goes_on q new.actions new.labels
  pub seated : means.seated old.workers new.actions
  pub is_spent : end ≡ Spent → IsSpent after
  pub counted : GrowBy (means.expansions new.actions) before after
  pub each : (s : ℕ) → means.times s new.actions ≤ means.most
  pub few : means.expansions new.actions ≤ means.most * states_of old.labels
  pub unfinished : end ≡ Spent → means.expansions new.actions < means.most * states_of old.labels
  pub unbroken : end ≡ Rest → (i u : ℕ) → chain_at (back_of new.labels) old.goal i ≡ Some u → g_of new.labels u ≤ v_of new.labels u
  pub none : end ≡ Rest → q.eps ≡ 1000 → g_of new.labels old.goal ≡ FAR → ShowNone q.network new.labels.start old.goal (g_of new.labels) (v_of new.labels)
  pub tight : end ≡ Rest → q.eps ≡ 1000 → ShowBound q.network new.labels.start old.goal (g_of new.labels) (v_of new.labels) q.guide (g_of new.labels old.goal)
  pub ready : means.ready q.network new.labels after.run
  pub supported : AreSupported q.network new.labels.start (g_of new.labels) (v_of new.labels)
  pub start : new.labels.start ≡ old.labels.start
  pub states : states_of new.labels ≡ states_of old.labels
  pub goal : new.goal ≡ old.goal
  pub workers : new.workers ≡ old.workers
  pub raised : new.raised ≡ old.raised
  pub fresh : IsStartFresh old.labels → IsStartFresh new.labels
