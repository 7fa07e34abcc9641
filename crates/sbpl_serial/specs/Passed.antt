-- What a serial pass does to a search and to the counts of expansions.
use Rattle.std.specs.Prelude.{◌≡◌, ◌≢◌, ℕ, ◌+◌, ◌*◌, ◌^◌, ◌<◌, ◌≤◌, ◌↔◌, Bool, true, false, Some, length}
use Rattle.std.specs.List.{All, AllPairs}
use Rattle.sbpl_search.specs.sbpl_graph.declared.TheConstants.{FAR}
use Rattle.sbpl_search.specs.sbpl_graph.Certificate.{AreSupported, ShowBound, ShowNone}
use Rattle.sbpl_search.specs.sbpl_graph.Kept.{NoneUnder}
use Rattle.sbpl_search.specs.sbpl_labels.Chain.{chain_at}
use Rattle.sbpl_search.specs.sbpl_labels.Counts.{Counts, GrowBy, IsSpent}
use Rattle.sbpl_search.specs.sbpl_labels.Marks.{states_of, g_of, v_of, back_of}
use Rattle.sbpl_search.specs.sbpl_labels.declared.pass_end.PassEnd.{PassEnd}
use Rattle.sbpl_search.specs.sbpl_labels.declared.pass_end.PassEnd.TheVariants.{Rest, Spent}
use Rattle.sbpl_search.specs.sbpl_labels.declared.time.Time.TheVariants.{Late}
use Rattle.sbpl_search.specs.Query.{Query}
use Rattle.sbpl_search.specs.Ready.{AreUsable, IsStartFresh}
use Rattle.sbpl_serial.specs.Run.{IsSerialRun, IsNext, IsAtRest, none_closed, closed_after}
use Rattle.sbpl_serial.specs.Serial.{SerialState}
use Rattle.sbpl_serial.specs.Times.{times}

-- The trace is a serial run from the old labels to the new ones, which takes each state at most three times. The pass rests
-- exactly where no open key is below the goal's, and is spent exactly where one is and the budget is spent, so not where it may
-- expand three times as many states as there are and is not late. At rest no state on the chain of back arcs from the goal is underconsistent.
-- With inflation one every lowered state is settled, and at rest an infinite goal shows that there is no path, and the labels
-- show that each path costs at least g of the goal. Each expansion is counted. The labels may begin another pass, and support a
-- bound.
pub record IsSerialPass (q : Query) (old new : SerialState) (before after : Counts) (end : PassEnd) : Type 0 where
  pub run : IsSerialRun q none_closed new.trace old.labels new.labels
  pub thrice : (s : ℕ) → times s new.trace ≤ 3
  pub few : length new.trace ≤ 3 * states_of old.labels
  pub rest : (end ≡ Rest) ↔ IsAtRest q (closed_after none_closed new.trace) new.labels
  pub spent : (end ≡ Spent) ↔ (IsSpent after × ((s : ℕ) × IsNext q (closed_after none_closed new.trace) new.labels s))
  pub unfinished : end ≡ Spent → length new.trace < 3 * states_of old.labels
  pub enough : before.plan + 3 * states_of old.labels ≤ before.per_plan → before.run + 3 * states_of old.labels ≤ 2 ^ 30 → after.time ≢ Late → end ≡ Rest
  pub unbroken : end ≡ Rest → (i u : ℕ) → chain_at (back_of new.labels) old.goal i ≡ Some u → g_of new.labels u ≤ v_of new.labels u
  pub settled : q.eps ≡ 1000 → (s : ℕ) → closed_after none_closed new.trace s ≡ true → v_of new.labels s ≡ g_of new.labels s
  pub none : end ≡ Rest → q.eps ≡ 1000 → g_of new.labels old.goal ≡ FAR → ShowNone q.network new.labels.start old.goal (g_of new.labels) (v_of new.labels)
  pub tight : end ≡ Rest → q.eps ≡ 1000 → ShowBound q.network new.labels.start old.goal (g_of new.labels) (v_of new.labels) q.guide (g_of new.labels old.goal)
  pub counted : GrowBy (length new.trace) before after
  pub usable : AreUsable q.network new.labels after.run
  pub supported : AreSupported q.network new.labels.start (g_of new.labels) (v_of new.labels)
  pub start : new.labels.start ≡ old.labels.start
  pub states : states_of new.labels ≡ states_of old.labels
  pub goal : new.goal ≡ old.goal
  pub fresh : IsStartFresh old.labels → IsStartFresh new.labels

-- A pass that only lowers, since it began with no underconsistent state, and leaves none: it takes no state twice, so one that is
-- spent has not expanded every state, and one that may still expand as many states as there are, and is not late, rests. At rest an infinite goal
-- shows that there is no path, whatever the inflation.
pub record IsForwardPass (q : Query) (old new : SerialState) (before after : Counts) (end : PassEnd) : Type 0 where
  pub lowered : All (λ step. step.raised ≡ false) new.trace
  pub once : AllPairs (λ a b. a.state ≢ b.state) new.trace
  pub each : (s : ℕ) → times s new.trace ≤ 1
  pub few : length new.trace ≤ states_of old.labels
  pub unfinished : end ≡ Spent → length new.trace < states_of old.labels
  pub enough : before.plan + states_of old.labels ≤ before.per_plan → before.run + states_of old.labels ≤ 2 ^ 30 → after.time ≢ Late → end ≡ Rest
  pub none : end ≡ Rest → g_of new.labels old.goal ≡ FAR → ShowNone q.network new.labels.start old.goal (g_of new.labels) (v_of new.labels)
  pub none_under : NoneUnder q.network.states (g_of new.labels) (v_of new.labels)

-- a pass only lowers where labels are never repaired, and otherwise where none is underconsistent when it begins
abbrev pub GoesForward : (repairs : Bool) → Query → (old new : SerialState) → (before after : Counts) → PassEnd → Type 0
GoesForward false q old new before after end = IsForwardPass q old new before after end
GoesForward true q old new before after end =
    NoneUnder (states_of old.labels) (g_of old.labels) (v_of old.labels) → IsForwardPass q old new before after end
