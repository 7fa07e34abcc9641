-- What a plan promises.
use Rattle.std.specs.Prelude.{◌≡◌, ◌+◌, ◌*◌, ◌^◌, ◌≤◌, ◌⊎◌, true, false, length}
use Rattle.sbpl_search.specs.sbpl_graph.Certificate.{AreSupported}
use Rattle.sbpl_search.specs.sbpl_labels.Counts.{AreCounts, Counts, IsSpent}
use Rattle.sbpl_search.specs.sbpl_labels.Marks.{g_of, v_of}
use Rattle.sbpl_search.specs.sbpl_labels.declared.time.Time.TheVariants.{Late}
use Rattle.sbpl_search.specs.Meaning.{Meaning}
use Rattle.sbpl_search.specs.State.{State}
use Rattle.sbpl_plan.specs.declared.result.Planned.{Planned}
use Rattle.sbpl_plan.specs.Asked.{most_passes}
use Rattle.sbpl_plan.specs.Outcomes.{IsConclusive, IsResultOf, IsTrueOutcome}
use Rattle.sbpl_plan.specs.Passing.{ArePasses, EndWith, Inquiry, expansions}
use Rattle.sbpl_plan.specs.ReadyAfter.{IsReadyAfter}

-- A plan led from the one state of a search to the other.
-- passes, outcome: the passes are those that the definitions determine, and so is the result
-- so, answered: the result is true, and known where the plan was not spent
-- traced: the search holds what the last pass did
-- leaves: each expansion is counted, and the labels may begin another plan
-- spent, within, few, enough: no expansion is made beyond the budget; a plan is spent only where its budget or the run's is, or
-- it is late; and not by its budget where it may expand as many states in each pass as a pass can
pub record IsPlanned {Action : Type 0} (means : Meaning Action) (q : Inquiry) (old new : State Action) (before after : Counts) (r : Planned Action) : Type 0 where
  pub passes : ArePasses means q q.ask.first old.labels r.passes new.labels r.spent
  pub outcome : IsResultOf q.network q.guide q.goal new.labels r.outcome
  pub so : IsTrueOutcome q.network old.labels.start q.goal r.outcome
  pub answered : r.spent ≡ false → IsConclusive q.ask.bound r.outcome
  pub traced : EndWith means q.ask r.passes new.actions
  pub leaves : IsReadyAfter means q.network (expansions r.passes) old new before after
  pub supported : AreSupported q.network new.labels.start (g_of new.labels) (v_of new.labels)
  pub spent : r.spent ≡ true → IsSpent after
  pub within : AreCounts after
  pub few : length r.passes ≤ most_passes q.ask.step q.ask.first
  pub enough : r.spent ≡ true → before.plan + most_passes q.ask.step q.ask.first * (means.most * q.network.states) ≤ before.per_plan → (after.run ≡ 2 ^ 30) ⊎ (after.time ≡ Late)
