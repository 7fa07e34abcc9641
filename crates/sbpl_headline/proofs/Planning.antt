-- The plans that were made at a site, and whose report was written, are told as the headline says, whatever a place is.
use Rattle.std.proofs.Common.{◌≡◌, ◌⊎◌, ℕ, suc, ◌^◌, List, [], length, take, flat_map, sum_by, true, MatchOption}
use Rattle.std.proofs.Common.{codes, sym, ap, subst, ◌∙◌}
use Rattle.sbpl_promises.specs.sbpl_desk.Desk.{Appends, DeskState}
use Rattle.sbpl_promises.specs.sbpl_job.declared.job.Outputs.{Outputs}
use Rattle.sbpl_promises.specs.sbpl_job.declared.job.SearchJob.{SearchJob}
use Rattle.sbpl_promises.specs.sbpl_plan.declared.found.Found.{Found}
use Rattle.sbpl_promises.specs.sbpl_report.declared.record.PlanRecord.{PlanRecord}
use Rattle.sbpl_promises.specs.sbpl_report.declared.record.ReportPose.{ReportPose}
use Rattle.sbpl_promises.specs.Asked.{planner_for}
use Rattle.sbpl_promises.specs.Headline.{ArePlans}
use Rattle.sbpl_promises.specs.Intents.{plans_writes}
use Rattle.sbpl_promises.specs.Published.{Entry}
use Rattle.sbpl_promises.specs.Sites.{Site, start_after}
use Rattle.sbpl_promises.specs.Writing.{AreAppended}
use Rattle.sbpl_promises.specs.declared.updates.Updates.{Updates}
use Rattle.sbpl_headline.specs.Files.{IsChangeText, ChangeLine}
use Rattle.sbpl_headline.specs.Headline.{ArePlanned, Read}
use Rattle.sbpl_headline.specs.Map.{Map}
use Rattle.sbpl_headline.specs.Path.{Keeps, Plan, Step, expansions}
use Rattle.sbpl_headline.specs.Words.{Asked}
use Rattle.sbpl_headline.proofs.Counting.{marks_are_told, plans_are_counted}
use Rattle.sbpl_headline.proofs.Plans.{told_plans}
use Rattle.sbpl_headline.proofs.Asking.{NoDashes}
use Rattle.sbpl_headline.proofs.Printing.{AreRecordsTold, AreSome, report_told}
use Rattle.sbpl_headline.proofs.Records.{IsToldPlan, plan_at}

-- the map with the lines of the first k batches
abbrev pub map_after : Map → List (List ChangeLine) → ℕ → Map
map_after first batches k = record first { changed = flat_map (λ b. b) (take k batches) }

-- on a map a plan starts where the headline says, and keeps its promises
abbrev pub IsShown : {P : Type 0} → (Map → P → Step P → ℕ → Type 0) → (Map → P → Type 0) → (goal : P) → Asked → Map
    → Plan P → Type 0
IsShown Moves Starts goal asked m p = Starts m p.start × Keeps (Moves m) p.start goal asked.bound p.spent p.result

module _ {P W : Type 0} (at : ReportPose → P) (words : P → List (List ℕ)) (some : (p : P) → AreSome (words p))
    (places : ℕ → P) (Moves : Map → P → Step P → ℕ → Type 0) (Starts : Map → P → Type 0) (goal : P) (asked : Asked)
    (first : Map) (batches : List (List ChangeLine)) (on : Site W) (w : W) (updates : Updates) (how : SearchJob)
    (outputs : Outputs) (records : List PlanRecord) (log : List Entry) (broken : List Found)
    (plans : ArePlans on w updates how outputs records true log broken) where
  -- where each plan is shown, the plans are those of the headline
  pub plans_are_shown : (before after : DeskState) → NoDashes outputs
      → AreAppended before after (plans_writes outputs records true)
      → MatchOption asked.changes (batches ≡ []) (λ name. Read before.held name (IsChangeText batches))
      → length batches ≡ length updates.batches → how.budget ≡ asked.budget
      → AreRecordsTold at words places 0 records
      → ((k : ℕ) (p : Plan P)
      → IsToldPlan at places (planner_for on how.planner) w updates.batches how outputs
      (start_after on.reporting w plans.start updates.moves) plans.goal k p
      → IsShown Moves Starts goal asked (map_after first batches k) p)
      → ArePlanned Moves Starts words goal asked first before after
  plans_are_shown before after away written changes many budget told shown = record {
    batches = batches;
    changes = changes;
    plans = told_plans at places 0 records;
    count =
        plans_are_counted at places on w updates how outputs records log broken plans
        ∙ ap suc (sym many);
    each = λ k p m here is.
        subst (λ (l : Map). IsShown Moves Starts goal asked l p) (sym is)
        (shown k p (plan_at at places (planner_for on how.planner) w updates.batches how outputs
        (start_after on.reporting w plans.start updates.moves) plans.goal records log plans.each k p here));
    marked = λ k n p here spent.
        subst (λ (b : ℕ). (n ≡ expansions p)
        × ((n ≡ b) ⊎ (sum_by expansions (take (suc k) (told_plans at places 0 records)) ≡ 2 ^ 30))) budget
        (marks_are_told at places (planner_for on how.planner) w updates.batches how outputs
        (start_after on.reporting w plans.start updates.moves) plans.goal records log plans.each k n p here spent);
    printed =
        subst (λ (text : List ℕ). Appends (before.written (codes "-")) (after.written (codes "-")) text)
        (report_told at words some outputs away places records told) (written.grown (codes "-"));
  }
