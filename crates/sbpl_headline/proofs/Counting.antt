-- How many plans there are, and what the marks of those that were spent say.
use Rattle.std.proofs.Common.{◌≡◌, ◌⊎◌, ℕ, zero, suc, ◌+◌, ◌^◌, Bool, true, false, List, [], ◌∷◌, length, map, take}
use Rattle.std.proofs.Common.{Option, Some, None, slice_get, sum_by, inl, inr, refl, sym, ap, subst, ◌∙◌}
use Rattle.std.proofs.Common.{add-one, add-zero, add_assoc, zero-add}
use Rattle.std.proofs.lemmas.List.Sums.{sum_by-cons}
use Rattle.std.proofs.lemmas.Option.{same_Some}
use Rattle.sbpl_promises.specs.sbpl_map.declared.write.Write.{Write}
use Rattle.sbpl_promises.specs.sbpl_job.declared.job.Outputs.{Outputs}
use Rattle.sbpl_promises.specs.sbpl_job.declared.job.SearchJob.{SearchJob}
use Rattle.sbpl_promises.specs.sbpl_plan.Passing as passing
use Rattle.sbpl_promises.specs.sbpl_plan.declared.found.Found.{Found}
use Rattle.sbpl_promises.specs.sbpl_plan.declared.passes.PassRecord.{PassRecord}
use Rattle.sbpl_promises.specs.sbpl_report.declared.record.PlanRecord.{PlanRecord}
use Rattle.sbpl_promises.specs.sbpl_report.declared.record.ReportPose.{ReportPose}
use Rattle.sbpl_promises.specs.sbpl_report.declared.record.TraceLine.{TraceLine}
use Rattle.sbpl_promises.specs.Asked.{PlannerOn}
use Rattle.sbpl_promises.specs.Headline.{ArePlans, AreRecords, Before, Changed, IsMarked, NoPlan, expanded_before}
use Rattle.sbpl_promises.specs.Published.{Entry, with_plan}
use Rattle.sbpl_promises.specs.Sites.{Site}
use Rattle.sbpl_promises.specs.declared.updates.Updates.{Updates}
use Rattle.sbpl_headline.specs.Path.{Plan, expansions}
use Rattle.sbpl_headline.proofs.Plans.{told_pass, told_plan, told_plans}

-- passes expanded as many states as is told
expansions_told : (ps : List (PassRecord TraceLine)) → sum_by (λ q. q.expanded) (map told_pass ps) ≡ passing.expansions ps
expansions_told [] = refl
expansions_told (p ∷ ps) =
    sum_by-cons (λ q. q.expanded) (told_pass p) (map told_pass ps) ∙ ap (λ (n : ℕ). p.expanded + n) (expansions_told ps)

-- of two facts the one is of a number, which is this one
or_same : {B : Type 0} {x y z : ℕ} → y ≡ x → (x ≡ z) ⊎ B → (y ≡ z) ⊎ B
or_same e (inl is) = inl (e ∙ is)
or_same e (inr b) = inr b

-- and the other one
same_or : {A : Type 0} {x y z : ℕ} → y ≡ x → A ⊎ (x ≡ z) → A ⊎ (y ≡ z)
same_or e (inl a) = inl a
same_or e (inr is) = inr (e ∙ is)

-- what the mark of a plan that was spent says
mark_says : (budget before n : ℕ) (spent : Bool) (r : PlanRecord) → IsMarked budget before spent r → r.spent ≡ Some n
    → (n ≡ passing.expansions r.passes)
    × ((n ≡ budget) ⊎ (before + passing.expansions r.passes ≡ 2 ^ 30))
mark_says budget before n true r marked e =
    let same : n ≡ passing.expansions r.passes = same_Some _ _ (sym e ∙ marked.0) in
    (same, or_same same marked.1)
mark_says budget before n false r marked e = absurd cc

-- there are as many plans as records
pub count_told : {P : Type 0} (at : ReportPose → P) (starts : ℕ → P) (k : ℕ) (records : List PlanRecord)
    → length (told_plans at starts k records) ≡ length records
count_told at starts k [] = refl
count_told at starts k (r ∷ rs) = ap suc (count_told at starts (suc k) rs)

-- one more than there are batches of changes
pub plans_are_counted : {P W : Type 0} (at : ReportPose → P) (places : ℕ → P) (on : Site W) (w : W) (updates : Updates)
    (how : SearchJob) (outputs : Outputs) (records : List PlanRecord) (log : List Entry) (broken : List Found)
    → ArePlans on w updates how outputs records true log broken
    → length (told_plans at places 0 records) ≡ suc (length updates.batches)
plans_are_counted at places on w updates how outputs records log broken plans =
    count_told at places 0 records ∙ plans.all_made refl ∙ add-one (length updates.batches)

module _ {P W : Type 0} (at : ReportPose → P) (places : ℕ → P) (by : PlannerOn W) (w : W) (batches : List (List Write))
    (how : SearchJob) (outputs : Outputs) (starts : ℕ → ℕ) (goal : ℕ) where
  -- what the mark of a plan says, of plans from plan k on
  pub marked_from : (records : List PlanRecord) (k : ℕ) (log : List Entry) (before : Before)
      → AreRecords by w batches how outputs starts goal k log before records
      → (j n : ℕ) (p : Plan P) → slice_get (told_plans at places k records) j ≡ Some p → p.spent ≡ Some n
      → (n ≡ expansions p)
      × ((n ≡ how.budget)
      ⊎ (expanded_before before + sum_by expansions (take (suc j) (told_plans at places k records)) ≡ 2 ^ 30))
  marked_from [] k log before each j n p here spent = absurd cc
  marked_from (r ∷ rs) k log before (carried, map_is, plan, each) zero n p here spent =
      let told : Plan P = told_plan at (places k) r in
      let same : told ≡ p = same_Some told p here in
      let says = mark_says how.budget (expanded_before before) n plan.searched.spent r plan.searched.marked
      (ap (λ (q : Plan P). q.spent) same ∙ spent) in
      let own : passing.expansions r.passes ≡ expansions p = sym (expansions_told r.passes) ∙ ap expansions same in
      let sum : sum_by expansions (told ∷ []) ≡ passing.expansions r.passes =
      sum_by-cons expansions told [] ∙ add-zero (expansions told) ∙ expansions_told r.passes in
      (says.0 ∙ own, same_or (ap (λ (count : ℕ). expanded_before before + count) sum) says.1)
  marked_from (r ∷ rs) k log before (carried, map_is, plan, each) (suc j) n p here spent =
      let told : Plan P = told_plan at (places k) r in
      let rest : List (Plan P) = take (suc j) (told_plans at places (suc k) rs) in
      let next =
      subst (λ (i : ℕ). AreRecords by w batches how outputs starts goal i (with_plan log r) (Changed carried) rs)
      (add-one k) each in
      let says = marked_from rs (suc k) (with_plan log r) (Changed carried) next j n p here spent in
      let sum : sum_by expansions (told ∷ rest) ≡ passing.expansions r.passes + sum_by expansions rest =
      sum_by-cons expansions told rest
      ∙ ap (λ (count : ℕ). count + sum_by expansions rest) (expansions_told r.passes) in
      let total : expanded_before before + sum_by expansions (told ∷ rest)
      ≡ carried.expanded + sum_by expansions rest =
      ap (λ (count : ℕ). expanded_before before + count) sum
      ∙ sym (add_assoc (expanded_before before) (passing.expansions r.passes) (sum_by expansions rest))
      ∙ ap (λ (count : ℕ). count + sum_by expansions rest) (sym plan.searched.counted) in
      (says.0, same_or total says.1)

  -- what the mark of a plan says, of all plans
  pub marks_are_told : (records : List PlanRecord) (log : List Entry)
      → AreRecords by w batches how outputs starts goal 0 log NoPlan records
      → (k n : ℕ) (p : Plan P) → slice_get (told_plans at places 0 records) k ≡ Some p → p.spent ≡ Some n
      → (n ≡ expansions p)
      × ((n ≡ how.budget) ⊎ (sum_by expansions (take (suc k) (told_plans at places 0 records)) ≡ 2 ^ 30))
  marks_are_told records log each k n p here spent =
      let says = marked_from records 0 log NoPlan each k n p here spent in
      (says.0, same_or (sym (zero-add (sum_by expansions (take (suc k) (told_plans at places 0 records))))) says.1)
