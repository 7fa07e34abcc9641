-- What is published while plans are made.
use Rattle.std.proofs.Common.{◌≡◌, ℕ, ◌+◌, Bool, List, [], ◌∷◌, ◌++◌, map, Option, Result, Ok, Err, refl, sym}
use Rattle.std.proofs.Common.{◌∙◌, ap, subst, inl, inr}
use Rattle.std.specs.Prelude.{OnErr}
use Rattle.sbpl_worlds.specs.sbpl_incumbent.Entries.{next_entry}
use Rattle.sbpl_worlds.specs.sbpl_labels.Counts.{Counts}
use Rattle.sbpl_worlds.specs.sbpl_labels.Marks.{Marks}
use Rattle.sbpl_worlds.specs.sbpl_search.Meaning.{Meaning}
use Rattle.sbpl_worlds.specs.sbpl_search.State.{State}
use Rattle.sbpl_worlds.specs.sbpl_plan.declared.ask.Ask.{Ask}
use Rattle.sbpl_worlds.specs.sbpl_plan.declared.found.Found.{Found}
use Rattle.sbpl_worlds.specs.sbpl_plan.declared.found.Found.TheVariants as found
use Rattle.sbpl_worlds.specs.sbpl_plan.declared.passes.PassRecord.{PassRecord}
use Rattle.sbpl_worlds.specs.sbpl_plan.Asked.{lowered}
use Rattle.sbpl_worlds.specs.sbpl_plan.Observed.{AreTold, IsTold}
use Rattle.sbpl_worlds.specs.sbpl_plan.OutOfMemory.{IsPartOfPlan}
use Rattle.sbpl_worlds.specs.sbpl_plan.Passing.{AreFirstPasses, ArePasses, Inquiry, expansions, inquiry_of}
use Rattle.sbpl_worlds.specs.sbpl_labels.declared.time.Time.{Time}
use Rattle.sbpl_worlds.specs.sbpl_replan.Replanning.{Standing, StandsOutOfMemory, inquiry}
use Rattle.sbpl_worlds.specs.sbpl_job.declared.job.Outputs.{Outputs}
use Rattle.sbpl_worlds.specs.sbpl_job.declared.job.SearchJob.{SearchJob}
use Rattle.sbpl_worlds.specs.sbpl_report.declared.record.TraceLine.{TraceLine}
use Rattle.sbpl_worlds.specs.sbpl_promises.Asked.{PlannerOn, ask_of, from_by, to_by, workers_of}
use Rattle.sbpl_worlds.specs.sbpl_promises.Headline.{Before, Begins}
use Rattle.sbpl_plans.specs.Planning.{IsPublishedInPart}
use Rattle.sbpl_worlds.specs.sbpl_promises.Published.{Entry, founds, with_paths}
use Rattle.sbpl_worlds.specs.sbpl_report.Traces.{traced_pass}

-- ---- what an observer that publishes was told

-- the entry of one pass, and then those of the others
paths_on : (l : List Entry) (plan pass : ℕ) (f : Found) (rest : List Found)
    → with_paths l plan pass (f ∷ rest) ≡ with_paths (with_paths l plan pass (f ∷ [])) plan (pass + 1) rest
paths_on l plan pass (found.Path cost bound) rest = refl
paths_on l plan pass found.None rest = refl
paths_on l plan pass found.Broken rest = refl

module _ {O : Type 0} (told : O → (pass cost bound : ℕ) → O → Type 0) (log : O → List Entry)
    (plan : ℕ) (Same : O → Type 0)
    (step : (a b : O) (pass cost bound : ℕ) → Same a → told a pass cost bound b
    → (log b ≡ log a ++ next_entry (log a) plan pass cost bound ∷ []) × Same b) where
  one_found : (pass : ℕ) (f : Found) (a b : O) → Same a → IsTold told pass f a b
      → (log b ≡ with_paths (log a) plan pass (f ∷ [])) × Same b
  one_found pass (found.Path cost bound) a b same is = step a b pass cost bound same is
  one_found pass found.None a b same is = (ap log is, subst Same (sym is) same)
  one_found pass found.Broken a b same is = (ap log is, subst Same (sym is) same)

  -- told of passes in turn, it published their paths
  pub all_found : {Action : Type 0} (pass : ℕ) (ps : List (PassRecord Action)) (a c : O) → Same a → AreTold told pass ps a c
      → (log c ≡ with_paths (log a) plan pass (founds ps)) × Same c
  all_found pass [] a c same is = (ap log is, subst Same (sym is) same)
  all_found pass (p ∷ ps) a c same is =
      let first = one_found pass p.found a is.0 same is.1 in
      let others = all_found (pass + 1) ps is.0 c first.1 is.2 in (
        others.0 ∙ ap (λ (l : List Entry). with_paths l plan (pass + 1) (founds ps)) first.0
            ∙ sym (paths_on (log a) plan pass p.found (founds ps)),
        others.1,
      )

-- passes that are told found the same
pub founds_traced : {Action : Type 0} (line : Action → TraceLine) (ps : List (PassRecord Action))
    → founds (map (traced_pass line) ps) ≡ founds ps
founds_traced line [] = refl
founds_traced line (p ∷ ps) = ap (λ (l : List Found). p.found ∷ l) (founds_traced line ps)

-- ---- out of memory

-- all passes of a plan are its first ones
pub first_of_all : {Action : Type 0} (means : Meaning Action) (q : Inquiry) (ps : List (PassRecord Action)) (eps : ℕ)
    (old new : Marks) (spent : Bool) → ArePasses means q eps old ps new spent → AreFirstPasses means q eps old ps new
first_of_all means q [] eps old new spent made = absurd made
first_of_all means q (p ∷ ps) eps old new spent (inl made) = inl (made.0, (spent, made.1))
first_of_all means q (p ∷ ps) eps old new spent (inr made) =
    inr (made.0, made.1, made.2, first_of_all means q ps (lowered q.ask.step eps) made.0 new spent made.3)

part_so : {Action : Type 0} {means : Meaning Action} {q : Inquiry} {eps : ℕ} {old new : State Action} {before after : Counts}
    (Told So : List (PassRecord Action) → Type 0) → ((ps : List (PassRecord Action)) → Told ps → So ps)
    → IsPartOfPlan means q eps old new before after Told → IsPartOfPlan means q eps old new before after So
part_so Told So so part =
    record { passes = part.passes; told = so part.passes part.told; made = part.made; leaves = part.leaves }

-- what follows from what an observer was told
pub stands_so : {Action : Type 0} {means : Meaning Action} {q : Inquiry} {time : Time} {Ready : Type 0} {old new : Standing Action}
    (Told So : List (PassRecord Action) → Type 0) → ((ps : List (PassRecord Action)) → Told ps → So ps)
    → StandsOutOfMemory means q time Ready Told old new → StandsOutOfMemory means q time Ready So old new
unfolding part_so
stands_so Told So so (inl cut) =
    inl (record { part = part_so Told So so cut.part; within = cut.within; ready = cut.ready; same = cut.same })
stands_so Told So so (inr cut) =
    inr (record {
      mid = cut.mid;
      between = cut.between;
      part = part_so Told So so cut.part;
      inflation = cut.inflation;
      cut = cut.cut;
    })

pub on_err_is : {A E : Type 0} (P : Type 0) (r : Result A E) → P → OnErr r P
on_err_is P (Ok x) h = tt
on_err_is P (Err e) h = h

-- the passes that were made before memory ran out are those of
-- a plan that was broken off, and their paths were published
module _ {W : Type 0} (by : PlannerOn W) (w : W) (guide : ℕ → ℕ) (start goal k : ℕ) (how : SearchJob) (outputs : Outputs)
    (log shown : List Entry) (before : Before) where
  pub broken_by : (old : Standing by.Action) (asked : Ask) (left : Marks) (ps : List (PassRecord by.Action))
      → by.on.says w (to_by by start goal) guide
      → Begins by.means by.on w (from_by by start goal) before old.search.labels old.search.raised
      → asked ≡ ask_of how outputs → old.search.goal ≡ to_by by start goal → old.search.workers ≡ workers_of how
      → AreFirstPasses by.means (inquiry_of (by.on.network w) guide old.search.goal old.search.workers asked) asked.first
      old.search.labels ps left
      → shown ≡ with_paths log k 0 (founds ps) → IsPublishedInPart by w how outputs start goal k log shown before
  broken_by old asked left ps is_guide begins same to by_workers made shown_is = record {
    found = founds ps;
    broken = inr (record {
      guide = guide;
      is_guide = is_guide;
      begun = old.search.labels;
      raised = old.search.raised;
      begins = begins;
      left = left;
      recorded = ps;
      passes =
          subst (λ (a : Ask). AreFirstPasses by.means (inquiry_of (by.on.network w) guide
          (to_by by start goal) (workers_of how) a) a.first old.search.labels ps left) same
          (subst (λ (k : ℕ). AreFirstPasses by.means (inquiry_of (by.on.network w) guide (to_by by start goal) k asked)
          asked.first old.search.labels ps left) by_workers
          (subst (λ (t : ℕ). AreFirstPasses by.means (inquiry_of (by.on.network w) guide t old.search.workers asked)
          asked.first old.search.labels ps left) to made));
      found_is = refl;
    });
    shown_is = shown_is;
  }

  -- and where memory ran out in the plan
  pub stands_broken : {time : Time} (Ready : Type 0) (old new : Standing by.Action) (asked : Ask)
      → by.on.says w (to_by by start goal) guide
      → Begins by.means by.on w (from_by by start goal) before old.search.labels old.search.raised
      → asked ≡ ask_of how outputs → old.search.goal ≡ to_by by start goal → old.search.workers ≡ workers_of how
      → StandsOutOfMemory by.means (inquiry (by.on.network w) guide old asked) time Ready (λ ps.
      shown ≡ with_paths log k 0 (founds ps)) old new → IsPublishedInPart by w how outputs start goal k log shown before
  stands_broken Ready old new asked is_guide begins same to by_workers (inl cut) =
      broken_by old asked new.search.labels cut.part.passes is_guide begins same to by_workers cut.part.made cut.part.told
  stands_broken Ready old new asked is_guide begins same to by_workers (inr cut) =
      broken_by old asked cut.mid.labels cut.part.passes is_guide begins same to by_workers cut.part.made cut.part.told

-- before the first pass nothing was published
pub none_published : {W : Type 0} {by : PlannerOn W} {w : W} {start goal k : ℕ} {how : SearchJob} {outputs : Outputs}
    {log shown : List Entry} {before : Before} → shown ≡ log
    → IsPublishedInPart by w how outputs start goal k log shown before
none_published same = record { found = []; broken = inl refl; shown_is = same }

-- passes with what they did as lines have as many expansions
pub expansions_traced : {Action : Type 0} (line : Action → TraceLine) (ps : List (PassRecord Action))
    → expansions (map (traced_pass line) ps) ≡ expansions ps
expansions_traced line [] = refl
expansions_traced line (p ∷ ps) = ap (λ (n : ℕ). p.expanded + n) (expansions_traced line ps)
