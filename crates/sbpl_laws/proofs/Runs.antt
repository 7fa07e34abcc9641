-- What holds of a run by how it ends.
use Rattle.std.proofs.Common.{◌≡◌, ◌≢◌, ℕ, ◌+◌, ◌⊎◌, ◌≤◌, append_assoc, append-nil, Bool, true, false, List, [], ◌∷◌}
use Rattle.std.proofs.Common.{◌++◌, flat_map, map, Option, Some, None, sym, ◌∙◌, ap, refl, subst, arith, inl, inr}
use Rattle.std.specs.List.{AllByRecursion}
use Rattle.sbpl_promises.specs.sbpl_cfg.declared.fault.EnvFault.{EnvFault}
use Rattle.sbpl_promises.specs.sbpl_cfg.Environment.{Environment}
use Rattle.sbpl_promises.specs.sbpl_mprim.declared.fault.PrimFault.{PrimFault}
use Rattle.sbpl_promises.specs.sbpl_mprim.Primitives.{Primitives}
use Rattle.sbpl_promises.specs.sbpl_desk.Desk.{Stays}
use Rattle.sbpl_promises.specs.sbpl_sweep.Widths.{IsFirstTooWide, NoneTooWide}
use Rattle.sbpl_promises.specs.sbpl_cost.PrimitiveCost.{IsFirstTooDear}
use Rattle.sbpl_promises.specs.sbpl_cost.Alike.{AlikeWorldsAreOneGraph}
use Rattle.sbpl_promises.specs.sbpl_cost.World.{World}
use Rattle.sbpl_promises.specs.sbpl_map.declared.fault.ChangeFault.{ChangeFault}
use Rattle.sbpl_promises.specs.sbpl_cert.declared.outcome.Outcome.{Outcome}
use Rattle.sbpl_promises.specs.declared.section_stop.SectionStop.{SectionStop}
use Rattle.sbpl_promises.specs.declared.section_stop.SectionStop.TheVariants as section
use Rattle.sbpl_promises.specs.sbpl_job.declared.job.CheckJob.{CheckJob}
use Rattle.sbpl_promises.specs.sbpl_job.declared.job.DemoJob.{DemoJob}
use Rattle.sbpl_promises.specs.sbpl_job.declared.job.Job.{Job}
use Rattle.sbpl_promises.specs.sbpl_job.declared.job.Job.TheVariants as job
use Rattle.sbpl_promises.specs.sbpl_job.declared.job.Outputs.{Outputs}
use Rattle.sbpl_promises.specs.sbpl_job.declared.job.Sources.{Sources}
use Rattle.sbpl_promises.specs.Checked.{IsHolding}
use Rattle.sbpl_promises.specs.Sites.{searched_on}
use Rattle.sbpl_promises.specs.Determined.{AreAlikeWorlds}
use Rattle.sbpl_promises.specs.LatticeSite.{lattice_site}
use Rattle.sbpl_laws.proofs.AlikeSites.{goes_alike}
use Rattle.sbpl_laws.proofs.LatticeAlike.{lattices_alike}
use Rattle.sbpl_promises.specs.sbpl_report.declared.record.PlanRecord.{PlanRecord}
use Rattle.sbpl_promises.specs.sbpl_job.declared.job.GridSources.{GridSources}
use Rattle.sbpl_promises.specs.sbpl_report.declared.refusal.PathEnd.{PathEnd}
use Rattle.sbpl_promises.specs.sbpl_report.declared.refusal.Refusal.{Refusal}
use Rattle.sbpl_promises.specs.sbpl_report.declared.refusal.Refusal.TheVariants as refusal
use Rattle.sbpl_promises.specs.Causes.{AreDemonstrated, ArePlanned, IsCause, IsEarlyCause, IsJobCause, IsTooLong}
use Rattle.sbpl_promises.specs.Causes.{ReadsUpdates, ReadsWorld, check_files, grid_files, grid_scope}
use Rattle.sbpl_promises.specs.Causes.{lattice_files, plan_files, scope_of}
use Rattle.sbpl_promises.specs.WorldFiles.{WorldFiles}
use Rattle.sbpl_promises.specs.Texts.{Scope}
use Rattle.sbpl_promises.specs.declared.updates.Updates.{Updates}
use Rattle.sbpl_promises.specs.sbpl_job.Jobs.{moves_in}
use Rattle.sbpl_promises.specs.Intents.{BeginsAfter, Intent, Refused, Planned, Checked, Listed, Demonstrated}
use Rattle.sbpl_promises.specs.Intents.{OutOfMemory, checked_status, checked_writes, demo_writes, end_writes}
use Rattle.sbpl_promises.specs.Intents.{incumbent_writes, intent_status, labels_writes, last_write}
use Rattle.sbpl_promises.specs.Intents.{lines_writes, plans_status, plans_writes, section_writes, stop_writes}
use Rattle.sbpl_promises.specs.Intents.{trace_writes, words_writes, writes_of}
use Rattle.sbpl_promises.specs.sbpl_report.Refusals.{refusal_status}
use Rattle.sbpl_promises.specs.sbpl_report.Shown.{labels_text}
use Rattle.sbpl_promises.specs.sbpl_plan.declared.found.Found.{Found}
use Rattle.sbpl_promises.specs.sbpl_report.Listing.{listings}
use Rattle.sbpl_promises.specs.Published.{Entry}
use Rattle.sbpl_promises.specs.sbpl_report.Report.{incumbent_text}
use Rattle.sbpl_promises.specs.Promises.{AreGood, AtJob, EndsJob, EndsRun, EndsWithoutMemory, GivesIntent, IsCheckedIn}
use Rattle.sbpl_promises.specs.Promises.{IsCutShort, IsDone, IsFaultFound, IsFlawFound, IsNoCheck, IsOrFailed}
use Rattle.sbpl_promises.specs.Promises.{IsOrUnwritten, IsRefused, IsStatus, IsWrittenFor, MayBeWritten, SomeRose}
use Rattle.sbpl_promises.specs.Promises.{Tells, TellsChangeFault, TellsUpdates, TellsEnvironment, TellsEnvironmentFault}
use Rattle.sbpl_promises.specs.Promises.{TellsGrid, TellsGridFault, TellsPrimitiveFault, TellsPrimitives, TellsTooMuch}
use Rattle.sbpl_promises.specs.Promises.{TellsEndOff, TellsGridEndOff, TellsWorld, by_job, by_memory, by_words, changes_of, grid_of, sources_of}
use Rattle.sbpl_promises.specs.sbpl_report.Traces.{trace_text}
use Rattle.sbpl_promises.specs.Writing.{AreAppended, DeskState, EndsAs, IsCutAt, IsNamed, IsOutput}
use Rattle.sbpl_promises.specs.Writing.{IsOutputOf, RunsOutAt, Names, ReadFailed, StaysBut, Told, Write}
use Rattle.sbpl_promises.specs.Writing.{output, to_named, to_output}
use Rattle.sbpl_promises.specs.Clear.{TextsAreClear}
use Rattle.sbpl_promises.specs.Clear.{SectionsAreClear}
use Rattle.sbpl_laws.proofs.OneEnding.{OneMap, checked_ends_alike}
use Rattle.sbpl_laws.proofs.GridAlike.{AreOneGrid, grids_alike}
use Rattle.sbpl_promises.specs.GridSite.{grid_site}
use Rattle.sbpl_promises.specs.sbpl_nav2d.World.{GridWorld}
use Rattle.sbpl_promises.specs.sbpl_job.declared.job.NavCheckJob.{NavCheckJob}
use Rattle.sbpl_laws.proofs.Converse.{HasRead, IsReadFrom, all_good, by_intent, changes_faulty, changes_faulty_none}
use Rattle.sbpl_laws.proofs.Converse.{changes_long, changes_long_none, changes_world, environment_faulty}
use Rattle.sbpl_laws.proofs.Converse.{environment_faulty_none, environment_long, environment_long_none, good_files}
use Rattle.sbpl_laws.proofs.Converse.{end_off, end_off_none, good_grid, grid_end_off, grid_end_off_none, grid_faulty, grid_faulty_none, grid_long, grid_long_none, grid_reads}
use Rattle.sbpl_laws.proofs.Converse.{labels_refused, lattice_reads, no_memory, primitives_faulty}
use Rattle.sbpl_laws.proofs.Converse.{primitives_faulty_none, primitives_good, primitives_long, primitives_long_none}
use Rattle.sbpl_laws.proofs.Converse.{same_updates, same_environment, same_grid, same_primitives, same_scope, told_is}
use Rattle.sbpl_laws.proofs.Converse.{too_dear_none, too_long_not_short, too_much_not_read, too_wide_none, world_good}

-- ---- statuses

-- a status that is this number is one that the program has, where the number is
is_status : (s k : ℕ) → IsStatus k → s ≡ k → IsStatus s
is_status s k has is = subst (λ (n : ℕ). IsStatus n) (sym is) has

intent_is_status : (i : Intent) → IsStatus (intent_status i)
intent_is_status (Refused (refusal.Environment x)) = refl
intent_is_status (Refused (refusal.Grid x)) = refl
intent_is_status (Refused _) = refl
intent_is_status (Planned records true log broken) = refl
intent_is_status (Checked goal os None) = refl
intent_is_status (Checked goal os (Some (section.Flaw x))) = refl
intent_is_status (Checked goal os (Some _)) = refl
intent_is_status (Demonstrated w count records true log broken) = refl
intent_is_status _ = refl

-- what a job means to do does not have the status of a failed write
not_unwritten : (i : Intent) → intent_status i ≢ 7
not_unwritten (Refused (refusal.Environment x)) = λ h. omega arith
not_unwritten (Refused (refusal.Grid x)) = λ h. omega arith
not_unwritten (Refused _) = λ h. omega arith
not_unwritten (Planned records true log broken) = λ h. omega arith
not_unwritten (Checked goal os None) = λ h. omega arith
not_unwritten (Checked goal os (Some (section.Flaw x))) = λ h. omega arith
not_unwritten (Checked goal os (Some _)) = λ h. omega arith
not_unwritten (Demonstrated w count records true log broken) = λ h. omega arith
not_unwritten _ = λ h. omega arith

-- ---- writes go under names that the job may write under

-- each of these writes is under such a name
abbrev pub AreUnder : (List ℕ → Type 0) → List Write → Type 0
AreUnder IsWritten ws = AllByRecursion (λ w. IsWritten w.name) ws

under_both : (IsWritten : List ℕ → Type 0) (ws vs : List Write) → AreUnder IsWritten ws → AreUnder IsWritten vs
    → AreUnder IsWritten (ws ++ vs)
under_both IsWritten [] vs all more = more
under_both IsWritten (w ∷ ws) vs all more = (all.0, under_both IsWritten ws vs all.1 more)

listed_under : (texts : List (List ℕ)) → AreUnder IsOutput (map to_output texts)
listed_under [] = tt
listed_under (t ∷ ts) = (refl, listed_under ts)

named_under : (IsWritten : List ℕ → Type 0) (o : Option (List ℕ)) (text : List ℕ)
    → ((name : List ℕ) → IsNamed o name → IsWritten name) → AreUnder IsWritten (to_named o text)
named_under IsWritten None text may = tt
named_under IsWritten (Some name) text may = (may name refl, tt)

-- the last write, where there is one
end_under : (IsWritten : List ℕ → Type 0) (all : Bool) → ((name : List ℕ) → IsOutput name → IsWritten name)
    → AreUnder IsWritten (end_writes all)
end_under IsWritten true may = (may output refl, tt)
end_under IsWritten false may = tt

section_under : (o : Outputs) (r : PlanRecord) → AreUnder (IsOutputOf o) (section_writes o r)
section_under o r =
    let labels = named_under (IsOutputOf o) o.labels (labels_text r.labels) (λ name is. inr (inl is)) in
    let trace = named_under (IsOutputOf o) o.trace (trace_text r) (λ name is. inr (inr (inl is))) in
    let incumbent =
    named_under (IsOutputOf o) o.incumbent (incumbent_text r.incumbent) (λ name is. inr (inr (inr is))) in (
      inl refl,
      under_both (IsOutputOf o) (labels_writes o r) (trace_writes o r ++ incumbent_writes o r) labels
          (under_both (IsOutputOf o) (trace_writes o r) (incumbent_writes o r) trace incumbent),
    )

plans_under : (o : Outputs) (records : List PlanRecord) (all : Bool)
    → AreUnder (IsOutputOf o) (plans_writes o records all)
plans_under o [] all = end_under (IsOutputOf o) all (λ name is. inl is)
plans_under o (r ∷ rs) all =
    subst (λ (ws : List Write). AreUnder (IsOutputOf o) ws)
    (sym (append_assoc (section_writes o r) (flat_map (section_writes o) rs) (end_writes all)))
    (under_both (IsOutputOf o) (section_writes o r) (plans_writes o rs all) (section_under o r) (plans_under o rs all))

lines_under : (records : List PlanRecord) (all : Bool) → AreUnder IsOutput (lines_writes records all)
lines_under [] all = end_under IsOutput all (λ name is. is)
lines_under (r ∷ rs) all = (refl, lines_under rs all)

stop_under : (goal plan : ℕ) (e : SectionStop) → AreUnder IsOutput (stop_writes goal plan e)
stop_under goal plan (section.Flaw x) = (refl, tt)
stop_under goal plan (section.Fault x) = (refl, tt)
stop_under goal plan section.NoMemory = tt

checked_under : (goals : ℕ → ℕ) (plan : ℕ) (os : List Outcome) (end : Option SectionStop)
    → AreUnder IsOutput (checked_writes goals plan os end)
checked_under goals plan [] None = (refl, tt)
checked_under goals plan [] (Some e) = stop_under (goals plan) plan e
checked_under goals plan (o ∷ os) end = (refl, checked_under goals (plan + 1) os end)

-- each job may write to the standard output
output_is : (j : Job) → MayBeWritten (Some j) output
output_is (job.Plan p) = inl refl
output_is (job.Nav j) = inl refl
output_is _ = refl

-- what a job means to do is written so: plans are made by the job `plan` alone
writes_under : (held : Told) (Failed : Names) (j : Job) (i : Intent) → GivesIntent held Failed j i
    → AreUnder (MayBeWritten (Some j)) (writes_of j i)
writes_under held Failed j (Refused r) gives = (output_is j, tt)
writes_under held Failed j OutOfMemory gives = tt
writes_under held Failed (job.Plan p) (Planned records all log broken) gives = plans_under p.outputs records all
writes_under held Failed (job.Check c) (Checked goal os end) gives = checked_under goal 0 os end
writes_under held Failed (job.Sweep from) (Listed w) gives =
    under_both IsOutput (map to_output (listings w)) (last_write ∷ []) (listed_under (listings w)) (refl, tt)
writes_under held Failed (job.Demo d) (Demonstrated w count records all log broken) gives =
    (refl, lines_under records all)
writes_under held Failed (job.Nav n) (Planned records all log broken) gives = plans_under n.outputs records all
writes_under held Failed (job.NavCheck n) (Checked goal os end) gives = checked_under goal 0 os end
writes_under held Failed _ _ gives = absurd gives

one_of_all : (IsWritten : List ℕ → Type 0) (first : List Write) (w : Write) (rest : List Write)
    → AreUnder IsWritten (first ++ w ∷ rest) → IsWritten w.name
one_of_all IsWritten [] w rest all = all.0
one_of_all IsWritten (v ∷ first) w rest all = one_of_all IsWritten first w rest all.1

cut_rose : (named : Option Job) (before after : DeskState) (ws : List Write) → AreUnder (MayBeWritten named) ws
    → IsCutAt before after ws → SomeRose named before after
cut_rose named before after ws all cut = (
  cut.cut.name,
  one_of_all (MayBeWritten named) cut.first cut.cut cut.rest
      (subst (λ (l : List Write). AreUnder (MayBeWritten named) l) cut.whole all),
  cut.rose,
)

-- ---- a job

module _ (before after : DeskState) (old new : List Entry) where
  abbrev held : Told
  held = before.held

  abbrev Failed : Names
  Failed = ReadFailed before after

  done_by : (j : Job) (i : Intent) → GivesIntent held Failed j i → BeginsAfter i old → 0 ≡ intent_status i
      → AreAppended before after (writes_of j i) → IsDone before after old j
  done_by (job.Plan p) (Planned records true log broken) gives begins zero made = record {
    records = records;
    planned =
        subst (λ (l : List Entry). ArePlanned held (plan_files p) p.changes p.search p.outputs records true l []) begins
        (subst (λ (b : List Found). ArePlanned held (plan_files p) p.changes p.search p.outputs records true log b)
        (gives.plans.none_broken refl) gives);
    report = made;
  }
  done_by (job.Check c) (Checked goal os None) gives begins zero made =
      record { goals = goal; outcomes = os; checked = gives; lines = made }
  done_by (job.Sweep from) (Listed w) gives begins zero made =
      record { world = w; says = gives.0; is_world = gives.1; lines = made }
  done_by (job.Demo d) (Demonstrated w count records true log broken) (batches, is, planned) begins zero made =
      record {
        world = w;
        batches = batches;
        records = records;
        planned =
            subst (λ (l : List Entry). AreDemonstrated d w batches records true l []) begins (subst (λ (b : List Found).
            AreDemonstrated d w batches records true log b) (planned.plans.none_broken refl) planned);
        lines = subst (λ (n : ℕ). AreAppended before after (demo_writes w n records true)) is made;
      }
  done_by (job.Nav n) (Planned records true log broken) gives begins zero made = record {
    records = records;
    planned =
        subst (λ (l : List Entry). ArePlanned held (grid_files n.sources) n.changes n.search n.outputs records true l [])
        begins (subst (λ (b : List Found). ArePlanned held (grid_files n.sources) n.changes n.search n.outputs records true
        log b) (gives.plans.none_broken refl) gives);
    report = made;
  }
  done_by (job.NavCheck n) (Checked goal os None) gives begins zero made =
      record { goals = goal; outcomes = os; checked = gives; lines = made }
  done_by j (Refused (refusal.Environment x)) gives begins zero made = absurd (omega arith)
  done_by j (Refused (refusal.Grid x)) gives begins zero made = absurd (omega arith)
  done_by j (Refused _) gives begins zero made = absurd (omega arith)
  done_by j OutOfMemory gives begins zero made = absurd (omega arith)
  done_by (job.Plan p) (Planned records false log broken) gives begins zero made = absurd (omega arith)
  done_by (job.Check c) (Checked goal os (Some (section.Flaw x))) gives begins zero made = absurd (omega arith)
  done_by (job.Check c) (Checked goal os (Some _)) gives begins zero made = absurd (omega arith)
  done_by (job.Demo d) (Demonstrated w count records false log broken) gives begins zero made = absurd (omega arith)
  done_by (job.Nav n) (Planned records false log broken) gives begins zero made = absurd (omega arith)
  done_by (job.NavCheck n) (Checked goal os (Some (section.Flaw x))) gives begins zero made = absurd (omega arith)
  done_by (job.NavCheck n) (Checked goal os (Some _)) gives begins zero made = absurd (omega arith)
  done_by _ _ gives begins zero made = absurd gives

  job_done : (j : Job) (status : ℕ) → EndsJob before after old new j status → status ≡ 0 → IsDone before after old j
  job_done j status e zero = elim e.ends [
    | inl (is, made) ↦ done_by j e.intent e.gives e.begins (sym zero ∙ is) made
    | inr (inl (is, cut)) ↦ absurd (omega arith)
    | inr (inr (is, stopped)) ↦ absurd (omega arith)
  ]

  -- a status that may be that of a refusal, and is not that of a failed write
  abbrev pub IsRefusing : ℕ → Type 0
  IsRefusing s = (2 ≤ s) × (s ≤ 8) × (s ≢ 7)

  refused_by : (j : Job) (i : Intent) (status : ℕ) → GivesIntent held Failed j i → intent_status i ≡ status → 2 ≤ status
      → status ≤ 8 → AreAppended before after (writes_of j i) → StaysBut (IsWrittenFor j i) before.written after.written
      → IsRefused before after status j
  refused_by j (Refused r) status gives is low high made others =
      record { refusal = r; has_status = is; cause = gives; line = made; others = others }
  refused_by j (Planned records true log broken) status gives is low high made others = absurd (omega arith)
  refused_by j (Checked goal os None) status gives is low high made others = absurd (omega arith)
  refused_by j (Checked goal os (Some (section.Flaw x))) status gives is low high made others = absurd (omega arith)
  refused_by j (Checked goal os (Some _)) status gives is low high made others = absurd (omega arith)
  refused_by j (Demonstrated w count records true log broken) status gives is low high made others =
      absurd (omega arith)
  refused_by j _ status gives is low high made others = absurd (omega arith)

  job_refused : (j : Job) (status wanted : ℕ) → EndsJob before after old new j status → status ≡ wanted
      → IsRefusing wanted → IsRefused before after wanted j
  job_refused j status wanted e at (low, high, seven) = elim e.ends [
    | inl (is, made) ↦ refused_by j e.intent wanted e.gives (sym is ∙ at) low high made e.others
    | inr (inl (is, cut)) ↦ absurd (seven (sym at ∙ is))
    | inr (inr (is, stopped)) ↦ absurd (omega arith)
  ]

  -- the job found a flaw
  flawed_by : (j : Job) (i : Intent) → GivesIntent held Failed j i → 1 ≡ intent_status i
      → AreAppended before after (writes_of j i) → IsFlawFound before after j
  flawed_by (job.Check c) (Checked goal os (Some (section.Flaw x))) gives one made =
      (x, record { goals = goal; outcomes = os; checked = gives; lines = made })
  flawed_by (job.NavCheck c) (Checked goal os (Some (section.Flaw x))) gives one made =
      (x, record { goals = goal; outcomes = os; checked = gives; lines = made })
  flawed_by j (Refused (refusal.Environment x)) gives one made = absurd (omega arith)
  flawed_by j (Refused (refusal.Grid x)) gives one made = absurd (omega arith)
  flawed_by j (Refused _) gives one made = absurd (omega arith)
  flawed_by j (Planned records true log broken) gives one made = absurd (omega arith)
  flawed_by j (Checked goal os None) gives one made = absurd (omega arith)
  flawed_by j (Checked goal os (Some (section.Fault x))) gives one made = absurd (omega arith)
  flawed_by j (Checked goal os (Some section.NoMemory)) gives one made = absurd (omega arith)
  flawed_by j (Demonstrated w count records true log broken) gives one made = absurd (omega arith)
  flawed_by _ (Checked goal os end) gives one made = absurd gives
  flawed_by j _ gives one made = absurd (omega arith)

  job_flawed : (j : Job) (status : ℕ) → EndsJob before after old new j status → status ≡ 1 → IsFlawFound before after j
  job_flawed j status e one = elim e.ends [
    | inl (is, made) ↦ flawed_by j e.intent e.gives (sym one ∙ is) made
    | inr (inl (is, cut)) ↦ absurd (omega arith)
    | inr (inr (is, stopped)) ↦ absurd (omega arith)
  ]

  -- the job found a fault in the text of labels
  faulted_by : (j : Job) (i : Intent) → GivesIntent held Failed j i → 10 ≡ intent_status i
      → AreAppended before after (writes_of j i) → IsFaultFound before after j
  faulted_by (job.Check c) (Checked goal os (Some (section.Fault x))) gives ten made =
      (x, record { goals = goal; outcomes = os; checked = gives; lines = made })
  faulted_by (job.NavCheck c) (Checked goal os (Some (section.Fault x))) gives ten made =
      (x, record { goals = goal; outcomes = os; checked = gives; lines = made })
  faulted_by j (Refused (refusal.Environment x)) gives ten made = absurd (omega arith)
  faulted_by j (Refused (refusal.Grid x)) gives ten made = absurd (omega arith)
  faulted_by j (Refused _) gives ten made = absurd (omega arith)
  faulted_by j (Planned records true log broken) gives ten made = absurd (omega arith)
  faulted_by j (Checked goal os None) gives ten made = absurd (omega arith)
  faulted_by j (Checked goal os (Some (section.Flaw x))) gives ten made = absurd (omega arith)
  faulted_by j (Checked goal os (Some section.NoMemory)) gives ten made = absurd (omega arith)
  faulted_by j (Demonstrated w count records true log broken) gives ten made = absurd (omega arith)
  faulted_by _ (Checked goal os end) gives ten made = absurd gives
  faulted_by j _ gives ten made = absurd (omega arith)

  job_faulted : (j : Job) (status : ℕ) → EndsJob before after old new j status → status ≡ 10
      → IsFaultFound before after j
  job_faulted j status e ten = elim e.ends [
    | inl (is, made) ↦ faulted_by j e.intent e.gives (sym ten ∙ is) made
    | inr (inl (is, cut)) ↦ absurd (omega arith)
    | inr (inr (is, stopped)) ↦ absurd (omega arith)
  ]

  job_cut : (j : Job) (status : ℕ) → EndsJob before after old new j status → status ≡ 7 → IsCutShort before after old j
  job_cut j status e seven = elim e.ends [
    | inl (is, made) ↦ absurd (not_unwritten e.intent (sym is ∙ seven))
    | inr (inl (is, cut)) ↦
        record { intent = e.intent; gives = e.gives; begins = e.begins; cut = cut; others = e.others }
    | inr (inr (is, stopped)) ↦ absurd (omega arith)
  ]

  -- all writes are the first few too
  all_made : (ws : List Write) → AreAppended before after ws → RunsOutAt before after ws
  all_made ws made = record { first = ws; rest = []; whole = sym (append-nil ws); made = made }

  job_stopped : (j : Job) (status : ℕ) → EndsJob before after old new j status → status ≡ 9
      → EndsWithoutMemory before after old j
  job_stopped j status e nine = elim e.ends [
    | inl (is, made) ↦ record {
      intent = e.intent;
      gives = e.gives;
      begins = e.begins;
      stopped = all_made (writes_of j e.intent) made;
      others = e.others;
    }
    | inr (inl (is, cut)) ↦ absurd (omega arith)
    | inr (inr (is, stopped)) ↦
        record { intent = e.intent; gives = e.gives; begins = e.begins; stopped = stopped; others = e.others }
  ]

  -- a job's status is that of what it means to do, unless a write failed or memory ran out
  job_status : (j : Job) (status wanted : ℕ) → EndsJob before after old new j status
      → ((i : Intent) → GivesIntent held Failed j i → IsOrFailed wanted (intent_status i)) → IsOrFailed wanted status
  job_status j status wanted e each = elim e.ends [
    | inl (is, made) ↦ subst (λ s. IsOrFailed wanted s) (sym is) (each e.intent e.gives)
    | inr (inl (is, cut)) ↦ inr (inr (inl is))
    | inr (inr (is, stopped)) ↦ inr (inr (inr is))
  ]

  -- ---- a run

  module _ (named : Option Job) (status : ℕ) where
    pub run_status : EndsRun named before after old new status → IsStatus status
    run_status (by_job j is e) = elim e.ends [
      | inl (at, made) ↦ is_status status (intent_status e.intent) (intent_is_status e.intent) at
      | inr (inl (at, cut)) ↦ is_status status 7 refl at
      | inr (inr (at, stopped)) ↦ is_status status 9 refl at
    ]
    run_status (by_words is (inl (at, made)) stays) = is_status status 2 refl at
    run_status (by_words is (inr (inl (at, cut))) stays) = is_status status 7 refl at
    run_status (by_words is (inr (inr (at, stopped))) stays) = is_status status 9 refl at
    run_status (by_memory at same stays) = is_status status 9 refl at

    words_statuses : EndsAs before after words_writes 2 status → (status ≡ 2) ⊎ ((status ≡ 7) ⊎ (status ≡ 9))
    words_statuses (inl (at, made)) = inl at
    words_statuses (inr (inl (at, cut))) = inr (inl at)
    words_statuses (inr (inr (at, stopped))) = inr (inr at)

    not_by_words : EndsAs before after words_writes 2 status → status ≢ 2 → status ≢ 7 → status ≢ 9 → ⊥
    not_by_words ends a b c =
        elim (words_statuses ends) [ inl two ↦ a two | inr (inl seven) ↦ b seven | inr (inr nine) ↦ c nine ]

    pub run_done : EndsRun named before after old new status → status ≡ 0 → AtJob named (IsDone before after old)
    run_done (by_job j is e) zero = (j, is, job_done j status e zero)
    run_done (by_words is ends stays) zero =
        absurd (not_by_words ends (λ h. omega arith) (λ h. omega arith) (λ h. omega arith))
    run_done (by_memory at same stays) zero = absurd (omega arith)

    pub run_words : EndsRun named before after old new status → status ≡ 2
        → ((named ≡ None) × AreAppended before after words_writes) ⊎ AtJob named (IsRefused before after 2)
    run_words (by_job j is e) two =
        inr (j, is, job_refused j status 2 e two (omega arith, omega arith, λ h. omega arith))
    run_words (by_words is (inl (at, made)) stays) two = inl (is, made)
    run_words (by_words is (inr (inl (at, cut))) stays) two = absurd (omega arith)
    run_words (by_words is (inr (inr (at, stopped))) stays) two = absurd (omega arith)
    run_words (by_memory at same stays) two = absurd (omega arith)

    pub run_refused : (wanted : ℕ) → EndsRun named before after old new status → status ≡ wanted → IsRefusing wanted
        → wanted ≢ 2 → AtJob named (IsRefused before after wanted)
    run_refused wanted (by_job j is e) at other files = (j, is, job_refused j status wanted e at other)
    run_refused wanted (by_words is ends stays) at (low, high, seven) files =
        absurd (not_by_words ends (λ h. files (sym at ∙ h)) (λ h. seven (sym at ∙ h)) (λ h. omega arith))
    run_refused wanted (by_memory nine same stays) at (low, high, seven) files = absurd (omega arith)

    pub run_flawed : EndsRun named before after old new status → status ≡ 1 → AtJob named (IsFlawFound before after)
    run_flawed (by_job j is e) one = (j, is, job_flawed j status e one)
    run_flawed (by_words is ends stays) one =
        absurd (not_by_words ends (λ h. omega arith) (λ h. omega arith) (λ h. omega arith))
    run_flawed (by_memory at same stays) one = absurd (omega arith)

    pub run_faulted : EndsRun named before after old new status → status ≡ 10 → AtJob named (IsFaultFound before after)
    run_faulted (by_job j is e) ten = (j, is, job_faulted j status e ten)
    run_faulted (by_words is ends stays) ten =
        absurd (not_by_words ends (λ h. omega arith) (λ h. omega arith) (λ h. omega arith))
    run_faulted (by_memory at same stays) ten = absurd (omega arith)

    pub run_cut : EndsRun named before after old new status → status ≡ 7
        → AtJob named (IsCutShort before after old) ⊎ ((named ≡ None) × IsCutAt before after words_writes)
    run_cut (by_job j is e) seven = inl (j, is, job_cut j status e seven)
    run_cut (by_words is (inl (at, made)) stays) seven = absurd (omega arith)
    run_cut (by_words is (inr (inl (at, cut))) stays) seven = inr (is, cut)
    run_cut (by_words is (inr (inr (at, stopped))) stays) seven = absurd (omega arith)
    run_cut (by_memory at same stays) seven = absurd (omega arith)

    pub run_write : EndsRun named before after old new status → status ≡ 7 → SomeRose named before after
    run_write ends seven = elim (run_cut ends seven) [
      | inl (j, is, cut) ↦
          subst (λ (o : Option Job). SomeRose o before after) (sym is)
          (cut_rose (Some j) before after _ (writes_under held Failed j cut.intent cut.gives) cut.cut)
      | inr (is, cut) ↦
          subst (λ (o : Option Job). SomeRose o before after) (sym is)
          (cut_rose None before after words_writes (refl, tt) cut)
    ]

    pub run_stopped : EndsRun named before after old new status → status ≡ 9
        → AtJob named (EndsWithoutMemory before after old)
        ⊎ (((named ≡ None) × RunsOutAt before after words_writes) ⊎ Stays before.written after.written)
    run_stopped (by_job j is e) nine = inl (j, is, job_stopped j status e nine)
    run_stopped (by_words is (inl (at, made)) stays) nine = absurd (omega arith)
    run_stopped (by_words is (inr (inl (at, cut))) stays) nine = absurd (omega arith)
    run_stopped (by_words is (inr (inr (at, stopped))) stays) nine = inr (inl (is, stopped))
    run_stopped (by_memory at same stays) nine = inr (inr same)

    -- what was published grew by the entries of the job's plans, or stays
    pub run_published : EndsRun named before after old new status
        → AtJob named (λ j. EndsJob before after old new j status) ⊎ (((named ≡ None) ⊎ (status ≡ 9)) × (new ≡ old))
    run_published (by_job j is e) = inl (j, is, e)
    run_published (by_words is ends stays) = inr (inl is, stays)
    run_published (by_memory at same stays) = inr (inr at, stays)

    pub run_no_job : EndsRun named before after old new status → named ≡ None → IsOrUnwritten 2 status
    run_no_job (by_job j is e) none = absurd (cc)
    run_no_job (by_words is ends stays) none = words_statuses ends
    run_no_job (by_memory at same stays) none = inr (inr at)

    -- where the words name a job, what holds of each way that it can come holds of the run
    by_each : (j : Job) (wanted : ℕ) → EndsRun named before after old new status → named ≡ Some j
        → ((i : Intent) → GivesIntent held Failed j i → IsOrFailed wanted (intent_status i)) → IsOrFailed wanted status
    by_each j wanted (by_job other is e) names each =
        let same : other ≡ j = cc in
        job_status j status wanted (subst (λ k. EndsJob before after old new k status) same e) each
    by_each j wanted (by_words is ends stays) names each = absurd (cc)
    by_each j wanted (by_memory at same stays) names each = inr (inr (inr at))

    -- where the files stand for no world and updates, a job is refused for one of them, or memory runs out
    by_early : {W : Type 0} (j : Job) (f : WorldFiles W) (changes : Option (List ℕ)) (wanted : ℕ)
        → IsReadFrom j f changes → EndsRun named before after old new status → named ≡ Some j
        → ((r : Refusal) → IsEarlyCause held Failed f changes r → IsOrFailed wanted (refusal_status r))
        → (HasRead held f changes → ⊥) → IsOrFailed wanted status
    by_early j f changes wanted reads ends names refused none =
        by_each j wanted ends names (λ i gives. by_intent held Failed wanted j f changes i reads by_cause none gives)
      where
        by_cause : (r : Refusal) → IsJobCause held Failed j r → IsOrFailed wanted (refusal_status r)
        by_cause r cause = elim (reads.cause held Failed r cause) [
          | inl early ↦ refused r early
          | inr (updates, checks) ↦ absurd (none updates)
        ]

    -- and where they stand for no world, for a file of the world
    by_none : {W : Type 0} (j : Job) (f : WorldFiles W) (changes : Option (List ℕ)) (wanted : ℕ)
        → IsReadFrom j f changes → EndsRun named before after old new status → named ≡ Some j
        → ((r : Refusal) → f.refused held Failed r → IsOrFailed wanted (refusal_status r))
        → ((w : W) → f.stand_for held w → ⊥)
        → IsOrFailed wanted status
    by_none j f changes wanted reads ends names refused none =
        by_early j f changes wanted reads ends names by_cause (λ c. none c.world c.says)
      where
        by_cause : (r : Refusal) → IsEarlyCause held Failed f changes r → IsOrFailed wanted (refusal_status r)
        by_cause r (inl cause) = refused r cause
        by_cause r (inr cause) =
            let found = changes_world held Failed f changes r cause in absurd (none found.0 found.1)

    -- the same for a job on a lattice
    no_lattice : (j : Job) (from : Sources) (wanted : ℕ) → EndsRun named before after old new status → named ≡ Some j
        → sources_of j ≡ Some from → ((r : Refusal) → IsCause held Failed from r → IsOrFailed wanted (refusal_status r))
        → ((w : World) → ReadsWorld held from w → ⊥) → IsOrFailed wanted status
    no_lattice j from wanted ends names is refused none =
        by_none j (lattice_files from (moves_in j)) (changes_of j) wanted
        (lattice_reads j from is) ends names refused none

    pub run_environment_faulty : TextsAreClear → EndsRun named before after old new status
        → (j : Job) (from : Sources) (f : EnvFault) → named ≡ Some j → sources_of j ≡ Some from
        → TellsEnvironmentFault held from f → IsOrFailed 3 status
    run_environment_faulty clear ends j from f names is tells =
        no_lattice j from 3 ends names is (environment_faulty clear held Failed from f tells)
        (environment_faulty_none clear held Failed from f tells)

    pub run_environment_long : TextsAreClear → EndsRun named before after old new status → (j : Job) (from : Sources)
        → named ≡ Some j → sources_of j ≡ Some from → TellsTooMuch (held from.env) → IsOrFailed 8 status
    run_environment_long clear ends j from names is much =
        no_lattice j from 8 ends names is (environment_long clear held Failed from much)
        (environment_long_none clear held Failed from much)

    pub run_end_off : TextsAreClear → EndsRun named before after old new status
        → (j : Job) (from : Sources) (end : PathEnd) → named ≡ Some j → sources_of j ≡ Some from
        → TellsEndOff held from end → IsOrFailed 2 status
    run_end_off clear ends j from end names is tells =
        no_lattice j from 2 ends names is (end_off clear held Failed from end tells)
        (end_off_none clear held Failed from end tells)

    pub run_primitives_long : TextsAreClear → EndsRun named before after old new status
        → (j : Job) (from : Sources) (env : Environment) → named ≡ Some j → sources_of j ≡ Some from
        → TellsEnvironment held from env → TellsTooMuch (held from.prims) → IsOrFailed 8 status
    run_primitives_long clear ends j from env names is told much =
        no_lattice j from 8 ends names is (primitives_long clear held Failed from env told much)
        (primitives_long_none clear held Failed from env told much)

    pub run_primitives_faulty : TextsAreClear → EndsRun named before after old new status
        → (j : Job) (from : Sources) (env : Environment) (f : PrimFault) → named ≡ Some j → sources_of j ≡ Some from
        → TellsEnvironment held from env → TellsPrimitiveFault held from env f → IsOrFailed 4 status
    run_primitives_faulty clear ends j from env f names is told tells =
        no_lattice j from 4 ends names is (primitives_faulty clear held Failed from env f told tells)
        (primitives_faulty_none clear held Failed from env f told tells)

    pub run_too_wide : TextsAreClear → EndsRun named before after old new status
        → (j : Job) (from : Sources) (env : Environment) (ps : Primitives) (i : ℕ) → named ≡ Some j
        → sources_of j ≡ Some from → TellsEnvironment held from env → TellsPrimitives held from env ps
        → IsFirstTooWide ps from.radius i → IsOrFailed 4 status
    run_too_wide clear ends j from env ps i names is told tells wide = no_lattice j from 4 ends names is
        (primitives_good clear held Failed from env ps told tells 4 (λ k h. inl refl) (λ k n h. inl refl))
        (too_wide_none clear held Failed from env ps i told tells wide)

    pub run_too_dear : TextsAreClear → EndsRun named before after old new status
        → (j : Job) (from : Sources) (env : Environment) (ps : Primitives) (i : ℕ) → named ≡ Some j
        → sources_of j ≡ Some from → TellsEnvironment held from env → TellsPrimitives held from env ps
        → NoneTooWide ps from.radius → IsFirstTooDear env ps.items i → IsOrFailed 4 status
    run_too_dear clear ends j from env ps i names is told tells narrow dear = no_lattice j from 4 ends names is
        (primitives_good clear held Failed from env ps told tells 4 (λ k h. inl refl) (λ k n h. inl refl))
        (too_dear_none clear held Failed from env ps i told tells dear)

    pub run_changes_long : TextsAreClear → EndsRun named before after old new status
        → (j : Job) (from : Sources) (s : Scope) (name : List ℕ) → named ≡ Some j → sources_of j ≡ Some from
        → AreGood held from (moves_in j) s → changes_of j ≡ Some name → TellsTooMuch (held name) → IsOrFailed 8 status
    run_changes_long clear ends j from s name names is good file much =
        by_early j (lattice_files from (moves_in j)) (changes_of j) 8 (lattice_reads j from is) ends names
        (changes_long clear held Failed (lattice_files from (moves_in j)) (changes_of j) s
        (good_files clear held Failed from (moves_in j) s good) name file much)
        (changes_long_none clear held Failed (lattice_files from (moves_in j)) (changes_of j) s
        (good_files clear held Failed from (moves_in j) s good) name file much)

    pub run_changes_faulty : TextsAreClear → EndsRun named before after old new status
        → (j : Job) (from : Sources) (s : Scope) (f : ChangeFault) → named ≡ Some j → sources_of j ≡ Some from
        → AreGood held from (moves_in j) s → TellsChangeFault held (changes_of j) s f → IsOrFailed 5 status
    run_changes_faulty clear ends j from s f names is good tells =
        by_early j (lattice_files from (moves_in j)) (changes_of j) 5 (lattice_reads j from is) ends names
        (changes_faulty clear held Failed (lattice_files from (moves_in j)) (changes_of j) s
        (good_files clear held Failed from (moves_in j) s good) f tells)
        (changes_faulty_none clear held Failed (lattice_files from (moves_in j)) (changes_of j) s
        (good_files clear held Failed from (moves_in j) s good) f tells)

    -- plans are made, all of them or until memory runs out
    planned_status : (all : Bool) → IsOrFailed 0 (plans_status all)
    planned_status true = inl refl
    planned_status false = no_memory 0

    -- a job that reads no labels and is done has the status 0
    served : (j : Job) (i : Intent) → IsNoCheck j
        → ((r : Refusal) → IsJobCause held Failed j r → IsOrFailed 0 (refusal_status r)) → GivesIntent held Failed j i
        → IsOrFailed 0 (intent_status i)
    served j (Refused r) plain refused gives = refused r gives
    served j (Planned records all log broken) plain refused gives = planned_status all
    served j (Demonstrated w count records all log broken) plain refused gives = planned_status all
    served j (Listed w) plain refused gives = inl refl
    served j OutOfMemory plain refused gives = no_memory 0
    served (job.Check c) (Checked goal os end) plain refused gives = absurd plain
    served (job.NavCheck c) (Checked goal os end) plain refused gives = absurd plain
    served _ (Checked goal os end) plain refused gives = absurd gives

    pub run_complete : TextsAreClear → EndsRun named before after old new status
        → (j : Job) (from : Sources) (s : Scope) (c : Updates) → named ≡ Some j → sources_of j ≡ Some from
        → AreGood held from (moves_in j) s → TellsUpdates held (changes_of j) s c → IsNoCheck j → IsOrFailed 0 status
    run_complete clear ends j from s c names is good told plain =
        by_each j 0 ends names (λ i gives. served j i plain by_cause gives)
      where
        by_cause : (r : Refusal) → IsJobCause held Failed j r → IsOrFailed 0 (refusal_status r)
        by_cause r cause = elim ((lattice_reads j from is).cause held Failed r cause) [
          | inl early ↦
              all_good clear held Failed (lattice_files from (moves_in j)) (changes_of j) s
              (good_files clear held Failed from (moves_in j) s good) c 0 told r early
          | inr (updates, checks) ↦ absurd (checks plain)
        ]

    -- ---- the same on a grid

    pub run_grid_faulty : TextsAreClear → EndsRun named before after old new status
        → (j : Job) (from : GridSources) (f : EnvFault) → named ≡ Some j → grid_of j ≡ Some from
        → TellsGridFault held from f → IsOrFailed 3 status
    run_grid_faulty clear ends j from f names is tells =
        by_none j (grid_files from) (changes_of j) 3 (grid_reads j from is) ends names
        (grid_faulty clear held Failed from f tells) (grid_faulty_none clear held Failed from f tells)

    pub run_grid_end_off : TextsAreClear → EndsRun named before after old new status
        → (j : Job) (from : GridSources) (end : PathEnd) → named ≡ Some j → grid_of j ≡ Some from
        → TellsGridEndOff held from end → IsOrFailed 2 status
    run_grid_end_off clear ends j from end names is tells =
        by_none j (grid_files from) (changes_of j) 2 (grid_reads j from is) ends names
        (grid_end_off clear held Failed from end tells) (grid_end_off_none clear held Failed from end tells)

    pub run_grid_long : TextsAreClear → EndsRun named before after old new status → (j : Job) (from : GridSources)
        → named ≡ Some j → grid_of j ≡ Some from → TellsTooMuch (held from.env) → IsOrFailed 8 status
    run_grid_long clear ends j from names is much =
        by_none j (grid_files from) (changes_of j) 8 (grid_reads j from is) ends names
        (grid_long clear held Failed from much) (grid_long_none clear held Failed from much)

    pub run_grid_changes_long : TextsAreClear → EndsRun named before after old new status
        → (j : Job) (from : GridSources) (w : GridWorld) (name : List ℕ) → named ≡ Some j → grid_of j ≡ Some from
        → TellsGrid held from w → changes_of j ≡ Some name → TellsTooMuch (held name) → IsOrFailed 8 status
    run_grid_changes_long clear ends j from w name names is tells file much =
        by_early j (grid_files from) (changes_of j) 8 (grid_reads j from is) ends names
        (changes_long clear held Failed (grid_files from) (changes_of j) (grid_scope from.states w)
        (good_grid clear held Failed from w tells) name file much)
        (changes_long_none clear held Failed (grid_files from) (changes_of j) (grid_scope from.states w)
        (good_grid clear held Failed from w tells) name file much)

    pub run_grid_changes_faulty : TextsAreClear → EndsRun named before after old new status
        → (j : Job) (from : GridSources) (w : GridWorld) (f : ChangeFault) → named ≡ Some j → grid_of j ≡ Some from
        → TellsGrid held from w → TellsChangeFault held (changes_of j) (grid_scope from.states w) f → IsOrFailed 5 status
    run_grid_changes_faulty clear ends j from w f names is tells faulty =
        by_early j (grid_files from) (changes_of j) 5 (grid_reads j from is) ends names
        (changes_faulty clear held Failed (grid_files from) (changes_of j) (grid_scope from.states w)
        (good_grid clear held Failed from w tells) f faulty)
        (changes_faulty_none clear held Failed (grid_files from) (changes_of j) (grid_scope from.states w)
        (good_grid clear held Failed from w tells) f faulty)

    pub run_grid_complete : TextsAreClear → EndsRun named before after old new status
        → (j : Job) (from : GridSources) (w : GridWorld) (c : Updates) → named ≡ Some j → grid_of j ≡ Some from
        → TellsGrid held from w → TellsUpdates held (changes_of j) (grid_scope from.states w) c → IsNoCheck j → IsOrFailed 0 status
    run_grid_complete clear ends j from w c names is tells told plain =
        by_each j 0 ends names (λ i gives. served j i plain by_cause gives)
      where
        by_cause : (r : Refusal) → IsJobCause held Failed j r → IsOrFailed 0 (refusal_status r)
        by_cause r cause = elim ((grid_reads j from is).cause held Failed r cause) [
          | inl early ↦
              all_good clear held Failed (grid_files from) (changes_of j) (grid_scope from.states w)
              (good_grid clear held Failed from w tells) c 0 told r early
          | inr (updates, checks) ↦ absurd (checks plain)
        ]

    -- where the file stands for a world and map updates, a check is refused for its file of labels alone
    nav_check_refused : TextsAreClear → (n : NavCheckJob) (w : GridWorld) (updates : Updates) (wanted : ℕ)
        → TellsGrid held n.sources w → TellsUpdates held n.changes (grid_scope n.sources.states w) updates
        → (IsTooLong (held n.labels) → IsOrFailed wanted 8) → (r : Refusal) → IsJobCause held Failed (job.NavCheck n) r
        → IsOrFailed wanted (refusal_status r)
    nav_check_refused clear n w updates wanted tells told long r (inl cause) =
        all_good clear held Failed (grid_files n.sources) n.changes (grid_scope n.sources.states w)
        (good_grid clear held Failed n.sources w tells) updates wanted told r cause
    nav_check_refused clear n w updates wanted tells told long r (inr cause) =
        labels_refused held Failed (grid_files n.sources) n.changes n.labels wanted r long cause

    nav_checked_alike : TextsAreClear → SectionsAreClear → OneMap
        → (n : NavCheckJob) (w : GridWorld) (updates : Updates) (text : List ℕ) (goals : ℕ → ℕ) (os : List Outcome)
        (end : Option SectionStop) → end ≢ Some section.NoMemory → TellsGrid held n.sources w
        → TellsUpdates held n.changes (grid_scope n.sources.states w) updates
        → Tells (held n.labels) text
        → IsCheckedIn IsHolding grid_site w updates text goals os end
        → ((r : Refusal) → IsJobCause held Failed (job.NavCheck n) r
        → IsOrFailed (checked_status end) (refusal_status r))
        → (i : Intent) → GivesIntent held Failed (job.NavCheck n) i → IsOrFailed (checked_status end) (intent_status i)
    nav_checked_alike clear sections one n w updates text goals os end some tells told held_text is refused
        (Refused r) gives = refused r gives
    nav_checked_alike clear sections one n w updates text goals os end some tells told held_text is refused OutOfMemory
        gives = no_memory (checked_status end)
    nav_checked_alike clear sections one n w updates text goals os end some tells told held_text is refused
        (Checked goal' os' end') gives =
        let near : gives.world ≡ w = same_grid clear held Failed n.sources w gives.world tells gives.says in
        let same : gives.updates ≡ updates =
        same_updates clear held n.changes (grid_scope n.sources.states w) updates gives.updates told
        (subst (λ (v : GridWorld). ReadsUpdates held n.changes (grid_scope n.sources.states v) gives.updates) near
        gives.changes_say) in
        let same_text : gives.text ≡ text = told_is (held n.labels) text gives.text held_text.held_bytes gives.read in
        checked_ends_alike grid_site AreOneGrid grids_alike false
        (goes_alike grid_site AreOneGrid grids_alike false) sections one w gives.world updates gives.updates text
        gives.text goals goal' os os' end end' near tells.is_world same same_text some is gives.in_world
    nav_checked_alike clear sections one n w updates text goals os end some tells told held_text is refused _ gives =
        absurd gives

    pub run_grid_checked : TextsAreClear → SectionsAreClear → OneMap → EndsRun named before after old new status
        → (n : NavCheckJob) (w : GridWorld) (updates : Updates) (text : List ℕ) (goals : ℕ → ℕ) (os : List Outcome)
        (end : Option SectionStop) → named ≡ Some (job.NavCheck n) → TellsGrid held n.sources w
        → TellsUpdates held n.changes (grid_scope n.sources.states w) updates → Tells (held n.labels) text
        → IsCheckedIn IsHolding grid_site w updates text goals os end
        → end ≢ Some section.NoMemory → IsOrFailed (checked_status end) status
    run_grid_checked clear sections one ends n w updates text goals os end names tells told held_text is some =
        let refused =
        nav_check_refused clear n w updates (checked_status end) tells told
        (λ long. absurd (too_long_not_short (held n.labels) text held_text long)) in
        by_each (job.NavCheck n) (checked_status end) ends names
        (nav_checked_alike clear sections one n w updates text goals os end some tells told held_text is refused)

    pub run_grid_labels_long : TextsAreClear → EndsRun named before after old new status
        → (n : NavCheckJob) (w : GridWorld) (updates : Updates) → named ≡ Some (job.NavCheck n) → TellsGrid held n.sources w
        → TellsUpdates held n.changes (grid_scope n.sources.states w) updates → TellsTooMuch (held n.labels) → IsOrFailed 8 status
    run_grid_labels_long clear ends n w updates names tells told much = by_each (job.NavCheck n) 8 ends names long_by
      where
        long_by : (i : Intent) → GivesIntent held Failed (job.NavCheck n) i → IsOrFailed 8 (intent_status i)
        long_by (Refused r) gives = nav_check_refused clear n w updates 8 tells told (λ long. inl refl) r gives
        long_by (Checked goal os end) gives = absurd (too_much_not_read (held n.labels) gives.text much gives.read)
        long_by OutOfMemory gives = no_memory 8
        long_by _ gives = absurd gives

    -- a demonstration is refused for nothing
    demonstrated : (d : DemoJob) (i : Intent) → GivesIntent held Failed (job.Demo d) i
        → (intent_status i ≡ 0) ⊎ (intent_status i ≡ 9)
    demonstrated d (Demonstrated w count records true log broken) gives = inl refl
    demonstrated d (Demonstrated w count records false log broken) gives = inr refl
    demonstrated d OutOfMemory gives = inr refl
    demonstrated d _ gives = absurd gives

    pub run_demonstrated : EndsRun named before after old new status → (d : DemoJob) → named ≡ Some (job.Demo d)
        → IsOrUnwritten 0 status
    run_demonstrated (by_job other is e) d names =
        let same : other ≡ job.Demo d = cc in
        by_ends (subst (λ (k : Job). EndsJob before after old new k status) same e)
      where
        by_ends : EndsJob before after old new (job.Demo d) status → IsOrUnwritten 0 status
        by_ends ended = elim ended.ends [
          | inl (at, made) ↦ elim (demonstrated d ended.intent ended.gives) [
            | inl zero ↦ inl (at ∙ zero)
            | inr nine ↦ inr (inr (at ∙ nine))
          ]
          | inr (inl (at, cut)) ↦ inr (inl at)
          | inr (inr (at, stopped)) ↦ inr (inr at)
        ]
    run_demonstrated (by_words is ends stays) d names = absurd (cc)
    run_demonstrated (by_memory at same stays) d names = inr (inr at)

    -- where the files stand for a world and map updates, a check is refused for its file of labels alone
    check_refused : TextsAreClear → (c : CheckJob) (w : World) (updates : Updates) (wanted : ℕ)
        → TellsWorld held c.sources w → TellsUpdates held c.changes (scope_of c.sources.states c.back w) updates
        → (IsTooLong (held c.labels) → IsOrFailed wanted 8) → (r : Refusal) → IsJobCause held Failed (job.Check c) r
        → IsOrFailed wanted (refusal_status r)
    check_refused clear c w updates wanted tells told long r (inl cause) =
        let scope = scope_of c.sources.states c.back w in
        let good = good_files clear held Failed c.sources c.back scope (world_good clear held Failed c.sources c.back w tells) in
        all_good clear held Failed (check_files c) c.changes scope good updates wanted told r cause
    check_refused clear c w updates wanted tells told long r (inr cause) =
        labels_refused held Failed (check_files c) c.changes c.labels wanted r long cause

    -- how a check ends
    checked_alike : TextsAreClear → SectionsAreClear → OneMap → AlikeWorldsAreOneGraph
        → (c : CheckJob) (w : World) (updates : Updates) (text : List ℕ) (goals : ℕ → ℕ) (os : List Outcome)
        (end : Option SectionStop) → end ≢ Some section.NoMemory → TellsWorld held c.sources w
        → TellsUpdates held c.changes (scope_of c.sources.states c.back w) updates → Tells (held c.labels) text
        → IsCheckedIn IsHolding (searched_on lattice_site c.back) w updates text goals os end
        → ((r : Refusal) → IsJobCause held Failed (job.Check c) r → IsOrFailed (checked_status end) (refusal_status r))
        → (i : Intent) → GivesIntent held Failed (job.Check c) i → IsOrFailed (checked_status end) (intent_status i)
    checked_alike clear sections one graphs c w updates text goals os end some tells told held_text is refused
        (Refused r) gives = refused r gives
    checked_alike clear sections one graphs c w updates text goals os end some tells told held_text is refused
        (Planned records all log broken) gives = absurd gives
    checked_alike clear sections one graphs c w updates text goals os end some tells told held_text is refused
        (Listed v) gives = absurd gives
    checked_alike clear sections one graphs c w updates text goals os end some tells told held_text is refused
        (Demonstrated v count records all log broken) gives = absurd gives
    checked_alike clear sections one graphs c w updates text goals os end some tells told held_text is refused
        OutOfMemory gives = no_memory (checked_status end)
    checked_alike clear sections one graphs c w updates text goals os end some tells told held_text is refused
        (Checked goal' os' end') gives =
        let v = gives.world in
        let good = world_good clear held Failed c.sources c.back w tells in
        let env =
        same_environment clear held c.sources w.env v.env gives.says.cells tells.environment gives.says.environment in
        let prims =
        same_primitives clear held c.sources w.env v.env gives.says.cells w.prims v.prims tells.environment
        tells.primitives gives.says.environment gives.says.primitives in
        let scope = same_scope clear held c.sources c.back (scope_of c.sources.states c.back w) v good.scope gives.says in
        let map = ap (λ (s : Scope). s.map) scope in
        let radius = gives.says.sweeps.radius_is ∙ sym tells.says.sweeps.radius_is in
        let same : gives.updates ≡ updates =
        same_updates clear held c.changes (scope_of c.sources.states c.back w) updates gives.updates told
        (subst (λ (s : Scope). ReadsUpdates held c.changes s gives.updates) scope gives.changes_say) in
        let same_text : gives.text ≡ text = told_is (held c.labels) text gives.text held_text.held_bytes gives.read in
        let near : AreAlikeWorlds w v = record { env = env; prims = prims; map = map; radius = radius } in
        let alike = lattices_alike graphs in
        checked_ends_alike lattice_site AreAlikeWorlds alike c.back (goes_alike lattice_site AreAlikeWorlds alike c.back)
        sections one w v updates gives.updates text gives.text goals goal' os os' end end' (alike.back w v near)
        tells.is_world same same_text some is gives.in_world

    pub run_checked : TextsAreClear → SectionsAreClear → OneMap → AlikeWorldsAreOneGraph
        → EndsRun named before after old new status
        → (c : CheckJob) (w : World) (updates : Updates) (text : List ℕ) (goals : ℕ → ℕ) (os : List Outcome)
        (end : Option SectionStop) → named ≡ Some (job.Check c) → TellsWorld held c.sources w
        → TellsUpdates held c.changes (scope_of c.sources.states c.back w) updates → Tells (held c.labels) text
        → IsCheckedIn IsHolding (searched_on lattice_site c.back) w updates text goals os end
        → end ≢ Some section.NoMemory → IsOrFailed (checked_status end) status
    run_checked clear sections one alike ends c w updates text goals os end names tells told held_text is some =
        let refused =
        check_refused clear c w updates (checked_status end) tells told
        (λ long. absurd (too_long_not_short (held c.labels) text held_text long)) in
        by_each (job.Check c) (checked_status end) ends names
        (checked_alike clear sections one alike c w updates text goals os end some tells told held_text is refused)

    -- a file of labels that is too long
    pub run_labels_long : TextsAreClear → EndsRun named before after old new status
        → (c : CheckJob) (w : World) (updates : Updates) → named ≡ Some (job.Check c) → TellsWorld held c.sources w
        → TellsUpdates held c.changes (scope_of c.sources.states c.back w) updates → TellsTooMuch (held c.labels)
        → IsOrFailed 8 status
    run_labels_long clear ends c w updates names tells told much = by_each (job.Check c) 8 ends names long_by
      where
        long_by : (i : Intent) → GivesIntent held Failed (job.Check c) i → IsOrFailed 8 (intent_status i)
        long_by (Refused r) gives = check_refused clear c w updates 8 tells told (λ long. inl refl) r gives
        long_by (Checked goal os end) gives = absurd (too_much_not_read (held c.labels) gives.text much gives.read)
        long_by OutOfMemory gives = no_memory 8
        long_by _ gives = absurd gives
