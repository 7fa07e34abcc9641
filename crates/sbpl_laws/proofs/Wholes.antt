-- What a job means to do is what the words and the files call for, as far as no read fails and memory lasts.
use Rattle.std.proofs.Common.{◌≡◌, ◌≢◌, ◌⊎◌, ℕ, Bool, true, false, Option, Some, None, List, [], ◌∷◌, ◌++◌, flat_map}
use Rattle.std.proofs.Common.{length, IsSome, IfSome, refl, sym, ap, subst, ◌∙◌, append_assoc, inl, inr}
use Rattle.std.proofs.lemmas.Option.{same_Some}
use Rattle.sbpl_promises.specs.sbpl_cost.Alike.{AlikeWorldsAreOneGraph}
use Rattle.sbpl_promises.specs.sbpl_cost.Lattices.{network_of}
use Rattle.sbpl_promises.specs.sbpl_cost.World.{World}
use Rattle.sbpl_promises.specs.sbpl_cert.declared.outcome.Outcome.{Outcome}
use Rattle.sbpl_promises.specs.sbpl_job.declared.job.CheckJob.{CheckJob}
use Rattle.sbpl_promises.specs.sbpl_job.declared.job.DemoJob.{DemoJob}
use Rattle.sbpl_promises.specs.sbpl_job.declared.job.Job.{Job}
use Rattle.sbpl_promises.specs.sbpl_job.declared.job.Job.TheVariants as job
use Rattle.sbpl_promises.specs.sbpl_job.Jobs.{may_move}
use Rattle.sbpl_promises.specs.sbpl_job.declared.job.PlanJob.{PlanJob}
use Rattle.sbpl_promises.specs.sbpl_job.declared.job.Sources.{Sources}
use Rattle.sbpl_promises.specs.declared.section_stop.SectionStop.{SectionStop}
use Rattle.sbpl_promises.specs.declared.section_stop.SectionStop.TheVariants as section
use Rattle.sbpl_promises.specs.sbpl_report.declared.record.PlanRecord.{PlanRecord}
use Rattle.sbpl_promises.specs.sbpl_report.declared.refusal.Refusal.{Refusal}
use Rattle.sbpl_promises.specs.Asked.{is_determined}
use Rattle.sbpl_promises.specs.Causes.{ArePlanned, CausesStand, IsCheckCause, IsEarlyCause, IsEarlyInput, IsJobCause}
use Rattle.sbpl_promises.specs.Causes.{IsSource, check_files, grid_files, plan_files}
use Rattle.sbpl_promises.specs.WorldFiles.{WorldFiles}
use Rattle.sbpl_laws.proofs.AlikeSites.{AreAlike}
use Rattle.sbpl_laws.proofs.LatticeAlike.{lattices_alike}
use Rattle.sbpl_laws.proofs.GridAlike.{AreOneGrid, grids_alike}
use Rattle.sbpl_promises.specs.GridSite.{grid_site}
use Rattle.sbpl_promises.specs.sbpl_job.declared.job.NavJob.{NavJob}
use Rattle.sbpl_promises.specs.sbpl_job.declared.job.NavCheckJob.{NavCheckJob}
use Rattle.sbpl_promises.specs.sbpl_job.declared.job.Outputs.{Outputs}
use Rattle.sbpl_promises.specs.sbpl_job.declared.job.SearchJob.{SearchJob}
use Rattle.sbpl_promises.specs.Clear.{SectionsAreClear, TextsAreClear}
use Rattle.sbpl_promises.specs.LatticeSite.{lattice_site}
use Rattle.sbpl_promises.specs.Determined.{AreAlikeWorlds, ArePrefixes, AreTold, CallsFor, FewAreFirst, IsDeterminedJob}
use Rattle.sbpl_promises.specs.Determined.{IsInput, IsNoFailure, NoName, NoneRose, RecordsAreOne}
use Rattle.sbpl_promises.specs.Intents.{BeginsAfter, Intent, Refused, Planned, Checked, Listed, Demonstrated}
use Rattle.sbpl_promises.specs.Intents.{OutOfMemory, checked_status, end_writes, intent_status, lines_writes}
use Rattle.sbpl_promises.specs.Intents.{outputs_of, plans_writes, section_writes, writes_of}
use Rattle.sbpl_promises.specs.sbpl_report.Refusals.{refusal_status}
use Rattle.sbpl_promises.specs.Promises.{GivesIntent, EndsJob, EndsRun, IsChecked, IsDemonstration}
use Rattle.sbpl_promises.specs.Promises.{by_job, by_memory, by_words}
use Rattle.sbpl_promises.specs.sbpl_plan.declared.found.Found.{Found}
use Rattle.sbpl_promises.specs.Published.{Entry}
use Rattle.sbpl_promises.specs.sbpl_report.Report.{demo_text, plan_line}
use Rattle.sbpl_promises.specs.Writing.{AreAppended, DeskState, IsNamed, Names, ReadFailed, Told, Write, to_output}
use Rattle.sbpl_laws.proofs.Prefixes.{ends_prefix, made_prefix, none_made}
use Rattle.sbpl_laws.proofs.OneEnding.{OneMap}
use Rattle.sbpl_laws.proofs.OneRefusal.{AreBadSources, CallForOne, IsBadGrid, IsCheckBad, IsEarlyBad, IsFailedRead}
use Rattle.sbpl_laws.proofs.OneRefusal.{check_bad, early_bad, grids_call_for_one, lattices_call_for_one, not_check}
use Rattle.sbpl_laws.proofs.OneRefusal.{not_early, not_world, one_check, one_early, one_source, source_cause}
use Rattle.sbpl_laws.proofs.SameChecked.{check_as_far}
use Rattle.sbpl_laws.proofs.SameLines.{few_demonstrated, one_demonstrated, one_first_line, one_listed}
use Rattle.sbpl_laws.proofs.SamePlanned.{StandForOne, few_planned, grids_stand_for_one}
use Rattle.sbpl_laws.proofs.SamePlanned.{lattices_stand_for_one, one_planned}

-- ---- how two ends of a job go together

-- a read of a file of the job failed
abbrev HasFailedRead : Names → Job → Intent → Type 0
HasFailedRead Failed j i = (intent_status i ≡ 6) × ((name : List ℕ) × IsInput j name × Failed name)

-- both are written alike
abbrev AreWrittenAlike : Job → Intent → Intent → Type 0
AreWrittenAlike j i whole = (intent_status i ≡ intent_status whole) × (writes_of j i ≡ writes_of j whole)

-- memory ran out after the first writes of the other
abbrev IsPart : Job → Intent → Intent → Type 0
IsPart j i whole = (intent_status i ≡ 9) × ((rest : List Write) × (writes_of j whole ≡ writes_of j i ++ rest))

abbrev Agrees : Names → Job → Intent → Intent → Type 0
Agrees Failed j i whole = HasFailedRead Failed j i ⊎ (AreWrittenAlike j i whole ⊎ IsPart j i whole)

-- ---- the writes of the first few records

few_written : (f : PlanRecord → List Write) (rs rest : List PlanRecord)
    → (later : List Write) × (flat_map f (rs ++ rest) ++ end_writes true ≡ (flat_map f rs ++ end_writes false) ++ later)
few_written f [] rest = (flat_map f rest ++ end_writes true, refl)
few_written f (r ∷ rs) rest =
    let further = few_written f rs rest in
    let later : List Write = further.0 in
    let left : (f r ++ flat_map f (rs ++ rest)) ++ end_writes true
    ≡ f r ++ (flat_map f (rs ++ rest) ++ end_writes true) =
    append_assoc (f r) (flat_map f (rs ++ rest)) (end_writes true) in
    let right : ((f r ++ flat_map f rs) ++ end_writes false) ++ later
    ≡ f r ++ ((flat_map f rs ++ end_writes false) ++ later) =
    ap (λ (ws : List Write). ws ++ later) (append_assoc (f r) (flat_map f rs) (end_writes false))
    ∙ append_assoc (f r) (flat_map f rs ++ end_writes false) later
    in
    (later, left ∙ ap (λ (ws : List Write). f r ++ ws) further.1 ∙ sym right)

-- a refusal for a read that failed
unread : (Failed : Names) (j : Job) (IsOne : List ℕ → Type 0) (r : Refusal)
    → ((name : List ℕ) → IsOne name → IsInput j name) → IsFailedRead IsOne Failed r → HasFailedRead Failed j (Refused r)
unread Failed j IsOne r input (i, is, (name, one, rose)) =
    (ap (λ (x : Refusal). refusal_status x) is, (name, input name one, rose))

-- ---- the jobs

module _ (clear : TextsAreClear) (sections : SectionsAreClear) (one_map : OneMap) (graphs : AlikeWorldsAreOneGraph)
    (one : RecordsAreOne lattice_site AreAlikeWorlds) (first : FewAreFirst lattice_site AreAlikeWorlds)
    (one_grid : RecordsAreOne grid_site AreOneGrid) (first_grid : FewAreFirst grid_site AreOneGrid) (held : Told)
    (Failed : Names) (log : List Entry) where
  alike_refusals : (j : Job) (r u : Refusal) → r ≡ u → Agrees Failed j (Refused r) (Refused u)
  alike_refusals j r u same =
      inr (inl (ap (λ (x : Refusal). refusal_status x) same, ap (λ (x : Refusal). writes_of j (Refused x)) same))

  -- where a name is given it is told
  told_name : (o : Option (List ℕ)) → ((name : List ℕ) → IsNamed o name → IsSome (held name))
      → IfSome o (λ name. IsSome (held name))
  told_name None each = tt
  told_name (Some name) each = each name refl

  -- ---- plans and checks, whatever they are made on

  module _ (j : Job) {W : Type 0} (f : WorldFiles W) (Alike : W → W → Type 0) (stand : StandForOne held f Alike)
      (Bad : Refusal → Type 0) (calls_for : CallForOne held f Bad)
      (changes : Option (List ℕ)) (told_changes : IfSome changes (λ name. IsSome (held name))) where
    early_quiet : (r : Refusal) → IsEarlyCause held NoName f changes r
        → IsEarlyBad clear held f Alike stand Bad calls_for changes told_changes r
    early_quiet r c = elim (early_bad clear held f Alike stand Bad calls_for changes told_changes NoName r c) [
      | inl bad ↦ bad
      | inr (i, is, (name, one, failed)) ↦ absurd failed
    ]

    module _ (input : (name : List ℕ) → IsEarlyInput f changes name → IsInput j name) where
      early_refusals : (r u : Refusal) → IsEarlyCause held Failed f changes r → IsEarlyCause held NoName f changes u
          → Agrees Failed j (Refused r) (Refused u)
      early_refusals r u c quiet =
          elim (early_bad clear held f Alike stand Bad calls_for changes told_changes Failed r c) [
            | inl bad ↦ alike_refusals j r u
                (one_early clear held f Alike stand Bad calls_for changes told_changes r u bad (early_quiet u quiet))
            | inr out ↦ inl (unread Failed j (IsEarlyInput f changes) r input out)
          ]

      refused_for_plans : (r : Refusal) (whole : Intent) (search : SearchJob) (outputs : Outputs) (us : List PlanRecord)
          (all : Bool) (own : List Entry) (broken : List Found) → IsEarlyCause held Failed f changes r
          → ArePlanned held f changes search outputs us all own broken
          → Agrees Failed j (Refused r) whole
      refused_for_plans r whole search outputs us all own broken c planned =
          elim (early_bad clear held f Alike stand Bad calls_for changes told_changes Failed r c) [
            | inl bad ↦
                absurd (not_early clear held f Alike stand Bad calls_for changes told_changes planned.world
                planned.updates r bad planned.says planned.changes_say)
            | inr out ↦ inl (unread Failed j (IsEarlyInput f changes) r input out)
          ]

    plans_not_refused : (u : Refusal) (search : SearchJob) (outputs : Outputs) (rs : List PlanRecord) (all : Bool)
        (own : List Entry) (broken : List Found) → IsEarlyCause held NoName f changes u
        → ArePlanned held f changes search outputs rs all own broken → ⊥
    plans_not_refused u search outputs rs all own broken quiet planned =
        not_early clear held f Alike stand Bad calls_for changes told_changes planned.world planned.updates u
        (early_quiet u quiet) planned.says planned.changes_say

    plans_agree : RecordsAreOne f.on Alike → FewAreFirst f.on Alike
        → (search : SearchJob) (rs us : List PlanRecord) (all : Bool) (own other : List Entry)
        (broken also : List Found) → is_determined search.planner ≡ true
        → ArePlanned held f changes search (outputs_of j) rs all log broken
        → ArePlanned held f changes search (outputs_of j) us true log also
        → Agrees Failed j (Planned rs all own broken) (Planned us true other also)
    plans_agree one first search rs us true own other broken also determined x y =
        let same =
        one_planned clear held f Alike stand one changes search (outputs_of j) log rs us broken also
        told_changes determined x y in
        inr (inl (refl, ap (λ (l : List PlanRecord). plans_writes (outputs_of j) l true) same))
    plans_agree one first search rs us false own other broken also determined x y =
        let parted =
        few_planned clear held f Alike stand first changes search (outputs_of j) log rs us false broken also
        told_changes determined x y in
        let few = few_written (section_writes (outputs_of j)) rs parted.0 in
        inr (inr (refl, (few.0, ap (λ (l : List PlanRecord). plans_writes (outputs_of j) l true) parted.1 ∙ few.1)))

    module _ (labels : List ℕ) (told_labels : IsSome (held labels)) where
      check_quiet : (r : Refusal) → IsCheckCause held NoName f changes labels r
          → IsCheckBad clear held f Alike stand Bad calls_for changes told_changes labels r
      check_quiet r c = elim (check_bad clear held f Alike stand Bad calls_for changes told_changes labels NoName r c) [
        | inl bad ↦ bad
        | inr (i, is, (name, one, failed)) ↦ absurd failed
      ]

      checks_not_refused : (u : Refusal) (goals : ℕ → ℕ) (os : List Outcome) (end : Option SectionStop)
          → IsCheckCause held NoName f changes labels u → IsChecked held f changes labels goals os end → ⊥
      checks_not_refused u goals os end quiet checked =
          not_check clear held f Alike stand Bad calls_for changes told_changes labels told_labels checked.world
          checked.updates checked.text u (check_quiet u quiet) checked.says checked.changes_say checked.read

      module _ (input : (name : List ℕ) → IsEarlyInput f changes name ⊎ (name ≡ labels) → IsInput j name) where
        check_refusals : (r u : Refusal) → IsCheckCause held Failed f changes labels r
            → IsCheckCause held NoName f changes labels u → Agrees Failed j (Refused r) (Refused u)
        check_refusals r u c quiet =
            elim (check_bad clear held f Alike stand Bad calls_for changes told_changes labels Failed r c) [
              | inl bad ↦
                  alike_refusals j r u (one_check clear held f Alike stand Bad calls_for changes told_changes labels r u
                  bad (check_quiet u quiet))
              | inr out ↦ inl (unread Failed j (λ name. IsEarlyInput f changes name ⊎ (name ≡ labels)) r input out)
            ]

        refused_for_checks : (r : Refusal) (whole : Intent) (goals : ℕ → ℕ) (os : List Outcome)
            (end : Option SectionStop) → IsCheckCause held Failed f changes labels r
            → IsChecked held f changes labels goals os end → Agrees Failed j (Refused r) whole
        refused_for_checks r whole goals os end c checked =
            elim (check_bad clear held f Alike stand Bad calls_for changes told_changes labels Failed r c) [
              | inl bad ↦
                  absurd (not_check clear held f Alike stand Bad calls_for changes told_changes labels told_labels
                  checked.world checked.updates checked.text r bad checked.says checked.changes_say checked.read)
              | inr out ↦ inl (unread Failed j (λ name. IsEarlyInput f changes name ⊎ (name ≡ labels)) r input out)
            ]

      checks_agree : AreAlike f.on Alike → (goal other : ℕ → ℕ) (os ps : List Outcome) (a b : Option SectionStop)
          → b ≢ Some section.NoMemory → IsChecked held f changes labels goal os a
          → IsChecked held f changes labels other ps b
          → Agrees Failed j (Checked goal os a) (Checked other ps b)
      checks_agree alike goal other os ps a b some x y =
          let far =
          check_as_far clear sections one_map held f Alike alike stand changes labels goal other os ps a b
          told_changes told_labels some x y in
          subst (λ (s : ℕ → ℕ). Agrees Failed j (Checked goal os a) (Checked s ps b)) far.0
          (elim far.1 [
            | inl (writes, ends) ↦ inr (inl (ap checked_status ends, writes))
            | inr (out, later) ↦ inr (inr (ap checked_status out, later))
          ])

  -- ---- plan

  module _ (p : PlanJob) (told : AreTold held (job.Plan p)) where
    plan_stand : StandForOne held (plan_files p) AreAlikeWorlds
    plan_stand =
        lattices_stand_for_one clear held p.sources (may_move p.search.planner) (told p.sources.env (inl (inl refl)))
        (told p.sources.prims (inl (inr refl)))

    plan_calls : CallForOne held (plan_files p) (AreBadSources held p.sources)
    plan_calls =
        lattices_call_for_one clear held p.sources (may_move p.search.planner) (told p.sources.env (inl (inl refl)))
        (told p.sources.prims (inl (inr refl)))

    plan_changes : IfSome p.changes (λ name. IsSome (held name))
    plan_changes = told_name p.changes (λ name is. told name (inr is))

    plan_agrees : (i whole : Intent) → GivesIntent held Failed (job.Plan p) i → BeginsAfter i log
        → CallsFor held log (job.Plan p) whole → Agrees Failed (job.Plan p) i whole
    plan_agrees (Refused r) (Refused u) gives begins calls =
        early_refusals (job.Plan p) (plan_files p) AreAlikeWorlds plan_stand (AreBadSources held p.sources) plan_calls
        p.changes plan_changes (λ name is. is) r u gives calls
    plan_agrees (Refused r) (Planned us all other also) gives begins calls =
        refused_for_plans (job.Plan p) (plan_files p) AreAlikeWorlds plan_stand (AreBadSources held p.sources)
        plan_calls p.changes plan_changes (λ name is. is) r (Planned us all other also) p.search p.outputs us
        true log also gives calls.3
    plan_agrees (Planned rs all own broken) (Refused u) gives begins calls =
        absurd (plans_not_refused (job.Plan p) (plan_files p) AreAlikeWorlds plan_stand (AreBadSources held p.sources)
        plan_calls p.changes plan_changes u p.search p.outputs rs all own broken calls gives)
    plan_agrees (Planned rs all own broken) (Planned us every other also) gives begins calls =
        subst (λ (b : Bool). Agrees Failed (job.Plan p) (Planned rs all own broken) (Planned us b other also))
        (sym calls.0)
        (plans_agree (job.Plan p) (plan_files p) AreAlikeWorlds plan_stand (AreBadSources held p.sources) plan_calls
        p.changes plan_changes one first p.search rs us all own other broken also calls.1
        (subst (λ (l : List Entry). ArePlanned held (plan_files p) p.changes p.search p.outputs rs all l broken) begins
        gives) calls.3)
    plan_agrees OutOfMemory whole gives begins calls = inr (inr (refl, (writes_of (job.Plan p) whole, refl)))
    plan_agrees (Refused r) _ gives begins calls = absurd calls
    plan_agrees (Planned rs all own broken) _ gives begins calls = absurd calls
    plan_agrees _ whole gives begins calls = absurd gives

  -- ---- check

  module _ (c : CheckJob) (told : AreTold held (job.Check c)) where
    check_stand : StandForOne held (check_files c) AreAlikeWorlds
    check_stand =
        lattices_stand_for_one clear held c.sources c.back (told c.sources.env (inl (inl (inl refl))))
        (told c.sources.prims (inl (inl (inr refl))))

    check_calls : CallForOne held (check_files c) (AreBadSources held c.sources)
    check_calls =
        lattices_call_for_one clear held c.sources c.back (told c.sources.env (inl (inl (inl refl))))
        (told c.sources.prims (inl (inl (inr refl))))

    check_changes : IfSome c.changes (λ name. IsSome (held name))
    check_changes = told_name c.changes (λ name is. told name (inl (inr is)))

    check_labels : IsSome (held c.labels)
    check_labels = told c.labels (inr refl)

    check_agrees : (i whole : Intent) → GivesIntent held Failed (job.Check c) i → CallsFor held log (job.Check c) whole
        → Agrees Failed (job.Check c) i whole
    check_agrees (Refused r) (Refused u) gives calls =
        check_refusals (job.Check c) (check_files c) AreAlikeWorlds check_stand (AreBadSources held c.sources)
        check_calls c.changes check_changes c.labels check_labels (λ name is. is) r u gives calls
    check_agrees (Refused r) (Checked goal os end) gives calls =
        refused_for_checks (job.Check c) (check_files c) AreAlikeWorlds check_stand (AreBadSources held c.sources)
        check_calls c.changes check_changes c.labels check_labels (λ name is. is) r (Checked goal os end)
        goal os end gives calls.1
    check_agrees (Checked goal os end) (Refused u) gives calls =
        absurd (checks_not_refused (job.Check c) (check_files c) AreAlikeWorlds check_stand (AreBadSources held
        c.sources) check_calls c.changes check_changes c.labels check_labels u goal os end calls gives)
    check_agrees (Checked goal os a) (Checked other ps b) gives calls =
        checks_agree (job.Check c) (check_files c) AreAlikeWorlds check_stand (AreBadSources held c.sources) check_calls
        c.changes check_changes c.labels check_labels (lattices_alike graphs) goal other os ps a b calls.0 gives calls.1
    check_agrees OutOfMemory whole gives calls = inr (inr (refl, (writes_of (job.Check c) whole, refl)))
    check_agrees (Refused r) _ gives calls = absurd calls
    check_agrees (Checked goal os end) _ gives calls = absurd calls
    check_agrees _ whole gives calls = absurd gives

  -- ---- nav

  module _ (n : NavJob) (told : AreTold held (job.Nav n)) where
    nav_stand : StandForOne held (grid_files n.sources) AreOneGrid
    nav_stand = grids_stand_for_one clear held n.sources (told n.sources.env (inl refl))

    nav_calls : CallForOne held (grid_files n.sources) (IsBadGrid held n.sources)
    nav_calls = grids_call_for_one clear held n.sources (told n.sources.env (inl refl))

    nav_changes : IfSome n.changes (λ name. IsSome (held name))
    nav_changes = told_name n.changes (λ name is. told name (inr is))

    nav_agrees : (i whole : Intent) → GivesIntent held Failed (job.Nav n) i → BeginsAfter i log
        → CallsFor held log (job.Nav n) whole → Agrees Failed (job.Nav n) i whole
    nav_agrees (Refused r) (Refused u) gives begins calls =
        early_refusals (job.Nav n) (grid_files n.sources) AreOneGrid nav_stand (IsBadGrid held n.sources) nav_calls n.changes
        nav_changes (λ name is. is) r u gives calls
    nav_agrees (Refused r) (Planned us all other also) gives begins calls =
        refused_for_plans (job.Nav n) (grid_files n.sources) AreOneGrid nav_stand (IsBadGrid held n.sources) nav_calls n.changes
        nav_changes (λ name is. is) r (Planned us all other also) n.search n.outputs us true log also gives calls.3
    nav_agrees (Planned rs all own broken) (Refused u) gives begins calls =
        absurd (plans_not_refused (job.Nav n) (grid_files n.sources) AreOneGrid nav_stand (IsBadGrid held n.sources) nav_calls
        n.changes nav_changes u n.search n.outputs rs all own broken calls gives)
    nav_agrees (Planned rs all own broken) (Planned us every other also) gives begins calls =
        subst (λ (b : Bool). Agrees Failed (job.Nav n) (Planned rs all own broken) (Planned us b other also))
        (sym calls.0)
        (plans_agree (job.Nav n) (grid_files n.sources) AreOneGrid nav_stand (IsBadGrid held n.sources) nav_calls n.changes
        nav_changes one_grid first_grid n.search rs us all own other broken also calls.1
        (subst (λ (l : List Entry). ArePlanned held (grid_files n.sources) n.changes n.search n.outputs rs all l broken)
        begins gives) calls.3)
    nav_agrees OutOfMemory whole gives begins calls = inr (inr (refl, (writes_of (job.Nav n) whole, refl)))
    nav_agrees (Refused r) _ gives begins calls = absurd calls
    nav_agrees (Planned rs all own broken) _ gives begins calls = absurd calls
    nav_agrees _ whole gives begins calls = absurd gives

  -- ---- navcheck

  module _ (n : NavCheckJob) (told : AreTold held (job.NavCheck n)) where
    nav_check_stand : StandForOne held (grid_files n.sources) AreOneGrid
    nav_check_stand = grids_stand_for_one clear held n.sources (told n.sources.env (inl (inl refl)))

    nav_check_calls : CallForOne held (grid_files n.sources) (IsBadGrid held n.sources)
    nav_check_calls = grids_call_for_one clear held n.sources (told n.sources.env (inl (inl refl)))

    nav_check_changes : IfSome n.changes (λ name. IsSome (held name))
    nav_check_changes = told_name n.changes (λ name is. told name (inl (inr is)))

    nav_check_labels : IsSome (held n.labels)
    nav_check_labels = told n.labels (inr refl)

    nav_check_agrees : (i whole : Intent) → GivesIntent held Failed (job.NavCheck n) i
        → CallsFor held log (job.NavCheck n) whole → Agrees Failed (job.NavCheck n) i whole
    nav_check_agrees (Refused r) (Refused u) gives calls =
        check_refusals (job.NavCheck n) (grid_files n.sources) AreOneGrid nav_check_stand (IsBadGrid held n.sources)
        nav_check_calls n.changes nav_check_changes n.labels nav_check_labels (λ name is. is) r u gives calls
    nav_check_agrees (Refused r) (Checked goal os end) gives calls =
        refused_for_checks (job.NavCheck n) (grid_files n.sources) AreOneGrid nav_check_stand (IsBadGrid held n.sources)
        nav_check_calls n.changes nav_check_changes n.labels nav_check_labels (λ name is. is) r (Checked goal os end)
        goal os end gives calls.1
    nav_check_agrees (Checked goal os end) (Refused u) gives calls =
        absurd (checks_not_refused (job.NavCheck n) (grid_files n.sources) AreOneGrid nav_check_stand (IsBadGrid held n.sources)
        nav_check_calls n.changes nav_check_changes n.labels nav_check_labels u goal os end calls gives)
    nav_check_agrees (Checked goal os a) (Checked other ps b) gives calls =
        checks_agree (job.NavCheck n) (grid_files n.sources) AreOneGrid nav_check_stand (IsBadGrid held n.sources)
        nav_check_calls n.changes nav_check_changes n.labels nav_check_labels grids_alike goal other os ps
        a b calls.0 gives calls.1
    nav_check_agrees OutOfMemory whole gives calls = inr (inr (refl, (writes_of (job.NavCheck n) whole, refl)))
    nav_check_agrees (Refused r) _ gives calls = absurd calls
    nav_check_agrees (Checked goal os end) _ gives calls = absurd calls
    nav_check_agrees _ whole gives calls = absurd gives

  -- ---- sweep

  module _ (from : Sources) (told : AreTold held (job.Sweep from)) where
    sweep_env : IsSome (held from.env)
    sweep_env = told from.env (inl refl)

    sweep_prims : IsSome (held from.prims)
    sweep_prims = told from.prims (inr refl)

    sweep_bad : (F : Names) (r : Refusal) → IsJobCause held F (job.Sweep from) r
        → AreBadSources held from r ⊎ HasFailedRead F (job.Sweep from) (Refused r)
    sweep_bad F r c = elim (source_cause held F from r c) [
      | inl bad ↦ inl bad
      | inr out ↦ inr (unread F (job.Sweep from) (IsSource from) r (λ name is. is) out)
    ]

    sweep_quiet : (r : Refusal) → IsJobCause held NoName (job.Sweep from) r → AreBadSources held from r
    sweep_quiet r c = elim (sweep_bad NoName r c) [ inl bad ↦ bad | inr (six, (name, is, failed)) ↦ absurd failed ]

    sweep_agrees : (i whole : Intent) → GivesIntent held Failed (job.Sweep from) i
        → CallsFor held log (job.Sweep from) whole → Agrees Failed (job.Sweep from) i whole
    sweep_agrees (Refused r) (Refused u) gives calls = elim (sweep_bad Failed r gives) [
      | inl bad ↦
          alike_refusals (job.Sweep from) r u
          (one_source clear held from sweep_env sweep_prims r u bad (sweep_quiet u calls))
      | inr out ↦ inl out
    ]
    sweep_agrees (Refused r) (Listed v) gives calls = elim (sweep_bad Failed r gives) [
      | inl bad ↦ absurd (not_world clear held from sweep_env sweep_prims v r bad calls)
      | inr out ↦ inl out
    ]
    sweep_agrees (Listed w) (Refused u) gives calls =
        absurd (not_world clear held from sweep_env sweep_prims w u (sweep_quiet u calls) gives.0)
    sweep_agrees (Listed w) (Listed v) gives calls =
        inr (inl (refl, one_listed clear held from v w sweep_env sweep_prims calls gives.0))
    sweep_agrees OutOfMemory whole gives calls = inr (inr (refl, (writes_of (job.Sweep from) whole, refl)))
    sweep_agrees (Refused r) _ gives calls = absurd calls
    sweep_agrees (Listed w) _ gives calls = absurd calls
    sweep_agrees _ whole gives calls = absurd gives

  -- ---- demo

  module _ (d : DemoJob) where
    demos_agree : (w v : World) (count count' : ℕ) (rs us : List PlanRecord) (all : Bool) (own other : List Entry)
        (broken also : List Found) → IsDemonstration d w count rs all log broken
        → IsDemonstration d v count' us true log also
        → Agrees Failed (job.Demo d) (Demonstrated w count rs all own broken) (Demonstrated v count' us true other also)
    demos_agree w v count count' rs us true own other broken also (bs, is, x) (cs, too, y) =
        let line = one_first_line d w v count count' bs cs rs us true true log broken also is too x y in
        let same = one_demonstrated one d w v bs cs log rs us broken also x y in
        inr (inl (refl, λ i. to_output (line i) ∷ lines_writes (same i) true))
    demos_agree w v count count' rs us false own other broken also (bs, is, x) (cs, too, y) =
        let line = one_first_line d w v count count' bs cs rs us false true log broken also is too x y in
        let parted = few_demonstrated first d w v bs cs log rs us false broken also x y in
        let few = few_written (λ (r : PlanRecord). to_output (plan_line r) ∷ []) rs parted.0 in
        let lines : lines_writes us true ≡ lines_writes rs false ++ few.0 =
        ap (λ (l : List PlanRecord). lines_writes l true) parted.1 ∙ few.1 in
        let mine : demo_text (network_of v).states (length v.prims.items) count'
        ≡ demo_text (network_of w).states (length w.prims.items) count = sym line in
        inr (inr (refl, (few.0, λ i. to_output (mine i) ∷ lines i)))

    demo_agrees : (i whole : Intent) → GivesIntent held Failed (job.Demo d) i → BeginsAfter i log
        → CallsFor held log (job.Demo d) whole → Agrees Failed (job.Demo d) i whole
    demo_agrees OutOfMemory whole gives begins calls = inr (inr (refl, (writes_of (job.Demo d) whole, refl)))
    demo_agrees (Demonstrated w count rs all own broken)
        (Demonstrated v count' us every other also) gives begins calls =
        subst (λ (b : Bool). Agrees Failed (job.Demo d) (Demonstrated w count rs all own broken)
        (Demonstrated v count' us b other also)) (sym calls.0)
        (demos_agree w v count count' rs us all own other broken also
        (subst (λ (l : List Entry). IsDemonstration d w count rs all l broken) begins gives) calls.2)
    demo_agrees (Demonstrated w count rs all own broken) _ gives begins calls = absurd calls
    demo_agrees _ whole gives begins calls = absurd gives

  agrees : (j : Job) (i whole : Intent) → AreTold held j → GivesIntent held Failed j i → BeginsAfter i log
      → CallsFor held log j whole → Agrees Failed j i whole
  agrees (job.Plan p) i whole told gives begins calls = plan_agrees p told i whole gives begins calls
  agrees (job.Check c) i whole told gives begins calls = check_agrees c told i whole gives calls
  agrees (job.Sweep from) i whole told gives begins calls = sweep_agrees from told i whole gives calls
  agrees (job.Demo d) i whole told gives begins calls = demo_agrees d i whole gives begins calls
  agrees (job.Nav n) i whole told gives begins calls = nav_agrees n told i whole gives begins calls
  agrees (job.NavCheck n) i whole told gives begins calls = nav_check_agrees n told i whole gives calls

-- ---- what is called for

-- where what a job means to do has not the status of a failure, the words and the files call for it
called_for : CausesStand → (held : Told) (s t : DeskState) (log : List Entry) (j : Job) (i : Intent)
    → GivesIntent held (ReadFailed s t) j i → BeginsAfter i log → IsDeterminedJob j
    → intent_status i ≢ 6 → intent_status i ≢ 9 → CallsFor held log j i
called_for stand held s t log j (Refused r) gives begins one six nine = stand.unfailed held s t j r six gives
called_for stand held s t log (job.Plan p) (Planned records true own broken) gives begins one six nine = (
  refl,
  one,
  begins,
  subst (λ (l : List Entry).
      ArePlanned held (plan_files p) p.changes p.search p.outputs records true l broken) begins gives,
)
called_for stand held s t log (job.Plan p) (Planned records false own broken) gives begins one six nine =
    absurd (nine refl)
called_for stand held s t log (job.Check c) (Checked goal os end) gives begins one six nine =
    (λ is. nine (ap checked_status is), gives)
called_for stand held s t log (job.Sweep from) (Listed w) gives begins one six nine = gives.0
called_for stand held s t log (job.Demo d) (Demonstrated w count records true own broken) gives begins one six nine =
    (refl, begins, subst (λ (l : List Entry). IsDemonstration d w count records true l broken) begins gives)
called_for stand held s t log (job.Demo d) (Demonstrated w count records false own broken) gives begins one six nine =
    absurd (nine refl)
called_for stand held s t log (job.Nav n) (Planned records true own broken) gives begins one six nine = (
  refl,
  one,
  begins,
  subst (λ (l : List Entry).
      ArePlanned held (grid_files n.sources) n.changes n.search n.outputs records true l broken) begins gives,
)
called_for stand held s t log (job.Nav n) (Planned records false own broken) gives begins one six nine =
    absurd (nine refl)
called_for stand held s t log (job.NavCheck n) (Checked goal os end) gives begins one six nine =
    (λ is. nine (ap checked_status is), gives)
called_for stand held s t log j OutOfMemory gives begins one six nine = absurd (nine refl)
called_for stand held s t log _ _ gives begins one six nine = absurd gives

none_names : (j : Job) → ◌≡◌ {A = Option Job} None (Some j) → ⊥
none_names j is = cc

module _ (before after : DeskState) (old new : List Entry) where
  job_called : CausesStand → (j : Job) (status : ℕ) → IsDeterminedJob j → IsNoFailure status
      → EndsJob before after old new j status
      → (whole : Intent) × CallsFor before.held old j whole
  job_called stand j status one (no_read, no_write, no_want) e = elim e.ends [
    | inl (is, made) ↦
        let six : intent_status e.intent ≢ 6 = λ h. no_read (is ∙ h) in
        let nine : intent_status e.intent ≢ 9 = λ h. no_want (is ∙ h) in
        (e.intent, called_for stand before.held before after old j e.intent e.gives e.begins one six nine)
    | inr (inl (is, cut)) ↦ absurd (no_write is)
    | inr (inr (is, stopped)) ↦ absurd (no_want is)
  ]

  pub run_called : CausesStand → (named : Option Job) (status : ℕ) → EndsRun named before after old new status
      → (j : Job) → named ≡ Some j
      → IsDeterminedJob j → IsNoFailure status → (whole : Intent) × CallsFor before.held old j whole
  run_called stand named status (by_job other at e) j is one free =
      let same : other ≡ j = same_Some other j (sym at ∙ is) in
      job_called stand j status one free (subst (λ (k : Job). EndsJob before after old new k status) same e)
  run_called stand named status (by_words none ends stays) j is one free = absurd (none_names j (sym none ∙ is))
  run_called stand named status (by_memory nine same stays) j is one (no_read, no_write, no_want) =
      absurd (no_want nine)

-- ---- a run

module _ (clear : TextsAreClear) (sections : SectionsAreClear) (one_map : OneMap) (graphs : AlikeWorldsAreOneGraph)
    (one : RecordsAreOne lattice_site AreAlikeWorlds) (first : FewAreFirst lattice_site AreAlikeWorlds)
    (one_grid : RecordsAreOne grid_site AreOneGrid) (first_grid : FewAreFirst grid_site AreOneGrid)
    (before after : DeskState) (old new : List Entry) where
  -- what is called for was written whole
  job_whole : (j : Job) (whole : Intent) (status : ℕ) → AreTold before.held j → CallsFor before.held old j whole
      → IsNoFailure status → EndsJob before after old new j status
      → (status ≡ intent_status whole) × AreAppended before after (writes_of j whole)
  job_whole j whole status told calls (no_read, no_write, no_want) e = elim e.ends [
    | inl (is, made) ↦
        elim (agrees clear sections one_map graphs one first one_grid first_grid before.held (ReadFailed before after)
        old j e.intent whole told e.gives e.begins calls) [
          | inl (six, out) ↦ absurd (no_read (is ∙ six))
          | inr (inl (same, writes)) ↦ (is ∙ same, subst (λ (ws : List Write). AreAppended before after ws) writes made)
          | inr (inr (nine, rest)) ↦ absurd (no_want (is ∙ nine))
        ]
    | inr (inl (is, cut)) ↦ absurd (no_write is)
    | inr (inr (is, stopped)) ↦ absurd (no_want is)
  ]

  -- and otherwise prefixes of it, where no read failed
  job_prefix : (j : Job) (whole : Intent) (status : ℕ) → AreTold before.held j → NoneRose j before after
      → CallsFor before.held old j whole → EndsJob before after old new j status
      → ArePrefixes before after (writes_of j whole)
  job_prefix j whole status told quiet_reads calls e =
      elim (agrees clear sections one_map graphs one first one_grid first_grid before.held (ReadFailed before after) old
      j e.intent whole told e.gives e.begins calls) [
        | inl (six, (name, input, rose)) ↦ absurd (quiet_reads name input rose)
        | inr (inl (same, writes)) ↦
            ends_prefix before after (intent_status e.intent) status (writes_of j e.intent) [] (writes_of j whole)
            (sym writes ∙ nothing_after (writes_of j e.intent)) e.ends
        | inr (inr (nine, (rest, parted))) ↦
            ends_prefix before after (intent_status e.intent) status (writes_of j e.intent) rest
            (writes_of j whole) parted e.ends
      ]
    where
      nothing_after : (ws : List Write) → ws ≡ ws ++ []
      nothing_after [] = refl
      nothing_after (w ∷ ws) = ap (λ (l : List Write). w ∷ l) (nothing_after ws)

  pub run_whole : (named : Option Job) (status : ℕ) → EndsRun named before after old new status
      → (j : Job) (whole : Intent) → named ≡ Some j → AreTold before.held j
      → CallsFor before.held old j whole → IsNoFailure status
      → (status ≡ intent_status whole) × AreAppended before after (writes_of j whole)
  run_whole named status (by_job other at e) j whole is told calls free =
      let same : other ≡ j = same_Some other j (sym at ∙ is) in
      job_whole j whole status told calls free (subst (λ (k : Job). EndsJob before after old new k status) same e)
  run_whole named status (by_words none ends stays) j whole is told calls free = absurd (none_names j (sym none ∙ is))
  run_whole named status (by_memory nine same stays) j whole is told calls (no_read, no_write, no_want) =
      absurd (no_want nine)

  pub run_prefix : (named : Option Job) (status : ℕ) → EndsRun named before after old new status
      → (j : Job) (whole : Intent) → named ≡ Some j → AreTold before.held j → NoneRose j before after
      → CallsFor before.held old j whole
      → ArePrefixes before after (writes_of j whole)
  run_prefix named status (by_job other at e) j whole is told quiet_reads calls =
      let same : other ≡ j = same_Some other j (sym at ∙ is) in
      job_prefix j whole status told quiet_reads calls
      (subst (λ (k : Job). EndsJob before after old new k status) same e)
  run_prefix named status (by_words none ends stays) j whole is told quiet_reads calls =
      absurd (none_names j (sym none ∙ is))
  run_prefix named status (by_memory nine same stays) j whole is told quiet_reads calls =
      made_prefix before after [] (writes_of j whole) (writes_of j whole) refl (none_made before after same)
