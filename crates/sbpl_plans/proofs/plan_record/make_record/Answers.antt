use Rattle.std.proofs.Common.{map, arith, ◌≡◌, ℕ, ◌+◌, ◌*◌, ◌^◌, ◌≤◌, ◌<◌, length, Bool, true, false, MatchBool}
use Rattle.std.proofs.Common.{if◌then◌else◌, List, [], Option, None, Some, Result, Ok, Err, IfOk, refl, sym, ◌∙◌, ap}
use Rattle.std.proofs.Common.{subst, inl, inr, ◌⊎◌}
use Rattle.std.proofs.lemmas.List.{length-map}
use Rattle.std.specs.Option.{is_some}
use Rattle.std.specs.Result.{IsErr}
use Rattle.sbpl_worlds.specs.sbpl_cert.declared.section.Section.{Section}
use Rattle.sbpl_worlds.specs.sbpl_fixed.declared.no_memory.NoMemory.{NoMemory}
use Rattle.sbpl_worlds.specs.sbpl_job.declared.job.Outputs.{Outputs}
use Rattle.sbpl_worlds.specs.sbpl_job.declared.job.SearchJob.{SearchJob}
use Rattle.sbpl_worlds.specs.sbpl_labels.declared.time.Time.{Time}
use Rattle.sbpl_worlds.specs.sbpl_labels.declared.time.Time.TheVariants.{Late, Unlimited}
use Rattle.sbpl_worlds.specs.sbpl_labels.Marks.{Marks}
use Rattle.sbpl_worlds.specs.sbpl_plan.declared.ask.Ask.{Ask}
use Rattle.sbpl_worlds.specs.sbpl_plan.declared.result.Planned.{Planned}
use Rattle.sbpl_worlds.specs.sbpl_plan.Outcomes as search
use Rattle.sbpl_worlds.specs.sbpl_plan.Outcomes.{IsResultOf, IsTrueOutcome}
use Rattle.sbpl_worlds.specs.sbpl_plan.Asked.{most_passes}
use Rattle.sbpl_worlds.specs.sbpl_plan.Passing.{ArePasses, expansions, inquiry_of}
use Rattle.sbpl_worlds.specs.sbpl_graph.Network.{Network}
use Rattle.sbpl_worlds.specs.sbpl_search.Meaning.{Meaning}
use Rattle.sbpl_worlds.specs.sbpl_replan.Replanning.{GoesBetween, IsReady, SessionState, Standing, StaysTheSame, inquiry, standing_of}
use Rattle.sbpl_worlds.specs.sbpl_report.Traces.{traced_pass}
use Rattle.sbpl_worlds.specs.sbpl_plan.declared.passes.PassRecord.{PassRecord}
use Rattle.sbpl_worlds.specs.sbpl_report.declared.record.TraceLine.{TraceLine}
use Rattle.sbpl_worlds.specs.sbpl_promises.Published.{Entry, founds, with_paths, with_plan}
use Rattle.sbpl_plans.proofs.Founds.{broken_by, first_of_all, founds_traced, none_published}
use Rattle.sbpl_plans.proofs.Founds.{on_err_is, stands_broken, stands_so, expansions_traced}
use Rattle.sbpl_plans.proofs.Observed.{same_if, shown, stands_same, then_same}
use Rattle.sbpl_worlds.specs.sbpl_report.declared.record.PlanRecord.{PlanRecord}
use Rattle.sbpl_worlds.specs.sbpl_promises.Asked.{PlannerOn, ask_of, from_by, planner_on, to_by, workers_of}
use Rattle.sbpl_worlds.specs.sbpl_promises.Sites.{Leads, Site, from_of, to_of}
use Rattle.sbpl_worlds.specs.sbpl_promises.Blocked.{IsBlockageOf}
use Rattle.sbpl_worlds.specs.sbpl_promises.Headline.{Before, Begins, IsKnownWithin, IsMarked, IsNoneThere, IsSearched, IsToldOf}
use Rattle.sbpl_worlds.specs.sbpl_promises.Headline.{IsWithinBound, Joins, KeepsPromises, expanded_before}
use Rattle.sbpl_worlds.specs.sbpl_report.Shown.{IsShown, IsThere}
use Rattle.sbpl_worlds.proofs.OnMaps.{to_inside}
use Rattle.sbpl_worlds.proofs.Workspaces.{site_of}
use Rattle.sbpl_plans.proofs.plan_record.make_record.Goals as goal

-- a plan that was spent used up the budget, or the run's
spends : (budget used per_plan run before : ℕ) → per_plan ≡ budget → run ≡ before + used
    → (used ≡ per_plan) ⊎ (run ≡ 2 ^ 30) → (used ≡ budget) ⊎ (before + used ≡ 2 ^ 30)
spends budget used per_plan run before same counted (inl all) = inl (all ∙ same)
spends budget used per_plan run before same counted (inr all) = inr (sym counted ∙ all)

marked_by : (spent : Bool) (budget before used expanded per_plan run : ℕ) (r : PlanRecord) → expanded ≡ used
    → expansions r.passes ≡ used → MatchBool spent (r.spent ≡ Some expanded) (r.spent ≡ None)
    → per_plan ≡ budget → run ≡ before + used → (spent ≡ true → (used ≡ per_plan) ⊎ (run ≡ 2 ^ 30))
    → IsMarked budget before spent r
marked_by true budget before used expanded per_plan run r is passes mark same counted spends_all = (
  mark ∙ ap (λ (n : ℕ). Some n) (is ∙ sym passes),
  rw passes (spends budget used per_plan run before same counted (spends_all refl)),
)
marked_by false budget before used expanded per_plan run r is passes mark same counted spends_all = mark

-- what a plan used up of the run is the count of the run after it
in_run : {per_plan used run : ℕ} (before : ℕ) → run ≡ before + used → (used ≡ per_plan) ⊎ (before + used ≡ 2 ^ 30)
    → (used ≡ per_plan) ⊎ (run ≡ 2 ^ 30)
in_run before rises (inl all) = inl all
in_run before rises (inr all) = inr (rises ∙ all)

-- a plan without a limit of time is not late
not_late : {A : Type 0} {time : Time} → time ≡ Unlimited → A ⊎ (time ≡ Late) → A
not_late unlimited (inl a) = a
not_late unlimited (inr late) = absurd (let same : ◌≡◌ {A = Time} Unlimited Late = sym unlimited ∙ late in cc)

in_time : {A B : Type 0} {time : Time} → time ≡ Unlimited → A ⊎ (B ⊎ (time ≡ Late)) → A ⊎ B
in_time unlimited (inl a) = inl a
in_time unlimited (inr rest) = inr (not_late unlimited rest)

-- what is known of a plan, and of its record, is that it was searched
module _ {W : Type 0} (by : PlannerOn W) (w : W) (guide : ℕ → ℕ) (start goal : ℕ) (how : SearchJob) (outputs : Outputs)
    (before : Before) (begun final : Marks) (raised : List ℕ) (per_plan run used : ℕ)
    (planned : Planned by.Action) (section : Option Section) where
  searched_by : (asked : Ask) (wanted : Bool) (plan : ℕ) (r : Result PlanRecord NoMemory)
      → by.on.says w (to_by by start goal) guide
      → Begins by.means by.on w (from_by by start goal) before begun raised
      → asked ≡ ask_of how outputs
      → ArePasses by.means (inquiry_of (by.on.network w) guide (to_by by start goal) (workers_of how) asked) asked.first
      begun planned.passes final planned.spent
      → IsResultOf (by.on.network w) guide (to_by by start goal) final planned.outcome
      → per_plan ≡ how.budget → run ≡ expanded_before before + expansions planned.passes
      → used ≡ expansions planned.passes
      → (planned.spent ≡ true → (expansions planned.passes ≡ per_plan) ⊎ (run ≡ 2 ^ 30))
      → expansions planned.passes ≤ per_plan → run ≤ 2 ^ 30
      → length planned.passes ≤ most_passes asked.step asked.first
      → (planned.spent ≡ true → most_passes asked.step asked.first * (by.means.most * (by.on.network w).states)
      ≤ how.budget → run ≡ 2 ^ 30)
      → wanted ≡ is_some outputs.labels
      → IsThere wanted (IsShown outputs.form (by.on.network w) guide (from_by by start goal)
      (to_by by start goal) plan final planned.outcome) section
      → IfOk r (λ x. x.plan ≡ plan) → IfOk r (λ x. x.passes ≡ map (traced_pass by.line) planned.passes)
      → IfOk r (λ x. x.expanded ≡ used)
      → IfOk r (λ x. IsToldOf (Leads by.on.reporting.back (by.on.reporting.told w) start goal) planned.outcome x.outcome)
      → IfOk r (λ x. x.labels ≡ section)
      → IfOk r (λ x. x.raised ≡ (if asked.traced then raised else []))
      → IfOk r (λ x. MatchBool planned.spent (x.spent ≡ Some used) (x.spent ≡ None))
      → IfOk r (IsSearched by w how outputs start goal before
      (record { map = by.on.cells.map w; labels = final; expanded = run }))
  searched_by asked wanted plan (Err e) is_guide begins same passes outcome budget counted used_is spent within
      within_run few enough asks shown number copied expanded told kept raises mark = tt
  searched_by asked wanted plan (Ok x) is_guide begins same passes outcome budget counted used_is spent within
      within_run few enough asks shown number copied expanded told kept raises mark =
      let step = ap (λ (a : Ask). a.step) same in
      let first = ap (λ (a : Ask). a.first) same in
      let all : expansions x.passes ≡ expansions planned.passes =
      ap expansions copied ∙ expansions_traced by.line planned.passes in
      record {
        guide = guide;
        is_guide = is_guide;
        begun = begun;
        raised = raised;
        begins = begins;
        raises = subst (λ (a : Ask). x.raised ≡ (if a.traced then raised else [])) same raises;
        spent = planned.spent;
        recorded = planned.passes;
        passes =
            subst (λ (a : Ask). ArePasses by.means (inquiry_of (by.on.network w) guide
            (to_by by start goal) (workers_of how) a) a.first begun planned.passes final planned.spent) same passes;
        lines = copied;
        found = planned.outcome;
        is_result = outcome;
        told = told;
        expanded = expanded ∙ used_is ∙ sym all;
        counted = counted ∙ ap (λ (n : ℕ). expanded_before before + n) (sym all);
        within_budget = omega (arith, expanded, used_is, budget, within);
        within_run = within_run;
        marked =
            marked_by planned.spent how.budget (expanded_before before) (expansions planned.passes) used per_plan run x
            used_is all mark budget counted spent;
        few = rw (copied, length-map planned.passes (traced_pass by.line), sym step, sym first) few;
        ample = rw (sym step, sym first) enough;
        labels =
            rw kept (subst (λ (b : Bool). IsThere b (IsShown outputs.form (by.on.network w) guide
            (from_by by start goal) (to_by by start goal) x.plan final planned.outcome) section) asks
            (subst (λ (k : ℕ). IsThere wanted (IsShown outputs.form (by.on.network w) guide (from_by by start goal) (to_by by start goal) k final planned.outcome) section) (sym number) shown));
      }

-- after a plan it goes between the same states
between_after : {Action : Type 0} (from to : ℕ) (old new : Standing Action)
    → GoesBetween from to old → StaysTheSame old new → GoesBetween from to new
between_after from to old new between same =
    record { from_is = same.start ∙ between.from_is; to_is = same.goal ∙ between.to_is }

-- what guides the search, where a plan may begin between these states
guided : {Action H W : Type 0} {means : Meaning Action} {network : W → Network} (is_made_for : H → W → ℕ → Type 0)
    (says : W → ℕ → (ℕ → ℕ) → Type 0) (distance : H → ℕ → ℕ)
    → ((h : H) (w : W) (goal : ℕ) → is_made_for h w goal → says w goal (distance h))
    → (s : SessionState Action H W) (from to : ℕ) → IsReady means network is_made_for s
    → GoesBetween from to (standing_of s) → says s.world to (distance s.guide)
guided is_made_for says distance so s from to ready between =
    subst (λ (t : ℕ). says s.world t (distance s.guide)) between.to_is (so s.guide s.world s.search.goal ready.made)

pub section_of-requires : goal.section_of-requires
section_of-requires g c =
    let task = c.args.task.now in
    let back = g.W.Workspace.reporting.back in
    let w = c.args.session.now.world in
    let n = g.W.Graph.network w in
    let made = c.in_ok-planned.ensures.planned in
    let ready = c.in_ok-planned.ensures.ready in
    let new = c.plan.new.self in
    let guide = g.W.Best.Guide.distance c.args.session.now.guide in
    let to = c.in_ok-planned.ensures.same.goal ∙ c.requires.can.set.between.to_is in
    let inside : to_of back c.args.at.start task.goal < n.states =
    subst (λ (k : ℕ). to_of back c.args.at.start task.goal < k) (g.met.W.Workspace.same_states w)
    (to_inside back c.args.at.start task.goal (g.W.Workspace.reporting.told w).states c.requires.can.start_inside c.requires.can.goal_inside) in
    record {
      ended = record {
        states =
            (g.met.S.Search.usable (g.W.Graph.network new.world) new.search.labels new.counts.run ready.labels).states;
        inside = rw c.plan.ensures.world (subst (λ (t : ℕ). t < n.states) (sym to) inside);
        guides = g.met.W.Best.Heuristic.guides_there new.guide new.world new.search.goal ready.made;
        result =
            rw c.plan.ensures.world (subst (λ (h : ℕ → ℕ). IsResultOf n h new.search.goal new.search.labels
            c.in_ok-planned.planned.outcome) (ap g.W.Best.Guide.distance (sym c.plan.ensures.guide))
            (subst (λ (t : ℕ). IsResultOf n guide t new.search.labels c.in_ok-planned.planned.outcome)
            (sym c.in_ok-planned.ensures.same.goal) made.outcome));
        supported = rw c.plan.ensures.world made.supported;
      };
    }

pub record_of-requires-clause-start : goal.record_of-requires-clause-start
record_of-requires-clause-start g c = rw (c.world.ensures.value, c.plan.ensures.world) c.requires.can.start_inside

pub record_of-requires-clause-goal : goal.record_of-requires-clause-goal
record_of-requires-clause-goal g c = rw (c.world.ensures.value, c.plan.ensures.world) c.requires.can.goal_inside

pub record_of-requires-clause-so : goal.record_of-requires-clause-so
record_of-requires-clause-so g c =
    let task = c.args.task.now in
    let back = g.W.Workspace.reporting.back in
    let n = g.W.Graph.network c.args.session.now.world in
    let made = c.in_ok-planned.ensures.planned in
    rw (c.world.ensures.value, c.plan.ensures.world)
    (subst (λ (s : ℕ). IsTrueOutcome n s (to_of back c.args.at.start task.goal) c.in_ok-planned.planned.outcome)
    c.requires.can.set.between.from_is
    (subst (λ (t : ℕ). IsTrueOutcome n c.args.session.now.search.labels.start t
    c.in_ok-planned.planned.outcome) c.requires.can.set.between.to_is made.so))

pub returns-clause-searched : goal.returns-clause-searched
returns-clause-searched g c = λ before goes.
    let task = c.args.task.now in
    let back = g.W.Workspace.reporting.back in
    let w = c.args.session.now.world in
    let n = g.W.Graph.network w in
    let means = g.S.Search.meaning in
    let by : PlannerOn _ = planner_on (site_of g.W.Graph g.W.Terrain g.W.Workspace) means g.S.Action.Traced.line in
    let set = c.requires.can.set in
    let planned = c.in_ok-planned.planned in
    let made = c.in_ok-planned.ensures.planned in
    let within = c.in_ok-planned.ensures.within in
    let unlimited : c.plan.new.self.counts.time ≡ Unlimited = c.in_ok-planned.ensures.unlimited refl in
    let old = standing_of c.args.session.now in
    let new = standing_of c.plan.new.self in
    let guide = g.W.Best.Guide.distance c.args.session.now.guide in
    let from = from_of back c.args.at.start task.goal in
    let to = to_of back c.args.at.start task.goal in
    let rises : new.counts.run ≡ old.counts.run + expansions planned.passes =
    made.leaves.counted.run in
    let run : new.counts.run ≡ expanded_before before + expansions planned.passes =
    rises ∙ ap (λ (n : ℕ). n + expansions planned.passes) {y = expanded_before before} (sym goes.counted) in
    let of_plan : new.counts.plan ≡ 0 + expansions planned.passes = made.leaves.counted.plan in
    let used : c.expanded-expanded.result ≡ expansions planned.passes =
    omega (arith, c.expanded-expanded.ensures.value, of_plan) in
    searched_by by w guide c.args.at.start task.goal task.how.now task.outputs.now before old.search.labels
    new.search.labels old.search.raised
    old.counts.per_plan new.counts.run c.expanded-expanded.result planned c.in_ok-labels.labels c.ask_of-ask.result
    (is_some task.outputs.now.labels) c.args.at.plan c.record_of.result
    (guided g.W.Best.Heuristic.is_made_for g.W.Workspace.says g.W.Best.Guide.distance
    g.met.W.Workspace.says_so c.args.session.now from to c.requires.can.ready set.between) goes.begins
    c.ask_of-ask.ensures.ask
    (subst (λ (k : ℕ). ArePasses means (inquiry_of n guide to k c.ask_of-ask.result) c.ask_of-ask.result.first
    old.search.labels planned.passes new.search.labels planned.spent) set.workers_are
    (subst (λ (t : ℕ). ArePasses means (inquiry_of n guide t old.search.workers c.ask_of-ask.result)
    c.ask_of-ask.result.first old.search.labels planned.passes new.search.labels planned.spent) set.between.to_is made.passes))
    (subst (λ (t : ℕ). IsResultOf n guide t new.search.labels planned.outcome) set.between.to_is made.outcome)
    set.budget_is run used (λ is. in_run old.counts.run rises (in_time unlimited (within.used_up is))) within.of_plan
    c.in_ok-planned.ensures.run made.few
    (λ is ample. not_late unlimited (made.enough is (omega (arith, ample, set.budget_is))))
    refl
    (subst (λ (h : ℕ → ℕ). IsThere (is_some task.outputs.now.labels) (IsShown task.outputs.now.form n h from to
    c.args.at.plan new.search.labels planned.outcome) c.in_ok-labels.labels)
    (ap g.W.Best.Guide.distance c.plan.ensures.guide)
    (subst (λ (s : ℕ). IsThere (is_some task.outputs.now.labels) (IsShown task.outputs.now.form n
    (g.W.Best.Guide.distance c.plan.new.self.guide) s to c.args.at.plan new.search.labels planned.outcome)
    c.in_ok-labels.labels) (c.in_ok-planned.ensures.same.start ∙ set.between.from_is)
    (subst (λ (t : ℕ). IsThere (is_some task.outputs.now.labels) (IsShown task.outputs.now.form n
    (g.W.Best.Guide.distance c.plan.new.self.guide) new.search.labels.start t c.args.at.plan new.search.labels
    planned.outcome) c.in_ok-labels.labels)
    (c.in_ok-planned.ensures.same.goal ∙ set.between.to_is)
    (rw c.plan.ensures.world at c.in_ok-labels.ensures.shown))))
    c.record_of.ensures.number c.record_of.ensures.passes c.record_of.ensures.expanded
    (rw (c.world.ensures.value, c.plan.ensures.world) at c.record_of.ensures.told) c.record_of.ensures.labels
    (subst (λ (l : List ℕ). IfOk c.record_of.result (λ x. x.raised ≡ l)) (c.in_ok-raised.ensures.told
    ∙ ap (λ (l : List ℕ). if c.ask_of-ask.result.traced then l else []) c.raised.ensures.value)
    c.record_of.ensures.raised)
    c.record_of.ensures.marked

-- a plan that is not marked as spent was not
unmarked : (spent : Bool) (expanded : ℕ) (x : PlanRecord) → MatchBool spent (x.spent ≡ Some expanded) (x.spent ≡ None)
    → x.spent ≡ None → spent ≡ false
unmarked true expanded x mark is = cc
unmarked false expanded x mark is = refl

promises_by : {Action W : Type 0} (on : Site W) (w : W) (start goal asked expanded : ℕ) (planned : Planned Action)
    (r : Result PlanRecord NoMemory) → IfOk r (λ x. Joins on w start goal x.outcome)
    → IfOk r (λ x. IsWithinBound (on.reporting.told w) start goal x.outcome)
    → IfOk r (λ x. IsNoneThere (on.reporting.told w) start goal x.outcome)
    → IfOk r (λ x. IsBlockageOf (on.reporting.told w) start goal x.outcome x.blockage)
    → IfOk r (λ x. MatchBool planned.spent (x.spent ≡ Some expanded) (x.spent ≡ None))
    → (planned.spent ≡ false → search.IsConclusive asked planned.outcome)
    → IfOk r (λ x. (a : ℕ) → search.IsConclusive a planned.outcome → IsKnownWithin a x.outcome)
    → IfOk r (KeepsPromises on w start goal asked)
promises_by on w start goal asked expanded planned (Ok x) joins within none blocked mark known answered = record {
  joins = joins;
  within_the_bound = within;
  none = none;
  blocked = blocked;
  unless_spent = λ is. answered asked (known (unmarked planned.spent expanded x mark is));
}
promises_by on w start goal asked expanded planned (Err e) joins within none blocked mark known answered = tt

pub returns-clause-promises : goal.returns-clause-promises
returns-clause-promises g c =
    let bound = ap (λ (a : Ask). a.bound) c.ask_of-ask.ensures.ask in
    let made = rw (c.world.ensures.value, c.plan.ensures.world) at c.record_of.ensures in
    promises_by (site_of g.W.Graph g.W.Terrain g.W.Workspace) c.args.session.now.world c.args.at.start c.args.task.now.goal
    _ _ c.in_ok-planned.planned c.record_of.result made.joins made.within_the_bound made.none made.blocked
    made.marked
    (λ is. subst (λ (b : ℕ). search.IsConclusive b c.in_ok-planned.planned.outcome) bound
    (c.in_ok-planned.ensures.planned.answered is)) made.answered

-- what is said of a value holds where there is none
no_value : {A E : Type 0} (P : A → Type 0) (r : Result A E) → IsErr r → IfOk r P
no_value P (Ok x) is = absurd (cc)
no_value P (Err e) is = tt

pub returns-in_err-planned-clause-searched : goal.returns-in_err-planned-clause-searched
returns-in_err-planned-clause-searched g c =
    λ before goes. no_value _ c.from_residual-in_err-planned.result c.from_residual-in_err-planned.ensures.0

pub returns-in_err-raised-clause-searched : goal.returns-in_err-raised-clause-searched
returns-in_err-raised-clause-searched g c = λ before goes. no_value _ c.from_residual.result c.from_residual.ensures.0

pub returns-in_err-labels-clause-searched : goal.returns-in_err-labels-clause-searched
returns-in_err-labels-clause-searched g c =
    λ before goes. no_value _ c.from_residual-in_err-labels.result c.from_residual-in_err-labels.ensures.0

-- ---- what was published

shown_by : {Action : Type 0} (line : Action → TraceLine) (log shown : List Entry) (plan : ℕ) (ps : List (PassRecord Action))
    (x : PlanRecord) → x.plan ≡ plan → x.passes ≡ map (traced_pass line) ps → shown ≡ with_paths log plan 0 (founds ps)
    → shown ≡ with_plan log x
shown_by line log shown plan ps x number passes is =
    is ∙ sym (λ i. with_paths log (number i) 0 ((ap founds passes ∙ founds_traced line ps) i))

if_shown : {Action E : Type 0} (line : Action → TraceLine) (log shown : List Entry) (plan : ℕ) (ps : List (PassRecord Action))
    (r : Result PlanRecord E) → IfOk r (λ x. x.plan ≡ plan) → IfOk r (λ x. x.passes ≡ map (traced_pass line) ps)
    → shown ≡ with_paths log plan 0 (founds ps) → IfOk r (λ x. shown ≡ with_plan log x)
if_shown line log shown plan ps (Ok x) number passes is = shown_by line log shown plan ps x number passes is
if_shown line log shown plan ps (Err e) number passes is = tt

pub returns-clause-shown : goal.returns-clause-shown
returns-clause-shown g c =
    if_shown g.S.Action.Traced.line _ _ _ _ c.record_of.result c.record_of.ensures.number c.record_of.ensures.passes
    (c.newest.ensures.published ∙ shown c.args.live.now c.begin.new.self c.plan.new.observer c.args.at.plan c.begin.ensures.same
    c.begin.ensures.entries c.begin.ensures.plan _ c.in_ok-planned.ensures.told)

pub returns-in_err-raised-clause-broken : goal.returns-in_err-raised-clause-broken
returns-in_err-raised-clause-broken g c =
    λ before goes. on_err_is _ c.from_residual.result (none_published refl)

pub returns-in_err-planned-clause-broken : goal.returns-in_err-planned-clause-broken
returns-in_err-planned-clause-broken g c = λ before goes.
    let task = c.args.task.now in
    let back = g.W.Workspace.reporting.back in
    let w = c.args.session.now.world in
    let by : PlannerOn _ = planner_on (site_of g.W.Graph g.W.Terrain g.W.Workspace) g.S.Search.meaning g.S.Action.Traced.line in
    let guide = g.W.Best.Guide.distance c.args.session.now.guide in
    let from = from_of back c.args.at.start task.goal in
    let to = to_of back c.args.at.start task.goal in
    on_err_is _ c.from_residual-in_err-planned.result
    (stands_broken by w guide c.args.at.start task.goal c.args.at.plan task.how.now task.outputs.now _ _ before _
    (standing_of c.args.session.now) (standing_of c.plan.new.self) c.ask_of-ask.result
    (guided g.W.Best.Heuristic.is_made_for g.W.Workspace.says g.W.Best.Guide.distance
    g.met.W.Workspace.says_so c.args.session.now from to c.requires.can.ready c.requires.can.set.between)
    goes.begins c.ask_of-ask.ensures.ask c.requires.can.set.between.to_is c.requires.can.set.workers_are
    (stands_so _ _ (λ ps told. shown c.args.live.now c.begin.new.self c.plan.new.observer c.args.at.plan c.begin.ensures.same
    c.begin.ensures.entries c.begin.ensures.plan ps told) c.in_err-planned.ensures.memory))

pub returns-in_err-incumbent-clause-broken : goal.returns-in_err-incumbent-clause-broken
returns-in_err-incumbent-clause-broken g c = λ before goes.
    let task = c.args.task.now in
    let by : PlannerOn _ = planner_on (site_of g.W.Graph g.W.Terrain g.W.Workspace) g.S.Search.meaning g.S.Action.Traced.line in
    let w = c.args.session.now.world in
    let back = g.W.Workspace.reporting.back in
    let guide = g.W.Best.Guide.distance c.args.session.now.guide in
    let from = from_of back c.args.at.start task.goal in
    let to = to_of back c.args.at.start task.goal in
    let old = standing_of c.args.session.now in
    let ask = c.ask_of-ask.result in
    let planned = c.in_ok-planned.planned in
    let left = c.plan.new.self.search.labels in
    on_err_is _ c.from_residual-in_err-incumbent.result
    (broken_by by w guide c.args.at.start task.goal c.args.at.plan task.how.now task.outputs.now _ _ before
    old ask left planned.passes
    (guided g.W.Best.Heuristic.is_made_for g.W.Workspace.says g.W.Best.Guide.distance
    g.met.W.Workspace.says_so c.args.session.now from to c.requires.can.ready c.requires.can.set.between)
    goes.begins c.ask_of-ask.ensures.ask c.requires.can.set.between.to_is c.requires.can.set.workers_are
    (first_of_all by.means (inquiry (g.W.Graph.network w) guide old ask) planned.passes ask.first old.search.labels left
    planned.spent c.in_ok-planned.ensures.planned.passes)
    (c.newest.ensures.published ∙ shown c.args.live.now c.begin.new.self c.plan.new.observer c.args.at.plan c.begin.ensures.same
    c.begin.ensures.entries c.begin.ensures.plan _ c.in_ok-planned.ensures.told))

pub returns-in_err-labels-clause-broken : goal.returns-in_err-labels-clause-broken
returns-in_err-labels-clause-broken g c = λ before goes.
    let task = c.args.task.now in
    let by : PlannerOn _ = planner_on (site_of g.W.Graph g.W.Terrain g.W.Workspace) g.S.Search.meaning g.S.Action.Traced.line in
    let w = c.args.session.now.world in
    let back = g.W.Workspace.reporting.back in
    let guide = g.W.Best.Guide.distance c.args.session.now.guide in
    let from = from_of back c.args.at.start task.goal in
    let to = to_of back c.args.at.start task.goal in
    let old = standing_of c.args.session.now in
    let ask = c.ask_of-ask.result in
    let planned = c.in_ok-planned.planned in
    let left = c.plan.new.self.search.labels in
    on_err_is _ c.from_residual-in_err-labels.result
    (broken_by by w guide c.args.at.start task.goal c.args.at.plan task.how.now task.outputs.now _ _ before
    old ask left planned.passes
    (guided g.W.Best.Heuristic.is_made_for g.W.Workspace.says g.W.Best.Guide.distance
    g.met.W.Workspace.says_so c.args.session.now from to c.requires.can.ready c.requires.can.set.between)
    goes.begins c.ask_of-ask.ensures.ask c.requires.can.set.between.to_is c.requires.can.set.workers_are
    (first_of_all by.means (inquiry (g.W.Graph.network w) guide old ask) planned.passes ask.first old.search.labels left
    planned.spent c.in_ok-planned.ensures.planned.passes)
    (c.newest.ensures.published ∙ shown c.args.live.now c.begin.new.self c.plan.new.observer c.args.at.plan c.begin.ensures.same
    c.begin.ensures.entries c.begin.ensures.plan _ c.in_ok-planned.ensures.told))

pub returns-clause-broken : goal.returns-clause-broken
returns-clause-broken g c = λ before goes.
    let task = c.args.task.now in
    let by : PlannerOn _ = planner_on (site_of g.W.Graph g.W.Terrain g.W.Workspace) g.S.Search.meaning g.S.Action.Traced.line in
    let w = c.args.session.now.world in
    let back = g.W.Workspace.reporting.back in
    let guide = g.W.Best.Guide.distance c.args.session.now.guide in
    let from = from_of back c.args.at.start task.goal in
    let to = to_of back c.args.at.start task.goal in
    let old = standing_of c.args.session.now in
    let ask = c.ask_of-ask.result in
    let planned = c.in_ok-planned.planned in
    let left = c.plan.new.self.search.labels in
    on_err_is _ c.record_of.result
    (broken_by by w guide c.args.at.start task.goal c.args.at.plan task.how.now task.outputs.now _ _ before
    old ask left planned.passes
    (guided g.W.Best.Heuristic.is_made_for g.W.Workspace.says g.W.Best.Guide.distance
    g.met.W.Workspace.says_so c.args.session.now from to c.requires.can.ready c.requires.can.set.between)
    goes.begins c.ask_of-ask.ensures.ask c.requires.can.set.between.to_is c.requires.can.set.workers_are
    (first_of_all by.means (inquiry (g.W.Graph.network w) guide old ask) planned.passes ask.first old.search.labels left
    planned.spent c.in_ok-planned.ensures.planned.passes)
    (c.newest.ensures.published ∙ shown c.args.live.now c.begin.new.self c.plan.new.observer c.args.at.plan c.begin.ensures.same
    c.begin.ensures.entries c.begin.ensures.plan _ c.in_ok-planned.ensures.told))

-- ---- the board

pub returns-in_err-planned-clause-same : goal.returns-in_err-planned-clause-same
returns-in_err-planned-clause-same g c =
    same_if c.args.live.now c.begin.new.self c.plan.new.observer c.args.at.plan c.begin.ensures.same
    c.begin.ensures.entries c.begin.ensures.plan _
    (stands_same c.args.live.now c.begin.new.self c.plan.new.observer c.args.at.plan c.begin.ensures.same
    c.begin.ensures.entries c.begin.ensures.plan) c.plan.result
    c.plan.ensures.told c.plan.ensures.memory

pub returns-in_err-incumbent-clause-same : goal.returns-in_err-incumbent-clause-same
returns-in_err-incumbent-clause-same g c =
    then_same c.args.live.now c.plan.new.observer c.newest.new.self
    (same_if c.args.live.now c.begin.new.self c.plan.new.observer c.args.at.plan c.begin.ensures.same
    c.begin.ensures.entries c.begin.ensures.plan _
    (stands_same c.args.live.now c.begin.new.self c.plan.new.observer c.args.at.plan c.begin.ensures.same
    c.begin.ensures.entries c.begin.ensures.plan) c.plan.result
    c.plan.ensures.told c.plan.ensures.memory)
    c.newest.ensures.same

pub returns-in_err-labels-clause-same : goal.returns-in_err-labels-clause-same
returns-in_err-labels-clause-same g c =
    then_same c.args.live.now c.plan.new.observer c.newest.new.self
    (same_if c.args.live.now c.begin.new.self c.plan.new.observer c.args.at.plan c.begin.ensures.same
    c.begin.ensures.entries c.begin.ensures.plan _
    (stands_same c.args.live.now c.begin.new.self c.plan.new.observer c.args.at.plan c.begin.ensures.same
    c.begin.ensures.entries c.begin.ensures.plan) c.plan.result
    c.plan.ensures.told c.plan.ensures.memory)
    c.newest.ensures.same

pub returns-clause-same : goal.returns-clause-same
returns-clause-same g c =
    then_same c.args.live.now c.plan.new.observer c.newest.new.self
    (same_if c.args.live.now c.begin.new.self c.plan.new.observer c.args.at.plan c.begin.ensures.same
    c.begin.ensures.entries c.begin.ensures.plan _
    (stands_same c.args.live.now c.begin.new.self c.plan.new.observer c.args.at.plan c.begin.ensures.same
    c.begin.ensures.entries c.begin.ensures.plan) c.plan.result
    c.plan.ensures.told c.plan.ensures.memory)
    c.newest.ensures.same
