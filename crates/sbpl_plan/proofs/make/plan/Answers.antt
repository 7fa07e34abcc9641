use Rattle.std.proofs.Common.{◌≡◌, ◌∙◌, ℕ, Bool, List, refl, inl, sym, subst, arith, length-append}
use Rattle.sbpl_search.specs.sbpl_graph.Network.{Network}
use Rattle.sbpl_search.specs.sbpl_labels.Marks.{Marks}
use Rattle.sbpl_search.specs.State.{State}
use Rattle.sbpl_plan.specs.declared.found.Found.{Found}
use Rattle.sbpl_plan.specs.declared.passes.PassRecord.{PassRecord}
use Rattle.sbpl_plan.specs.declared.result.FoundPath.{FoundPath}
use Rattle.sbpl_plan.specs.declared.result.PlanResult.{PlanResult}
use Rattle.sbpl_plan.specs.Asked.{lowered}
use Rattle.sbpl_plan.specs.Looking.{WalkFinds}
use Rattle.sbpl_plan.specs.Outcomes.{IsResultOf}
use Rattle.sbpl_plan.specs.Observed.{AreTold}
use Rattle.sbpl_plan.specs.Passing.{EndsPlan, Inquiry, inquiry_of}
use Rattle.sbpl_plan.specs.Planned.{IsPlanned}
use Rattle.sbpl_plan.proofs.Iterating.{iteration_of}
use Rattle.sbpl_plan.proofs.Observing.{found_below, told_more}
use Rattle.sbpl_plan.proofs.Planning.{AreGoingOn, cut_after, goes_on, on_err, part_of_none, planned_of, runs_out_after}
use Rattle.sbpl_plan.proofs.make.plan.Goals as goal

-- what is said of labels and a goal that are those of the plan is said of it
ends_so : (q : Inquiry) (eps : ℕ) {m m' : Marks} {goal : ℕ} (spent : Bool) (found : Found) → m ≡ m' → goal ≡ q.goal
    → EndsPlan (record q { goal = goal }) eps m spent found → EndsPlan q eps m' spent found
ends_so q eps {m' = m'} {goal = goal} spent found labels same last =
    subst (λ (t : ℕ). EndsPlan (record q { goal = t }) eps m' spent found) same
    (subst (λ (x : Marks). EndsPlan (record q { goal = goal }) eps x spent found) labels last)

ends_back : (q : Inquiry) (eps : ℕ) {m m' : Marks} {goal : ℕ} (spent : Bool) (found : Found) → m ≡ m' → goal ≡ q.goal
    → EndsPlan q eps m' spent found → EndsPlan (record q { goal = goal }) eps m spent found
ends_back q eps {m = m} {goal = goal} spent found labels same last =
    subst (λ (t : ℕ). EndsPlan (record q { goal = t }) eps m spent found) (sym same)
    (subst (λ (x : Marks). EndsPlan q eps x spent found) (sym labels) last)

result_so : (n : Network) (h : ℕ → ℕ) {m m' : Marks} {goal goal' : ℕ} (arcs : List ℕ) (found : Found)
    (o : PlanResult FoundPath) → m ≡ m' → goal ≡ goal' → WalkFinds n h goal' m' arcs found
    → (WalkFinds n h goal m arcs found → IsResultOf n h goal m o) → IsResultOf n h goal' m' o
result_so n h {m} {m'} {goal} {goal'} arcs found o labels same finds so =
    subst (λ (t : ℕ). IsResultOf n h t m' o) same
    (subst (λ (x : Marks). IsResultOf n h goal x o) labels
    (so (subst (λ (x : Marks). WalkFinds n h goal x arcs found) (sym labels)
    (subst (λ (t : ℕ). WalkFinds n h t m' arcs found) (sym same) finds))))

pub returns-in_err-arcs-clause-memory : goal.returns-in_err-arcs-clause-memory
returns-in_err-arcs-clause-memory g c =
    on_err c.from_residual.result _
    (inl (part_of_none g.S.Search.meaning _ _ _ _ _ refl c.requires.ready c.requires.fresh))

pub returns-in_err-end-clause-memory : goal.returns-in_err-end-clause-memory
returns-in_err-end-clause-memory g c =
    let here = c.passes.invariant in
    on_err c.from_residual-in_err-end.result _
    (cut_after g.S.Search.meaning here.going_on
    (λ ps. AreTold g.O.Observer.told 0 ps c.args.observer.now c.passes.observer)
    here.told refl c.in_err-end.ensures.cut)

pub tell-requires-clause-bound : goal.tell-requires-clause-bound
tell-requires-clause-bound g c = λ cost bound is.
    found_below (rw is at c.look-found.ensures.found)

pub returns-in_err-trace-clause-memory : goal.returns-in_err-trace-clause-memory
returns-in_err-trace-clause-memory g c =
    let here = c.passes.invariant in
    let passed = c.in_ok-end.ensures.passed in
    on_err c.from_residual-in_err-trace.result _
    (runs_out_after g.S.Search.meaning here.going_on
    (iteration_of g.S.Search.meaning (c.is_spent-spent.ensures.spent.0) (c.is_spent-spent.ensures.rest.0)
    here.going_on.leaves.fresh (g.met.S.Search.usable _ _ _ passed.ready).states passed
    c.expanded-expanded.ensures.value refl here.going_on.leaves.same_goal here.going_on.leaves.same_workers
    c.look-found.ensures.found)
    (λ ps. AreTold g.O.Observer.told 0 ps c.args.observer.now c.tell.new.observer)
    (told_more g.O.Observer.told _ _ _ _ _ here.number here.told c.tell.ensures.told))

pub returns-in_err-push-clause-memory : goal.returns-in_err-push-clause-memory
returns-in_err-push-clause-memory g c =
    let here = c.passes.invariant in
    let passed = c.in_ok-end.ensures.passed in
    on_err c.from_residual-in_err-push.result _
    (runs_out_after g.S.Search.meaning here.going_on
    (iteration_of g.S.Search.meaning (c.is_spent-spent.ensures.spent.0) (c.is_spent-spent.ensures.rest.0)
    here.going_on.leaves.fresh (g.met.S.Search.usable _ _ _ passed.ready).states passed
    c.expanded-expanded.ensures.value c.in_ok-trace.ensures.trace here.going_on.leaves.same_goal here.going_on.leaves.same_workers
    c.look-found.ensures.found)
    (λ ps. AreTold g.O.Observer.told 0 ps c.args.observer.now c.tell.new.observer)
    (told_more g.O.Observer.told _ _ _ _ _ here.number here.told c.tell.ensures.told))

pub returns-then-is_last-clause-planned : goal.returns-then-is_last-clause-planned
returns-then-is_last-clause-planned g c =
    let here = c.passes.invariant in
    let passed = c.in_ok-end.ensures.passed in
    let q : Inquiry =
    inquiry_of (g.G.Graph.network c.args.inquiry.now.graph.now) (g.H.Guide.distance c.args.inquiry.now.guide.now)
    (g.S.Search.state c.args.search.now).goal (g.S.Search.state c.args.search.now).workers c.args.inquiry.now.ask.now in
    let new : State g.row.S-Action.Denot = g.S.Search.state c.pass.new.self in
    let spent = c.is_spent-spent.result in
    let found = c.look-found.result in
    let outcome = c.outcome_of-outcome.result in
    let t =
    iteration_of g.S.Search.meaning (c.is_spent-spent.ensures.spent.0) (c.is_spent-spent.ensures.rest.0)
    here.going_on.leaves.fresh (g.met.S.Search.usable _ _ _ passed.ready).states passed
    c.expanded-expanded.ensures.value c.in_ok-trace.ensures.trace here.going_on.leaves.same_goal here.going_on.leaves.same_workers
    c.look-found.ensures.found in
    let last : EndsPlan q c.passes.eps new.labels spent found =
    ends_so q c.passes.eps spent found c.labels.ensures.value c.goal-goal.ensures.value
    (c.is_last.ensures.last.0 c.if-is_last.true) in
    let result : IsResultOf q.network q.guide q.goal new.labels outcome =
    result_so q.network q.guide _ found outcome c.labels-then-is_last.ensures.value c.goal-goal.ensures.value t.found
    (c.outcome_of-outcome.ensures.outcome _ _) in
    subst (λ (ps : List (PassRecord g.row.S-Action.Denot)). IsPlanned g.S.Search.meaning q (g.S.Search.state c.args.search.now)
    new c.args.budget.now c.pass.new.budget (record { passes = ps; spent = spent; outcome = outcome }))
    (sym (c.of.ensures.items ∙ c.in_ok-push.ensures.items))
    (planned_of g.S.Search.meaning here.going_on t _ c.requires.asked last result
    (g.met.S.Search.usable _ _ _ passed.ready).states
    c.outcome_of-outcome.ensures.agrees c.bound_holds.ensures.every_path c.none_holds.ensures.no_path
    c.states.ensures.sound (g.met.H.Guide.consistent c.args.inquiry.now.guide.now _ _ c.requires.guide)
    c.used-used.ensures.counts)

pub returns-then-is_last-clause-told : goal.returns-then-is_last-clause-told
returns-then-is_last-clause-told g c =
    let here = c.passes.invariant in
    subst (λ (ps : List (PassRecord g.row.S-Action.Denot)). AreTold g.O.Observer.told 0 ps c.args.observer.now
    c.tell.new.observer) (sym (c.of.ensures.items ∙ c.in_ok-push.ensures.items))
    (told_more g.O.Observer.told _ _ _ _ _ here.number here.told c.tell.ensures.told)

pub passes-preserved : goal.passes-preserved
passes-preserved g c =
    let here = c.passes.invariant in
    let passed = c.in_ok-end.ensures.passed in
    let q : Inquiry =
    inquiry_of (g.G.Graph.network c.args.inquiry.now.graph.now) (g.H.Guide.distance c.args.inquiry.now.guide.now)
    (g.S.Search.state c.args.search.now).goal (g.S.Search.state c.args.search.now).workers c.args.inquiry.now.ask.now in
    let old : State g.row.S-Action.Denot = g.S.Search.state c.args.search.now in
    let new : State g.row.S-Action.Denot = g.S.Search.state c.pass.new.self in
    let not =
    λ (last : EndsPlan q c.passes.eps new.labels c.is_spent-spent.result c.look-found.result).
    (let yes = c.is_last.ensures.last.1
    (ends_back q c.passes.eps c.is_spent-spent.result c.look-found.result c.labels.ensures.value
    c.goal-goal.ensures.value last) in
    let no : ⊥ = cc (yes, c.if-is_last.false) in no) in
    let t =
    iteration_of g.S.Search.meaning (c.is_spent-spent.ensures.spent.0) (c.is_spent-spent.ensures.rest.0)
    here.going_on.leaves.fresh (g.met.S.Search.usable _ _ _ passed.ready).states passed
    c.expanded-expanded.ensures.value c.in_ok-trace.ensures.trace here.going_on.leaves.same_goal here.going_on.leaves.same_workers
    c.look-found.ensures.found in
    let on = goes_on g.S.Search.meaning here.going_on t c.requires.asked here.low not in
    let high = here.high in
    let is = c.lowered-eps.ensures.lowered in
    record {
      going_on =
          subst (λ (e : ℕ). AreGoingOn g.S.Search.meaning q old new c.args.budget.now c.pass.new.budget
          c.push.new.self.items e) (sym is)
          (subst (λ (ps : List (PassRecord g.row.S-Action.Denot)). AreGoingOn g.S.Search.meaning q old new c.args.budget.now
          c.pass.new.budget ps (lowered q.ask.step c.passes.eps)) (sym c.in_ok-push.ensures.items) on);
      low = omega arith;
      high = omega arith;
      room =
          rw (c.look-found.ensures.room) (let r = here.room in let k = c.clear.ensures.capacity in omega arith);
      serves = c.pass.ensures.serves;
      number =
          let was = here.number in
          rw (c.in_ok-push.ensures.items, length-append c.passes.passes.items _) (omega arith);
      told =
          subst (λ (ps : List (PassRecord g.row.S-Action.Denot)).
          AreTold g.O.Observer.told 0 ps c.args.observer.now c.tell.new.observer) (sym c.in_ok-push.ensures.items)
          (told_more g.O.Observer.told _ _ _ _ _ here.number here.told c.tell.ensures.told);
      observed =
          let was = here.observed in
          let one = c.tell.ensures.room in
          rw (c.in_ok-push.ensures.items, length-append c.passes.passes.items _) (omega arith);
    }
