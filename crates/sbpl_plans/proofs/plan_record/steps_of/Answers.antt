use Rattle.std.proofs.Common.{◌≡◌, ℕ, ◌+◌, ◌<◌, ◌≤◌, [], ◌∷◌, List, length, drop, get_or, subst, add-one, drop-cons}
use Rattle.std.proofs.lemmas.List.{drop_all}
use Rattle.sbpl_worlds.specs.sbpl_promises.Headline.{IsPathFrom}
use Rattle.sbpl_worlds.specs.sbpl_promises.Sites.{Site}
use Rattle.sbpl_worlds.proofs.Workspaces.{site_of}
use Rattle.sbpl_plans.proofs.PathSteps.{Completes, all_done, first_arc, one_more, path_after}
use Rattle.sbpl_plans.proofs.plan_record.steps_of.Goals as goal

-- what is left begins with the element at hand
left_is : (xs : List ℕ) (i : ℕ) → i < length xs → drop i xs ≡ get_or xs i 0 ∷ drop (i + 1) xs
left_is xs i here = rw (add-one, drop-cons xs i 0)

none_left : (xs : List ℕ) (i : ℕ) → length xs ≤ i → drop i xs ≡ []
none_left xs i past = drop_all i xs past

pub loop-arc-init : goal.loop-arc-init
loop-arc-init g c = record { left = c.requires.path; done = λ others so. rw c.in_ok-steps.ensures.items so }

pub step-head-requires : goal.step-head-requires
step-head-requires g c =
    let split = left_is c.args.arcs.now c.loop-arc.arc-index c.loop-arc-test.true in
    let first =
    first_arc _ _ _ _ (subst (λ (l : List ℕ). IsPathFrom (g.W.Workspace.reporting.told c.args.world.now) c.loop-arc.at l) split
    c.loop-arc.invariant.left) in
    record { state = first.state; number = first.number; head = first.head }

pub loop-arc-preserved : goal.loop-arc-preserved
loop-arc-preserved g c =
    let w = c.args.world.now in
    let on : Site _ = site_of g.W.Graph g.W.Terrain g.W.Workspace in
    let split = left_is c.args.arcs.now c.loop-arc.arc-index c.loop-arc-test.true in
    let left =
    subst (λ (l : List ℕ). IsPathFrom (g.W.Workspace.reporting.told w) c.loop-arc.at l) split c.loop-arc.invariant.left in
    let done =
    subst (λ (l : List ℕ). Completes on w c.args.from c.args.arcs.now c.loop-arc.at l c.loop-arc.steps.items) split
    c.loop-arc.invariant.done in
    record {
      left = path_after _ _ _ _ _ left c.step-head.ensures.head;
      done =
          rw c.in_ok-push.ensures.items
          (one_more on w c.args.from c.loop-arc.at _ c.args.arcs.now _ c.loop-arc.steps.items _ done
          c.step-head.ensures.head c.step-head.ensures.step);
    }

pub returns : goal.returns
returns g c =
    let w = c.args.world.now in
    let on : Site _ = site_of g.W.Graph g.W.Terrain g.W.Workspace in
    let over = none_left c.args.arcs.now c.loop-arc.arc-index c.loop-arc-test.false in
    let done =
    subst (λ (l : List ℕ). Completes on w c.args.from c.args.arcs.now c.loop-arc.at l c.loop-arc.steps.items) over
    c.loop-arc.invariant.done in
    record { steps = rw c.of.ensures.items (all_done on w _ c.loop-arc.at _ _ done) }
