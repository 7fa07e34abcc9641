use Rattle.std.proofs.Common.{◌≡◌, ℕ, true, false, Option, Some, None, is_some, not, arith, inl, refl, sym}
use Rattle.std.proofs.Common.{ap, subst, ◌∙◌}
use Rattle.std.proofs.lemmas.Bool.{eqb-false, eqb-true, true≢false}
use Rattle.sbpl_frontier_rules.specs.sbpl_labels.Marks.{g_of}
use Rattle.sbpl_frontier_rules.specs.sbpl_serial.Keys.{goal_key}
use Rattle.sbpl_frontier_rules.specs.sbpl_serial.Queue.{IsFirstBelow}
use Rattle.sbpl_frontier_rules.specs.sbpl_serial.Run.{goal_key_at}
use Rattle.sbpl_frontier_rules.specs.Frontier.{Frontier}
use Rattle.sbpl_frontier_core.specs.Book.{frontier_of}
use Rattle.sbpl_frontier_core.specs.Clear.{IsSearched}
use Rattle.sbpl_frontier_core.proofs.Parting.{parts_kept, parts_searched}
use Rattle.sbpl_frontier_core.proofs.Choosing.{chosen_from, over_from, spent_from, waits_at_rest, waits_from}
use Rattle.sbpl_frontier_core.proofs.Replaying.{states_out}
use Rattle.sbpl_frontier_core.proofs.frontier.CoreOf.choose.Goals as goal
use Rattle.sbpl_frontier_core.proofs.frontier.CoreOf.choose.Goals.{else-idle, else-idle-2, in-None}
use Rattle.sbpl_frontier_core.proofs.frontier.CoreOf.choose.Goals.{in-Some, then-idle, then-idle-2}

none_of : (o : Option ℕ) → is_some o ≡ false → o ≡ None
none_of None is = refl
none_of (Some s) is = absurd (true≢false is)

some_of : (o : Option ℕ) → is_some o ≡ true → (s : ℕ) × (o ≡ Some s)
some_of None is = absurd (true≢false (sym is))
some_of (Some s) is = (s, refl)

pub returns-then-is_none-clause-choice : goal.returns-then-is_none-clause-choice
returns-then-is_none-clause-choice g c =
    let inside = c.self.inside in
    let here = c.self.invariant in
    let q = g.N.Pass.query in
    let f : Frontier =
    frontier_of q.network inside.labels inside.opened inside.state inside.from inside.out.items
    inside.next inside.budget in
    let none_ready = rw (← c.self.view_is) at c.requires.none_ready in
    let key = c.key_of_goal-goal.ensures.key ∙ ap (λ (x : ℕ). goal_key (g_of inside.labels x)) here.3 in
    let none = none_of c.least_below.result (c.is_none.ensures ∙ ap not c.if-is_none.true) in
    let least : IsFirstBelow inside.queue (goal_key_at q inside.labels) None =
    subst (λ (k : ℕ × ℕ). IsFirstBelow inside.queue k None) key (subst (IsFirstBelow inside.queue
    (c.key_of_goal-goal.result.0, c.key_of_goal-goal.result.1)) none c.least_below.ensures.least) in
    rw (← c.self.view_is)
    (elim c.if-idle.branch [
      | then-idle w ↦
          let out = eqb-true _ _ (sym c.is_empty-idle.ensures ∙ w.if-idle.true) in
          rw w.result-is (over_from q f inside.queue here.5.queued none_ready (omega arith) least)
      | else-idle w ↦
          let out = eqb-false _ _ (sym c.is_empty-idle.ensures ∙ w.if-idle.false) in
          rw w.result-is (waits_at_rest q f inside.queue here.5.queued none_ready (omega arith) least)
    ])

pub returns-then-spent-clause-choice : goal.returns-then-spent-clause-choice
returns-then-spent-clause-choice g c =
    let inside = c.self.inside in
    let here = c.self.invariant in
    let q = g.N.Pass.query in
    let f : Frontier =
    frontier_of q.network inside.labels inside.opened inside.state inside.from inside.out.items
    inside.next inside.budget in
    let none_ready = rw (← c.self.view_is) at c.requires.none_ready in
    let key = c.key_of_goal-goal.ensures.key ∙ ap (λ (x : ℕ). goal_key (g_of inside.labels x)) here.3 in
    let some = some_of c.least_below.result (c.is_none.ensures ∙ ap not c.if-is_none.false) in
    let least : IsFirstBelow inside.queue (goal_key_at q inside.labels) (Some some.0) =
    subst (λ (k : ℕ × ℕ). IsFirstBelow inside.queue k (Some some.0)) key (subst (IsFirstBelow inside.queue
    (c.key_of_goal-goal.result.0, c.key_of_goal-goal.result.1)) some.1 c.least_below.ensures.least) in
    let spent = c.if-spent.ensures.spent.0 refl in
    rw (← c.self.view_is)
    (elim c.if-idle-2.branch [
      | then-idle-2 w ↦
          let out = eqb-true _ _ (sym c.is_empty-idle.ensures ∙ w.if-idle-2.true) in
          rw w.result-is (spent_from q f inside.queue here.5.queued some.0 none_ready (omega arith) spent least)
      | else-idle-2 w ↦
          let out = eqb-false _ _ (sym c.is_empty-idle.ensures ∙ w.if-idle-2.false) in
          rw w.result-is (record { none_ready = none_ready; some_out = omega arith; held = inl spent })
    ])

pub find_clear-found-requires-clause-out : goal.find_clear-found-requires-clause-out
find_clear-found-requires-clause-out g c =
    rw c.as_slice.ensures.value
    (states_out (parts_kept c.events_keep.ensures.first c.events_keep.ensures.each c.self.invariant.5))

pub returns-clause-choice : goal.returns-clause-choice
returns-clause-choice g c =
    let inside = c.self.inside in
    let here = c.self.invariant in
    let q = g.N.Pass.query in
    let f : Frontier =
    frontier_of q.network inside.labels inside.opened inside.state inside.from inside.out.items
    inside.next inside.budget in
    let none_ready = rw (← c.self.view_is) at c.requires.none_ready in
    let kept = parts_kept c.events_keep.ensures.first c.events_keep.ensures.each here.5 in
    let key = c.key_of_goal-goal.ensures.key ∙ ap (λ (x : ℕ). goal_key (g_of inside.labels x)) here.3 in
    let some = some_of c.least_below.result (c.is_none.ensures ∙ ap not c.if-is_none.false) in
    let least : IsFirstBelow inside.queue (goal_key_at q inside.labels) (Some some.0) =
    subst (λ (k : ℕ × ℕ). IsFirstBelow inside.queue k (Some some.0)) key (subst (IsFirstBelow inside.queue
    (c.key_of_goal-goal.result.0, c.key_of_goal-goal.result.1)) some.1 c.least_below.ensures.least) in
    let searched : IsSearched q.network q.eps inside.labels inside.out.items (goal_key_at q inside.labels) inside.queue
    c.find_clear-found.result =
    subst (λ (k : ℕ × ℕ).
    IsSearched q.network q.eps inside.labels inside.out.items k inside.queue c.find_clear-found.result) key
    (rw (here.0, here.4, c.as_slice.ensures.value) at c.find_clear-found.ensures.searched) in
    rw (← c.self.view_is)
    (elim c.match-found.branch [
      | in-Some w ↦
          rw w.result-is (chosen_from q f inside.queue here.5.queued kept none_ready w.in-Some.s
          (c.if-spent.ensures.left.0 refl) (rw w.in-Some.is at searched))
      | in-None w ↦ rw w.result-is
          (waits_from q f inside.queue here.5.queued kept none_ready some.0 least (rw w.in-None.is at searched))
    ])

pub invariant_of-self : goal.invariant_of-self
invariant_of-self g c =
    let here = c.self.invariant in
    let found = c.find_clear-found.ensures in (
      here.0,
      here.1,
      here.2,
      here.3,
      here.4,
      parts_searched here.5 found.same found.empty found.room,
    )
