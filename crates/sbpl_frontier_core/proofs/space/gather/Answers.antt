use Rattle.std.proofs.Common.{◌≡◌, ℕ, ◌<◌, ◌≤◌, arith, ⊎_elim, length, length-append, ap, refl, [], ◌∷◌}
use Rattle.std.proofs.lemmas.Bool.{cases_lt}
use Rattle.std.proofs.lemmas.List.Elements.{All-push, Contains-append_left, Contains-push}
use Rattle.sbpl_frontier_rules.specs.sbpl_open.Entries.{state_at}
use Rattle.sbpl_frontier_rules.specs.sbpl_open.OpenList as open_list
use Rattle.sbpl_frontier_core.proofs.Filling.{key_inside}
use Rattle.sbpl_frontier_core.proofs.space.gather.Goals as goal

pub loop-entry-preserved : goal.loop-entry-preserved
loop-entry-preserved c =
    let i = c.loop-entry.entry-index in
    let entries = c.entries-entries.result.now in
    let old = c.loop-entry.states.items in
    let s = state_at entries i in
    let here = c.loop-entry.invariant in
    let listed = c.entries-entries.ensures.listed i c.loop-entry-test.true in
    let inside = key_inside c.args.queue.now s (rw listed refl) in (
      rw c.push_reserved.ensures.items
          (All-push (λ (u : ℕ). u < open_list.states_of c.args.queue.now) old s here.0 inside),
      λ j below.
          rw c.push_reserved.ensures.items
          (⊎_elim
          (λ (before : j < i). Contains-append_left old (s ∷ []) (state_at entries j) (here.1 j before))
          (λ (after : i ≤ j). let at : j ≡ i = omega arith in rw at (Contains-push old s))
          (cases_lt j i)),
      λ u was. rw c.push_reserved.ensures.items (Contains-append_left old (s ∷ []) u (here.2 u was)),
      omega (
        arith,
        here.3,
        ap length c.push_reserved.ensures.items,
        length-append old (s ∷ []),
        c.push_reserved.ensures.capacity,
      ),
    )

pub returns-clause-gathered : goal.returns-clause-gathered
returns-clause-gathered c = λ s is.
    let found = c.entries-entries.ensures.all s is in
    rw (← found.2) (c.loop-entry.invariant.1 found.0 (omega (arith, found.1, c.loop-entry-test.false)))
