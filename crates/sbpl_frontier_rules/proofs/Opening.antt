-- Opening a state keeps a frontier.
use Rattle.std.proofs.Common.{◌≡◌, ◌≢◌, ℕ, ◌+◌, ◌*◌, ◌<◌, ◌≤◌, Bool, true, false, List, length, slice_set, arith}
use Rattle.std.proofs.Common.{⊎_elim, sym, ap, ◌∙◌}
use Rattle.std.proofs.lemmas.Bool.{cases_eq, cases_lt, false≢true}
use Rattle.std.proofs.lemmas.List.{get_or-set_same, get_or-set_other, length-set}
use Rattle.sbpl_serial.specs.sbpl_graph.Network.{IsFreeArc}
use Rattle.sbpl_serial.specs.sbpl_graph.Path.{IsFreePath}
use Rattle.sbpl_serial.proofs.Keeping.{kept_opened, none_under_settled}
use Rattle.sbpl_serial.proofs.Fitting.{fit_settled}
use Rattle.sbpl_serial.proofs.Paths.{label_at_most}
use Rattle.sbpl_serial.specs.sbpl_labels.Marks.{g_of, v_of}
use Rattle.sbpl_serial.proofs.Changes.{settles_state}
use Rattle.sbpl_serial.specs.sbpl_search.Query.{Query}
use Rattle.sbpl_serial.specs.Marked.{closed_at}
use Rattle.sbpl_frontier_rules.specs.Frontier.{Frontier, arcs_of, is_due, times_due, times_out, times_ready}
use Rattle.sbpl_frontier_rules.specs.Events.{IsOpening}
use Rattle.sbpl_frontier_rules.specs.Kept.{IsKept, IsOfOpened}
use Rattle.sbpl_frontier_rules.proofs.Counting.{idle_from_none, none_from_idle, due_from_some, some_from_due}
use Rattle.sbpl_frontier_rules.proofs.Counting.{ready_append, arc_below, arcs_below_few, arcs_below_has}
use Rattle.sbpl_frontier_rules.proofs.Labelling.{labels_settled}

-- the state is opened, and no other state is
pub opened_here : (old new : List Bool) (s : ℕ) → s < length old → new ≡ slice_set old s true → closed_at new s ≡ true
opened_here old new s inside set = ap (λ marks. closed_at marks s) set ∙ get_or-set_same old s true false inside

pub opened_else : (old new : List Bool) (s x : ℕ) → new ≡ slice_set old s true → x ≢ s
    → closed_at new x ≡ closed_at old x
opened_else old new s x set apart = ap (λ marks. closed_at marks x) set ∙ get_or-set_other old s x true false apart

pub opened_still : (old new : List Bool) (s x : ℕ) → s < length old → new ≡ slice_set old s true
    → closed_at old x ≡ true → closed_at new x ≡ true
opened_still old new s x inside set was =
    ⊎_elim
    (λ (at : x ≡ s). rw at (opened_here old new s inside set))
    (λ (apart : x ≢ s). opened_else old new s x set apart ∙ was)
    (cases_eq x s)

module _ {q : Query} {old new : Frontier} {s : ℕ} (kept : IsKept q old) (opening : IsOpening q old s new) where
  -- the arcs of s are added to those that are due
  due_opened : (a j : ℕ) → times_due new a j ≡ times_due old a j + times_ready (arcs_of q.network s) a j
  due_opened a j =
      let ready : times_ready new.ready a j ≡ times_ready old.ready a j + times_ready (arcs_of q.network s) a j =
      ap (λ arcs. times_ready arcs a j) opening.ready ∙ ready_append old.ready (arcs_of q.network s) a j
      in
      let out : times_out new.out a j ≡ times_out old.out a j = ap (λ legs. times_out legs a j) opening.out in
      omega arith

  -- none of which was due before
  fresh_idle : (j : ℕ) → times_due old s j ≡ 0
  fresh_idle j =
      ⊎_elim
      (λ (some : 0 < times_due old s j).
      let of = kept.of_opened s j (due_from_some (times_due old s j) some) in
      absurd (false≢true (sym opening.may.fresh ∙ of.opened)))
      (λ (none : times_due old s j ≤ 0). omega arith)
      (cases_lt 0 (times_due old s j))

  opening_of_opened : (a j : ℕ) → is_due new a j ≡ true → IsOfOpened q.network new a j
  opening_of_opened a j due =
      let some = some_from_due (times_due new a j) due in
      let counts = due_opened a j in
      let inside : s < length old.opened = omega (arith, opening.may.inside, kept.states, kept.marks) in
      ⊎_elim
      (λ (was : 0 < times_due old a j).
      let of = kept.of_opened a j (due_from_some (times_due old a j) was) in
      record {
        source = of.source;
        number = of.number;
        headed = of.headed;
        opened = opened_still old.opened new.opened s a inside opening.opened of.opened;
      })
      (λ (none : times_due old a j ≤ 0).
      let of = arc_below q.network s (q.network.fan s) a j (omega arith) in
      rw of.state (record {
        source = omega (arith, opening.may.inside, kept.states);
        number = of.number;
        headed = of.headed;
        opened = opened_here old.opened new.opened s inside opening.opened;
      }))
      (cases_lt 0 (times_due old a j))

  opening_once : (a j : ℕ) → times_due new a j ≤ 1
  opening_once a j =
      let counts = due_opened a j in
      let few = arcs_below_few q.network s (q.network.fan s) a j in
      ⊎_elim
      (λ (own : 0 < times_ready (arcs_of q.network s) a j).
      let of = arc_below q.network s (q.network.fan s) a j own in
      let none : times_due old a j ≡ 0 = rw of.state (fresh_idle j) in
      omega arith)
      (λ (none : times_ready (arcs_of q.network s) a j ≤ 0). omega (arith, kept.once a j))
      (cases_lt 0 (times_ready (arcs_of q.network s) a j))

  -- an arc that is idle now was so before, and is of another state
  opening_idle : (a j t c : ℕ) → is_due new a j ≡ false → IsFreeArc q.network a j t c
      → (a ≢ s) × (is_due old a j ≡ false)
  opening_idle a j t c idle arc =
      let none = none_from_idle (times_due new a j) idle in
      let counts = due_opened a j in (
        λ (at : a ≡ s).
            let own : IsFreeArc q.network s j t c = rw (← at) arc in
            let has : 1 ≤ times_ready (arcs_of q.network s) a j =
            rw at (arcs_below_has q.network s (q.network.fan s) j t own.number own.head) in
            absurd (omega arith),
        idle_from_none (times_due old a j) (omega arith),
      )

  -- a frontier stays kept where g of the state that is opened is bounded
  pub opening_kept : ((arcs : List ℕ) (cost : ℕ) → IsFreePath q.network old.labels.start arcs s cost
      → 1000 * g_of old.labels s ≤ q.eps * cost)
      → IsKept q new
  opening_kept bound =
      let change = opening.settled in
      let settles = settles_state s change in
      let label = label_at_most (v_of old.labels s) (kept.labels.labels s opening.may.inside).1 in
      let inside : s < length old.opened = omega (arith, opening.may.inside, kept.states, kept.marks) in
      record {
        states = change.states ∙ kept.states;
        marks = ap length opening.opened ∙ length-set old.opened s true ∙ kept.marks;
        labels = labels_settled s opening.may.inside kept.labels change;
        arcs = rw change.start (kept_opened (is_due new) s kept.arcs opening.may.over label settles opening_idle);
        none_under = none_under_settled s kept.none_under settles;
        bounded = record {
          near = λ x opened.
              ⊎_elim
              (λ (at : x ≡ s).
              let now : v_of new.labels x ≡ g_of old.labels s = rw at settles.settled in
              omega (arith, opening.may.over))
              (λ (apart : x ≢ s).
              let was = sym (opened_else old.opened new.opened s x opening.opened apart) ∙ opened in
              omega (arith, settles.other_v x apart, kept.bounded.near x was))
              (cases_eq x s);
          within = λ x arcs cost opened path.
              let path' : IsFreePath q.network old.labels.start arcs x cost = rw (← change.start) path in
              ⊎_elim
              (λ (at : x ≡ s).
              let now : v_of new.labels x ≡ g_of old.labels s = rw at settles.settled in
              let own : IsFreePath q.network old.labels.start arcs s cost = rw (← at) path' in
              omega (arith, bound arcs cost own))
              (λ (apart : x ≢ s).
              let was = sym (opened_else old.opened new.opened s x opening.opened apart) ∙ opened in
              omega (arith, settles.other_v x apart, kept.bounded.within x arcs cost was path'))
              (cases_eq x s);
        };
        of_opened = opening_of_opened;
        once = opening_once;
        tickets_differ = rw opening.out kept.tickets_differ;
        below_next = rw (opening.out, opening.next) kept.below_next;
        counts = record {
          some = omega (arith, kept.counts.some, opening.counted.budget);
          few = omega (arith, kept.counts.few, opening.counted.budget);
          within_plan = omega (arith, opening.may.left.of_plan, opening.counted.plan, opening.counted.budget);
          within_run = omega (arith, opening.may.left.of_run, opening.counted.run);
          plan_in_run = omega (arith, kept.counts.plan_in_run, opening.counted.plan, opening.counted.run);
        };
        fits = rw opening.counted.run (fit_settled s kept.fits settles);
      }
