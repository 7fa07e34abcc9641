-- Handing out an arc, and posting its judgement, keep a frontier.
use Rattle.std.proofs.Common.{◌≡◌, ℕ, ◌+◌, ◌^◌, ◌<◌, ◌≤◌, ◌⊎◌, Bool, true, false, Option, Some, None, arith, ⊎_elim}
use Rattle.std.proofs.Common.{inl, inr, refl, sym, ap, ◌∙◌}
use Rattle.std.proofs.lemmas.Bool.{cases_lt}
use Rattle.std.proofs.lemmas.List.Elements.{All-push, All-weaker, All-filter}
use Rattle.std.proofs.lemmas.List.Kept.{AllPairs-filter}
use Rattle.std.proofs.lemmas.List.Quantifiers.{all_pairs_push}
use Rattle.sbpl_serial.specs.sbpl_graph.declared.TheConstants.{FAR}
use Rattle.sbpl_serial.specs.sbpl_graph.Fit.{FitCount}
use Rattle.sbpl_serial.specs.sbpl_graph.Kept.{AreKept, NoneUnder}
use Rattle.sbpl_serial.specs.sbpl_graph.Laws.{IsSound}
use Rattle.sbpl_serial.specs.sbpl_graph.Network.{Network}
use Rattle.sbpl_serial.specs.sbpl_graph.Path.{IsFreePath}
use Rattle.sbpl_serial.proofs.Keeping.{kept_lowered, kept_next, kept_used, none_under_lowered}
use Rattle.sbpl_serial.proofs.Fitting.{fit_lowered, fit_small}
use Rattle.sbpl_serial.specs.sbpl_labels.Marks.{Marks, AreLabels, states_of, g_of, v_of, back_of}
use Rattle.sbpl_serial.proofs.Changes.{lowers_state}
use Rattle.sbpl_serial.specs.sbpl_search.Query.{Query}
use Rattle.sbpl_serial.specs.Marked.{closed_at}
use Rattle.sbpl_serial.specs.Relaxed.{IsRelaxed}
use Rattle.sbpl_frontier_rules.specs.declared.leg.Leg.{Leg}
use Rattle.sbpl_frontier_rules.specs.Frontier.{Frontier, is_due, is_opened, times_due, times_out, times_ready, without}
use Rattle.sbpl_frontier_rules.specs.Events.{IsPosting, IsTaking}
use Rattle.sbpl_frontier_rules.specs.Kept.{AreBounded, IsKept, IsOfOpened}
use Rattle.sbpl_frontier_rules.proofs.Counting.{idle_from_none, none_from_idle, due_from_some, some_from_due}
use Rattle.sbpl_frontier_rules.proofs.Counting.{due_taken, one_at, same_from_one}
use Rattle.sbpl_frontier_rules.proofs.Labelling.{labels_lowered}
use Rattle.sbpl_frontier_rules.proofs.Legs.{Differ, out_has, out_without}

-- what holds of opened states stays where no state is opened and no v changes
pub bounded_same : (q : Query) (old new : Frontier) → new.labels.start ≡ old.labels.start
    → ((x : ℕ) → v_of new.labels x ≡ v_of old.labels x)
    → new.opened ≡ old.opened → AreBounded q old → AreBounded q new
bounded_same q old new start same_v opened was =
    let still : (x : ℕ) → is_opened new x ≡ true → is_opened old x ≡ true =
    λ x is. sym (ap (λ marks. closed_at marks x) opened) ∙ is in
    record {
      near = λ x is. omega (arith, same_v x, was.near x (still x is));
      within = λ x arcs cost is path.
          let path' : IsFreePath q.network old.labels.start arcs x cost = rw (← start) path in
          omega (arith, same_v x, was.within x arcs cost (still x is) path');
    }

-- each due arc is still of an opened state where no arc becomes due
pub of_opened_same : (n : Network) (old new : Frontier) → new.opened ≡ old.opened
    → ((s k : ℕ) → times_due new s k ≤ times_due old s k)
    → ((s k : ℕ) → is_due old s k ≡ true → IsOfOpened n old s k) → (s k : ℕ)
    → is_due new s k ≡ true → IsOfOpened n new s k
of_opened_same n old new opened fewer each s k due =
    let some = some_from_due (times_due new s k) due in
    let of = each s k (due_from_some (times_due old s k) (omega (arith, fewer s k))) in
    record {
      source = of.source;
      number = of.number;
      headed = of.headed;
      opened = ap (λ marks. closed_at marks s) opened ∙ of.opened;
    }

-- an arc is handed out
pub taking_kept : {q : Query} {old new : Frontier} {leg : Leg} → IsKept q old → IsTaking old leg new → IsKept q new
taking_kept {q} {old} {new} {leg} kept taking =
    let same = due_taken old new leg taking in
    record {
      states = rw taking.labels kept.states;
      marks = rw taking.opened kept.marks;
      labels = rw taking.labels kept.labels;
      arcs =
          rw taking.labels
          (kept_used (is_due new) kept.arcs
          (λ s k t c idle arc near.
          let none = none_from_idle (times_due new s k) idle in
          inl (idle_from_none (times_due old s k) (omega (arith, same s k)))));
      none_under = rw taking.labels kept.none_under;
      bounded =
          bounded_same q old new (ap (λ (m : Marks). m.start) taking.labels) (λ x. ap (λ m. v_of m x) taking.labels)
          taking.opened kept.bounded;
      of_opened = of_opened_same q.network old new taking.opened (λ s k. omega (arith, same s k)) kept.of_opened;
      once = λ s k. omega (arith, same s k, kept.once s k);
      tickets_differ =
          rw taking.out
          (all_pairs_push Differ old.out leg kept.tickets_differ
          (λ k d inside. let below = kept.below_next k d inside in omega (arith, taking.ticket)));
      below_next =
          rw (taking.out, taking.next)
          (All-push (λ (l : Leg). l.ticket < old.next + 1) old.out leg
          (All-weaker (λ (l : Leg). l.ticket < old.next) (λ (l : Leg). l.ticket < old.next + 1) (λ l below. omega arith)
          old.out kept.below_next)
          (omega (arith, taking.ticket)));
      counts = rw taking.counts kept.counts;
      fits = rw (taking.labels, taking.counts) kept.fits;
    }

-- labels after the judgement of arc k of s is applied
pub record AreRelaxed (n : Network) (old new : Marks) (pending : ℕ → ℕ → Bool) (count : ℕ) : Type 0 where
  pub start : new.start ≡ old.start
  pub states : states_of new ≡ states_of old
  pub labels : AreLabels new
  pub arcs : AreKept n new.start (g_of new) (v_of new) (back_of new) pending
  pub none_under : NoneUnder n.states (g_of new) (v_of new)
  pub same_v : (u : ℕ) → v_of new u ≡ v_of old u
  pub fits : FitCount n.states (g_of new) (v_of new) count

module _ {n : Network} {old : Marks} {pending : ℕ → ℕ → Bool} {count : ℕ} (s k : ℕ) where
  pub relaxed_kept : {new : Marks} (pending' : ℕ → ℕ → Bool) (head : Option ℕ) → IsSound n → AreLabels old
      → AreKept n old.start (g_of old) (v_of old) (back_of old) pending → NoneUnder n.states (g_of old) (v_of old)
      → FitCount n.states (g_of old) (v_of old) count → count ≤ 2 ^ 30 → v_of old s < FAR → IsRelaxed n old new s k head
      → ((a j : ℕ) → pending' a j ≡ false → (pending a j ≡ false) ⊎ ((a ≡ s) × (j ≡ k)))
      → AreRelaxed n old new pending' count
  relaxed_kept pending' None sound labels kept under fit few near relaxed others =
      rw relaxed.0 (record {
        start = refl;
        states = refl;
        labels = labels;
        arcs = kept_next pending' s k kept others (λ t c arc _. relaxed.1 t c arc);
        none_under = under;
        same_v = λ u. refl;
        fits = fit;
      })
  relaxed_kept {new} pending' (Some t) sound labels kept under fit few near (c, by) others =
      let lowers = lowers_state t s k (v_of old s + c) by.changed in
      let small = sound.cost_fits s k c by.free.source by.free.number by.free.cost in
      let way = fit_small s c fit few by.free.source near small in
      record {
        start = by.changed.start;
        states = by.changed.states;
        labels = labels_lowered t s k (v_of old s + c) labels way by.apart by.changed;
        arcs =
            rw by.changed.start
            (kept_next pending' s k
            (kept_lowered s k t c kept by.free by.apart near (omega arith) by.lower lowers) others
            (λ u d arc near'.
            let same_head : Some t ≡ Some u = sym by.free.head ∙ arc.head in
            let same_cost : Some c ≡ Some d = sym by.free.cost ∙ arc.cost in
            let cost : c ≡ d = cc in
            let head : u ≡ t = cc in
            let lowered : g_of new u ≡ v_of old s + c = rw head lowers.lowered in
            omega (arith, lowers.same_v s)));
        none_under = none_under_lowered t s k (v_of old s + c) under by.lower lowers;
        same_v = lowers.same_v;
        fits = fit_lowered t s k c fit by.free.source near small lowers;
      }

-- the judgement of an arc comes back
pub posting_kept : {q : Query} {old new : Frontier} (leg : Leg) (cost : Option ℕ) → IsSound q.network → IsKept q old
    → IsPosting q.network old leg cost new → IsKept q new
posting_kept {q} {old} {new} leg cost sound kept posting =
    let fewer : (s k : ℕ) → times_due new s k + one_at leg.state leg.arc s k ≡ times_due old s k =
    λ s k.
    let ready : times_ready new.ready s k ≡ times_ready old.ready s k =
    ap (λ arcs. times_ready arcs s k) posting.ready in
    let out : times_out new.out s k ≡ times_out (without leg.ticket old.out) s k =
    ap (λ legs. times_out legs s k) posting.out in
    omega (arith, out_without old.out leg kept.tickets_differ posting.was_out s k)
    in
    let out = out_has old.out leg posting.was_out in
    let of = kept.of_opened leg.state leg.arc (due_from_some (times_due old leg.state leg.arc) (omega arith)) in
    let relaxed =
    relaxed_kept leg.state leg.arc (is_due new) posting.head sound kept.labels kept.arcs kept.none_under
    kept.fits kept.counts.within_run
    (kept.bounded.near leg.state of.opened)
    posting.relaxed
    (λ a j idle.
    let none = none_from_idle (times_due new a j) idle in
    ⊎_elim
    (λ (own : 0 < one_at leg.state leg.arc a j).
    let same = same_from_one leg.state leg.arc a j own in inr (sym same.0, sym same.1))
    (λ (other : one_at leg.state leg.arc a j ≤ 0). inl (idle_from_none (times_due old a j) (omega (arith, fewer a j))))
    (cases_lt 0 (one_at leg.state leg.arc a j)))
    in
    record {
      states = relaxed.states ∙ kept.states;
      marks = rw posting.opened kept.marks;
      labels = relaxed.labels;
      arcs = relaxed.arcs;
      none_under = relaxed.none_under;
      bounded = bounded_same q old new relaxed.start relaxed.same_v posting.opened kept.bounded;
      of_opened = of_opened_same q.network old new posting.opened (λ s k. omega (arith, fewer s k)) kept.of_opened;
      once = λ s k. omega (arith, fewer s k, kept.once s k);
      tickets_differ = rw posting.out (AllPairs-filter Differ _ old.out kept.tickets_differ);
      below_next =
          rw (posting.out, posting.next) (All-filter _ (λ (l : Leg). l.ticket < old.next) old.out kept.below_next);
      counts = rw posting.counts kept.counts;
      fits = rw posting.counts relaxed.fits;
    }
