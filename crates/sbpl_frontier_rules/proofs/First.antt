-- A frontier at the beginning of a pass, and one that is idle.
use Rattle.std.proofs.Common.{◌≡◌, ℕ, arith, sym, refl, inl, ◌∙◌}
use Rattle.std.proofs.lemmas.Bool.{false≢true}
use Rattle.sbpl_serial.specs.sbpl_graph.Kept.{none_pending}
use Rattle.sbpl_serial.proofs.Keeping.{kept_from_exact, kept_used, exact_from_kept, supported_from_exact}
use Rattle.sbpl_frontier_rules.specs.Frontier.{Frontier, is_due, times_due}
use Rattle.sbpl_frontier_rules.specs.Events.{IsIdle}
use Rattle.sbpl_frontier_rules.specs.Laws.{FirstIsKept, IdleIsExact}
use Rattle.sbpl_frontier_rules.proofs.Counting.{idle_from_none, some_from_due}

-- where no arc is ready and none is out, none is due
pub none_due : (f : Frontier) → IsIdle f → (s k : ℕ) → times_due f s k ≡ 0
none_due f idle s k = rw (idle.none_ready, idle.none_out) refl

pub first_kept : FirstIsKept
first_kept q m counts f may first =
    let none = none_due f (record { none_ready = first.none_ready; none_out = first.none_out }) in
    record {
      states = rw first.labels may.ready.states;
      marks = first.marks ∙ may.ready.states;
      labels = rw first.labels may.labels;
      arcs = rw first.labels (kept_from_exact (is_due f) may.ready.exact);
      none_under = rw first.labels may.ready.none_under;
      bounded = record {
        near = λ x opened. absurd (false≢true (sym (first.none_opened x) ∙ opened));
        within = λ x arcs cost opened path. absurd (false≢true (sym (first.none_opened x) ∙ opened));
      };
      of_opened = λ s k due. let some = some_from_due (times_due f s k) due in absurd (omega (arith, none s k));
      once = λ s k. omega (arith, none s k);
      tickets_differ = rw first.none_out (λ i j d before inside. absurd (omega arith));
      below_next = rw first.none_out (λ i d inside. absurd (omega arith));
      counts = rw first.counts may.counts;
      fits = rw (first.labels, first.counts) may.ready.fits;
    }

pub idle_is_exact : IdleIsExact
idle_is_exact q f kept idle =
    let settled =
    kept_used none_pending kept.arcs
    (λ s k t c rest arc near. inl (idle_from_none (times_due f s k) (none_due f idle s k))) in
    let exact = exact_from_kept settled in (
      exact,
      supported_from_exact (λ s inside. kept.labels.labels s (omega (arith, kept.states))) exact,
    )
