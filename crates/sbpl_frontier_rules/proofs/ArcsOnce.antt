-- What a list of events hands out: each arc of a state at most once.
use Rattle.std.proofs.Common.{◌≡◌, ◌≢◌, ℕ, ◌+◌, ◌<◌, ◌≤◌, Bool, true, false, cond, List, [], ◌∷◌, length, arith}
use Rattle.std.proofs.Common.{⊎_elim, sym, ap, ◌∙◌}
use Rattle.std.proofs.lemmas.Bool.{cases_eq, cases_lt}
use Rattle.std.proofs.lemmas.List.{length-set}
use Rattle.sbpl_serial.specs.sbpl_labels.Marks.{states_of}
use Rattle.sbpl_serial.specs.sbpl_search.Query.{Query}
use Rattle.sbpl_serial.specs.Marked.{closed_at}
use Rattle.sbpl_frontier_rules.specs.declared.event.Event.{Event}
use Rattle.sbpl_frontier_rules.specs.declared.event.Event.TheVariants.{Opened, Taken, Posted}
use Rattle.sbpl_frontier_rules.specs.declared.leg.Leg.{Leg}
use Rattle.sbpl_frontier_rules.specs.Frontier.{Frontier, arcs_of, is_opened, times_ready}
use Rattle.sbpl_frontier_rules.specs.Events.{AreEvents, IsOpening, IsTaking}
use Rattle.sbpl_frontier_rules.specs.Journal.{handed_out_times}
use Rattle.sbpl_frontier_rules.specs.Laws.{EachArcGoesOnce}
use Rattle.sbpl_frontier_rules.proofs.Counting.{arc_below, arcs_below_few, one_at, ready_append}
use Rattle.sbpl_frontier_rules.proofs.Once.{relaxed_same}
use Rattle.sbpl_frontier_rules.proofs.Opening.{opened_else, opened_here}

-- 1 while a state was not opened: then its arcs may become ready once more
abbrev may_come : Bool → ℕ
may_come opened = cond opened 0 1

may_come_few : (opened : Bool) → may_come opened ≤ 1
may_come_few true = omega arith
may_come_few false = omega arith

module _ (q : Query) (s k : ℕ) where
  -- how often arc k of s may still be handed out
  abbrev left_of : Frontier → ℕ
  left_of f = times_ready f.ready s k + may_come (is_opened f s)

  opening_left : (u : ℕ) (old mid : Frontier) → u < length old.opened → IsOpening q old u mid → left_of mid ≤ left_of old
  opening_left u old mid inside opening =
      let ready : times_ready mid.ready s k ≡ times_ready old.ready s k + times_ready (arcs_of q.network u) s k =
      ap (λ arcs. times_ready arcs s k) opening.ready ∙ ready_append old.ready (arcs_of q.network u) s k in
      ⊎_elim
      (λ (at : s ≡ u).
      let was : is_opened old s ≡ false = rw at opening.may.fresh in
      let now : is_opened mid s ≡ true = rw at (opened_here old.opened mid.opened u inside opening.opened) in
      omega (arith, ready, arcs_below_few q.network u (q.network.fan u) s k, ap may_come was, ap may_come now))
      (λ (apart : s ≢ u).
      let same : is_opened mid s ≡ is_opened old s = opened_else old.opened mid.opened u s opening.opened apart in
      ⊎_elim
      (λ (some : 0 < times_ready (arcs_of q.network u) s k).
      absurd (apart (arc_below q.network u (q.network.fan u) s k some).state))
      (λ (none : times_ready (arcs_of q.network u) s k ≤ 0). omega (arith, ready, ap may_come same))
      (cases_lt 0 (times_ready (arcs_of q.network u) s k)))
      (cases_eq s u)

  taking_left : (leg : Leg) (old mid : Frontier) → IsTaking old leg mid
      → one_at leg.state leg.arc s k + left_of mid ≡ left_of old
  taking_left leg old mid taking =
      let was : times_ready old.ready s k
      ≡ times_ready taking.before s k + (one_at leg.state leg.arc s k + times_ready taking.after s k) =
      ap (λ arcs. times_ready arcs s k) taking.was_ready ∙ ready_append taking.before ((leg.state, leg.arc) ∷ taking.after) s k in
      let now : times_ready mid.ready s k ≡ times_ready taking.before s k + times_ready taking.after s k =
      ap (λ arcs. times_ready arcs s k) taking.ready ∙ ready_append taking.before taking.after s k in
      omega (arith, was, now, ap (λ marks. may_come (closed_at marks s)) taking.opened)

  all_left : (events : List Event) (old new : Frontier) → length old.opened ≡ states_of old.labels
      → AreEvents q events old new → handed_out_times s k events + left_of new ≤ left_of old
  all_left [] old new marks same = rw same (omega arith)
  all_left (Opened u ∷ rest) old new marks (mid, opening, further) =
      let marks' : length mid.opened ≡ states_of mid.labels =
      ap length opening.opened ∙ length-set old.opened u true ∙ marks ∙ sym opening.settled.states in
      omega (
        arith,
        opening_left u old mid (omega (arith, opening.may.inside)) opening,
        all_left rest mid new marks' further,
      )
  all_left (Taken ticket seat a j ∷ rest) old new marks (mid, taking, further) =
      let leg : Leg = record { ticket = ticket; state = a; arc = j } in
      let marks' : length mid.opened ≡ states_of mid.labels =
      ap length taking.opened ∙ marks ∙ sym (ap states_of taking.labels) in
      omega (arith, taking_left leg old mid taking, all_left rest mid new marks' further)
  all_left (Posted ticket cost ∷ rest) old new marks (mid, (leg, same, posting), further) =
      let labels = relaxed_same q.network old.labels mid.labels leg.state leg.arc posting.head posting.relaxed in
      let marks' : length mid.opened ≡ states_of mid.labels = ap length posting.opened ∙ marks ∙ sym labels.1 in
      omega (
        arith,
        ap (λ arcs. times_ready arcs s k) posting.ready,
        ap (λ marks. may_come (closed_at marks s)) posting.opened,
        all_left rest mid new marks' further,
      )

pub each_arc_goes_once : EachArcGoesOnce
each_arc_goes_once q m before events old new first run s k =
    omega (
      arith,
      all_left q s k events old new (first.marks ∙ sym (ap states_of first.labels)) run,
      ap (λ arcs. times_ready arcs s k) first.none_ready,
      may_come_few (is_opened old s),
    )
