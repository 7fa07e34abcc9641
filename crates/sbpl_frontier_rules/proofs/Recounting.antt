-- The counts of a frontier matter only where a state is opened.
use Rattle.std.proofs.Common.{◌≡◌, ℕ, ◌+◌, [], ◌∷◌, inl, refl, subst, arith}
use Rattle.sbpl_serial.specs.sbpl_labels.Counts.{Counts, HasLeft}
use Rattle.sbpl_serial.specs.sbpl_search.Query.{Query}
use Rattle.sbpl_frontier_rules.specs.declared.event.Event.{Event}
use Rattle.sbpl_frontier_rules.specs.declared.event.Event.TheVariants.{Opened, Taken, Posted}
use Rattle.sbpl_frontier_rules.specs.Events.{AreEvents, IsEvent, IsOpening}
use Rattle.sbpl_frontier_rules.specs.Frontier.{Frontier}
use Rattle.sbpl_frontier_rules.specs.Independent.{IsIndependent}
use Rattle.sbpl_frontier_rules.specs.Journal.{is_opening, openings}
use Rattle.sbpl_frontier_rules.specs.Passes.{CountsAreFree, HasRoom, counted_with}

abbrev with_counts : Frontier → Counts → Frontier
with_counts f counts = record f { counts = counts }

no_more : (c : Counts) → counted_with c 0 ≡ c
no_more c =
    let plan : c.plan + 0 ≡ c.plan = omega arith in
    let run : c.run + 0 ≡ c.run = omega arith in
    λ i. record c { plan = plan i; run = run i }

both_more : (c : Counts) (a b : ℕ) → counted_with (counted_with c a) b ≡ counted_with c (a + b)
both_more c a b =
    let plan : c.plan + a + b ≡ c.plan + (a + b) = omega arith in
    let run : c.run + a + b ≡ c.run + (a + b) = omega arith in
    λ i. record c { plan = plan i; run = run i }

independent_with : (q : Query) (f : Frontier) (c : Counts) (s : ℕ) → IsIndependent q f s
    → IsIndependent q (with_counts f c) s
independent_with q f c s is = record {
  of_busy = λ p busy. is.of_busy p (record { opened = busy.opened; arc = busy.arc; due = busy.due });
  of_earlier = is.of_earlier;
}

opening_with : (q : Query) (old new : Frontier) (s : ℕ) (c : Counts) → HasLeft c → IsOpening q old s new
    → IsOpening q (with_counts old c) s (with_counts new (counted_with c 1))
opening_with q old new s c left is = record {
  may = record {
    inside = is.may.inside;
    fresh = is.may.fresh;
    over = is.may.over;
    below_goal = is.may.below_goal;
    left = left;
    independent = independent_with q old c s is.may.independent;
  };
  settled = is.settled;
  opened = is.opened;
  ready = is.ready;
  counted = record { budget = refl; plan = refl; run = refl; time = inl refl };
  out = is.out;
  next = is.next;
}

event_with : (q : Query) (e : Event) (old new : Frontier) (c : Counts) → HasRoom c (is_opening e) → IsEvent q old e new
    → IsEvent q (with_counts old c) e (with_counts new (counted_with c (is_opening e)))
event_with q (Opened s) old new c room is =
    let p = room.of_plan in
    let r = room.of_run in
    let left : HasLeft c =
    record { of_plan = omega (arith, p); of_run = omega (arith, r); in_time = room.in_time } in
    opening_with q old new s c left is
event_with q (Taken ticket seat s k) old new c room is = record {
  before = is.before;
  after = is.after;
  was_ready = is.was_ready;
  ready = is.ready;
  ticket = is.ticket;
  out = is.out;
  next = is.next;
  labels = is.labels;
  opened = is.opened;
  counts = no_more c;
}
event_with q (Posted ticket cost) old new c room (leg, number, is) = (
  leg,
  number,
  record {
    was_out = is.was_out;
    judged = is.judged;
    head = is.head;
    relaxed = is.relaxed;
    out = is.out;
    ready = is.ready;
    next = is.next;
    opened = is.opened;
    counts = no_more c;
  },
)

pub counts_are_free : CountsAreFree
counts_are_free q [] old new c is room = λ i. with_counts (is i) (no_more c i)
counts_are_free q (e ∷ rest) old new c (mid, one, others) room =
    let p = room.of_plan in
    let r = room.of_run in
    let own : HasRoom c (is_opening e) = record { of_plan = omega (arith, p); of_run = omega (arith, r); in_time = room.in_time } in
    let left : HasRoom (counted_with c (is_opening e)) (openings rest) =
    record { of_plan = omega (arith, p); of_run = omega (arith, r); in_time = room.in_time } in
    let further = counts_are_free q rest mid new (counted_with c (is_opening e)) others left in (
      with_counts mid (counted_with c (is_opening e)),
      event_with q e old mid c own one,
      subst (λ (d : Counts). AreEvents q rest (with_counts mid (counted_with c (is_opening e))) (with_counts new d))
          (both_more c (is_opening e) (openings rest)) further,
    )
