-- The opened states of a frontier are those that its events opened.
use Rattle.std.proofs.Common.{◌≡◌, ◌≢◌, ℕ, ◌+◌, ◌<◌, Bool, true, false, ◌||◌, nat_lt, Option, Some, None, List, [], ◌∷◌}
use Rattle.std.proofs.Common.{length, arith, ⊎_elim, refl, sym, ap, ◌∙◌}
use Rattle.std.proofs.lemmas.Bool.{cases_eq}
use Rattle.std.proofs.lemmas.Bool.Decides.{nat_tests}
use Rattle.std.proofs.lemmas.List.{get_or-set_other, get_or-set_same, length-set}
use Rattle.sbpl_serial.specs.sbpl_labels.Marks.{Marks, states_of}
use Rattle.sbpl_serial.specs.sbpl_search.Query.{Query}
use Rattle.sbpl_serial.specs.Marked.{closed_at}
use Rattle.sbpl_serial.specs.Relaxed.{IsRelaxed}
use Rattle.sbpl_serial.specs.sbpl_graph.Network.{Network}
use Rattle.sbpl_frontier_rules.specs.declared.event.Event.{Event}
use Rattle.sbpl_frontier_rules.specs.declared.event.Event.TheVariants.{Opened, Taken, Posted}
use Rattle.sbpl_frontier_rules.specs.Events.{AreEvents, IsEvent}
use Rattle.sbpl_frontier_rules.specs.Frontier.{Frontier, is_opened}
use Rattle.sbpl_frontier_rules.specs.Journal.{opened_times, opens}
use Rattle.sbpl_frontier_rules.specs.Passes.{OpenedByEvents, opened_by}

-- there is one mark for each state
abbrev AreSized : Frontier → Type 0
AreSized f = length f.opened ≡ states_of f.labels

same_states : (n : Network) (old new : Marks) (s k : ℕ) (head : Option ℕ) → IsRelaxed n old new s k head
    → states_of new ≡ states_of old
same_states n old new s k None is = ap states_of is.0
same_states n old new s k (Some t) is = is.1.changed.states

event_sized : (q : Query) (e : Event) (old new : Frontier) → IsEvent q old e new → AreSized old → AreSized new
event_sized q (Opened s) old new is sized =
    let lengths : length new.opened ≡ length old.opened = ap length is.opened ∙ length-set old.opened s true in
    let states = is.settled.states in omega (arith, lengths, states, sized)
event_sized q (Taken ticket seat s k) old new is sized = ap length is.opened ∙ sized ∙ sym (ap states_of is.labels)
event_sized q (Posted ticket cost) old new (leg, number, is) sized =
    ap length is.opened ∙ sized ∙ sym (same_states q.network old.labels new.labels leg.state leg.arc is.head is.relaxed)

more_opened : (a b : Bool) (count : ℕ) → a ≡ b → a || nat_lt 0 count ≡ b || nat_lt 0 (0 + count)
more_opened a b count same = let plain : 0 + count ≡ count = omega arith in rw (same, plain) refl

event_marks : (q : Query) (e : Event) (old new : Frontier) → IsEvent q old e new → AreSized old → (s count : ℕ)
    → is_opened new s || nat_lt 0 count ≡ is_opened old s || nat_lt 0 (opens s e + count)
event_marks q (Opened x) old new is sized s count =
    ⊎_elim
    (λ (at : x ≡ s).
    let inside : s < length old.opened = omega (arith, is.may.inside, sized, at) in
    let set : closed_at new.opened s ≡ true =
    ap (λ marks. closed_at marks s) is.opened ∙ rw at (get_or-set_same old.opened s true false inside) in
    let fresh : closed_at old.opened s ≡ false = rw (← at) is.may.fresh in
    rw (set, fresh) (grind (arith, nat_tests)))
    (λ (apart : x ≢ s).
    let kept : closed_at new.opened s ≡ closed_at old.opened s =
    ap (λ marks. closed_at marks s) is.opened ∙ get_or-set_other old.opened x s true false (λ e. apart (sym e)) in
    let none : opens s (Opened x) ≡ 0 = grind (arith, nat_tests) in
    let plain : opens s (Opened x) + count ≡ count = omega (arith, none) in
    rw (kept, plain) refl)
    (cases_eq x s)
event_marks q (Taken ticket seat x k) old new is sized s count =
    more_opened (is_opened new s) (is_opened old s) count (ap (λ marks. closed_at marks s) is.opened)
event_marks q (Posted ticket cost) old new (leg, number, is) sized s count =
    more_opened (is_opened new s) (is_opened old s) count (ap (λ marks. closed_at marks s) is.opened)

events_mark : (q : Query) (events : List Event) (old new : Frontier) → AreEvents q events old new
    → AreSized old → (s : ℕ)
    → is_opened new s ≡ is_opened old s || opened_by events s
events_mark q [] old new is sized s = ap (λ (f : Frontier). is_opened f s) is ∙ or_false (is_opened old s)
  where
    or_false : (b : Bool) → b ≡ b || nat_lt 0 0
    or_false true = refl
    or_false false = refl
events_mark q (e ∷ rest) old new (mid, one, others) sized s =
    events_mark q rest mid new others (event_sized q e old mid one sized) s
    ∙ event_marks q e old mid one sized s (opened_times s rest)

pub opened_by_events : OpenedByEvents
opened_by_events q m before events old new first is s =
    let sized : AreSized old = first.marks ∙ sym (ap states_of first.labels) in
    let none = first.none_opened s in
    events_mark q events old new is sized s ∙ rw none refl
