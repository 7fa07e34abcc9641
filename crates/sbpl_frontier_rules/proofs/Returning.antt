-- The arcs that were handed out, and those whose judgement came back.
use Rattle.std.proofs.Common.{◌≡◌, ◌+◌, List, [], ◌∷◌, length, arith, refl, ap, length-append}
use Rattle.sbpl_serial.specs.sbpl_search.Query.{Query}
use Rattle.sbpl_frontier_rules.specs.declared.event.Event.{Event}
use Rattle.sbpl_frontier_rules.specs.declared.event.Event.TheVariants.{Opened, Taken, Posted}
use Rattle.sbpl_frontier_rules.specs.declared.leg.Leg.{Leg}
use Rattle.sbpl_frontier_rules.specs.Frontier.{Frontier}
use Rattle.sbpl_frontier_rules.specs.Events.{AreEvents, IsEvent}
use Rattle.sbpl_frontier_rules.specs.Journal.{is_posting, is_taking, posts_in, takes_in}
use Rattle.sbpl_frontier_rules.specs.Kept.{IsKept}
use Rattle.sbpl_frontier_rules.specs.Laws.{IsLawful, TakesComeBack}
use Rattle.sbpl_frontier_rules.proofs.First.{first_kept}
use Rattle.sbpl_frontier_rules.proofs.Legs.{fewer_without}
use Rattle.sbpl_frontier_rules.proofs.Replaying.{OpeningBounded, events_kept}

-- one event
event_back : (q : Query) (e : Event) (old new : Frontier) → IsKept q old → IsEvent q old e new
    → is_posting e + length new.out ≡ is_taking e + length old.out
event_back q (Opened s) old new kept opening = omega (arith, ap length opening.out)
event_back q (Taken ticket seat s k) old new kept taking =
    let leg : Leg = record { ticket = ticket; state = s; arc = k } in
    omega (arith, ap length taking.out, length-append old.out (leg ∷ []))
event_back q (Posted ticket cost) old new kept (leg, same, posting) =
    omega (arith, ap length posting.out, fewer_without old.out leg kept.tickets_differ posting.was_out)

module _ (bounded : OpeningBounded) where
  events_back : (q : Query) (events : List Event) (old new : Frontier) → IsLawful q → IsKept q old
      → AreEvents q events old new
      → posts_in events + length new.out ≡ takes_in events + length old.out
  events_back q [] old new lawful kept same = rw same refl
  events_back q (e ∷ rest) old new lawful kept (mid, event, further) =
      let mid_kept : IsKept q mid = events_kept bounded q (e ∷ []) old mid lawful (mid, event, refl) kept in
      omega (arith, event_back q e old mid kept event, events_back q rest mid new lawful mid_kept further)

  pub takes_come_back : TakesComeBack
  takes_come_back q m before events old new lawful begins first are =
      omega (
        arith,
        events_back q events old new lawful (first_kept q m before old begins first) are,
        ap length first.none_out,
      )
