-- Every list of events keeps a frontier.
use Rattle.std.proofs.Common.{ℕ, ◌*◌, ◌≤◌, List, [], ◌∷◌}
use Rattle.sbpl_serial.specs.sbpl_graph.Path.{IsFreePath}
use Rattle.sbpl_serial.specs.sbpl_labels.Marks.{g_of}
use Rattle.sbpl_serial.specs.sbpl_search.Query.{Query}
use Rattle.sbpl_frontier_rules.specs.declared.event.Event.{Event}
use Rattle.sbpl_frontier_rules.specs.declared.event.Event.TheVariants.{Opened, Taken, Posted}
use Rattle.sbpl_frontier_rules.specs.Frontier.{Frontier}
use Rattle.sbpl_frontier_rules.specs.Events.{IsEvent, MayOpen}
use Rattle.sbpl_frontier_rules.specs.Kept.{IsKept}
use Rattle.sbpl_frontier_rules.specs.Laws.{EventsKeep, IsLawful}
use Rattle.sbpl_frontier_rules.proofs.Opening.{opening_kept}
use Rattle.sbpl_frontier_rules.proofs.Posting.{posting_kept, taking_kept}

-- g of a state that may be opened is at most the inflation times the cost of every free path to it
abbrev pub OpeningBounded : Type 0
OpeningBounded = (q : Query) (f : Frontier) (s : ℕ) → IsLawful q → IsKept q f → MayOpen q f s
    → (arcs : List ℕ) (cost : ℕ) → IsFreePath q.network f.labels.start arcs s cost
    → 1000 * g_of f.labels s ≤ q.eps * cost

module _ (bounded : OpeningBounded) where
  event_kept : (q : Query) (e : Event) (old new : Frontier) → IsLawful q → IsEvent q old e new
      → IsKept q old → IsKept q new
  event_kept q (Opened s) old new lawful opening kept =
      opening_kept kept opening (bounded q old s lawful kept opening.may)
  event_kept q (Taken ticket seat s k) old new lawful taking kept = taking_kept kept taking
  event_kept q (Posted ticket cost) old new lawful (leg, same, posting) kept =
      posting_kept leg cost lawful.sound kept posting

  pub events_kept : EventsKeep
  events_kept q [] old new lawful same kept = rw same kept
  events_kept q (e ∷ rest) old new lawful (mid, event, further) kept =
      events_kept q rest mid new lawful further (event_kept q e old mid lawful event kept)
