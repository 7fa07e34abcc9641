-- What events do to the start.
use Rattle.std.proofs.Common.{◌≡◌, ◌≢◌, ℕ, ◌⊎◌, Option, Some, None, List, [], ◌∷◌, ⊎_elim, inr, sym, ap, subst, ◌∙◌}
use Rattle.std.proofs.lemmas.Bool.{cases_eq}
use Rattle.sbpl_serial.specs.sbpl_graph.declared.TheConstants.{FAR}
use Rattle.sbpl_serial.specs.sbpl_graph.Network.{Network}
use Rattle.sbpl_serial.specs.sbpl_labels.declared.row.Row.{Row}
use Rattle.sbpl_serial.specs.sbpl_labels.Marks.{ChangesRow, Marks, g_of, row_at, v_of}
use Rattle.sbpl_serial.specs.sbpl_search.Query.{Query}
use Rattle.sbpl_serial.specs.sbpl_search.Ready.{IsStartFresh}
use Rattle.sbpl_serial.specs.Relaxed.{IsRelaxed}
use Rattle.sbpl_frontier_rules.specs.declared.event.Event.{Event}
use Rattle.sbpl_frontier_rules.specs.declared.event.Event.TheVariants.{Opened, Taken, Posted}
use Rattle.sbpl_frontier_rules.specs.Events.{AreEvents, IsEvent}
use Rattle.sbpl_frontier_rules.specs.Frontier.{Frontier}
use Rattle.sbpl_frontier_rules.specs.Passes.{StartStaysFresh}

-- g of the start is 0, and its v is infinite or 0
record IsAtStart (m : Marks) : Type 0 where
  from_start : g_of m m.start ≡ 0
  fresh : IsStartFresh m

at_same_row : (old new : Marks) → new.start ≡ old.start → row_at new old.start ≡ row_at old old.start
    → IsAtStart old → IsAtStart new
at_same_row old new start same is = record {
  from_start = ap (g_of new) start ∙ ap (λ (r : Row). r.g) same ∙ is.from_start;
  fresh = subst (λ (v : ℕ). (v ≡ FAR) ⊎ (v ≡ 0)) (sym (ap (v_of new) start ∙ ap (λ (r : Row). r.v) same)) is.fresh;
}

at_opened : (old new : Marks) (s : ℕ)
    → ChangesRow old new s (record { g = g_of old s; v = g_of old s; back = (row_at old s).back })
    → IsAtStart old → IsAtStart new
at_opened old new s changed is =
    ⊎_elim
    (λ (at : old.start ≡ s).
    let row : row_at new old.start ≡ record { g = g_of old s; v = g_of old s; back = (row_at old s).back } =
    ap (row_at new) at ∙ changed.at in
    let zero_g : g_of old s ≡ 0 = ap (g_of old) (sym at) ∙ is.from_start in
    record {
      from_start = ap (g_of new) changed.start ∙ ap (λ (r : Row). r.g) row ∙ zero_g;
      fresh = inr (ap (v_of new) changed.start ∙ ap (λ (r : Row). r.v) row ∙ zero_g);
    })
    (λ (apart : old.start ≢ s). at_same_row old new changed.start (changed.others old.start apart) is)
    (cases_eq old.start s)

at_relaxed : (n : Network) (old new : Marks) (s k : ℕ) (head : Option ℕ) → IsRelaxed n old new s k head
    → IsAtStart old → IsAtStart new
at_relaxed n old new s k None is start = subst IsAtStart (sym is.0) start
at_relaxed n old new s k (Some t) (c, lowers) start =
    at_same_row old new lowers.changed.start (lowers.changed.others old.start (λ e. lowers.apart (sym e))) start

at_event : (q : Query) (e : Event) (old new : Frontier) → IsEvent q old e new
    → IsAtStart old.labels → IsAtStart new.labels
at_event q (Opened s) old new is start = at_opened old.labels new.labels s is.settled start
at_event q (Taken ticket seat s k) old new is start = subst IsAtStart (sym is.labels) start
at_event q (Posted ticket cost) old new (leg, number, is) start =
    at_relaxed q.network old.labels new.labels leg.state leg.arc is.head is.relaxed start

at_events : (q : Query) (events : List Event) (old new : Frontier) → AreEvents q events old new
    → IsAtStart old.labels → IsAtStart new.labels
at_events q [] old new is start = subst (λ (f : Frontier). IsAtStart f.labels) (sym is) start
at_events q (e ∷ rest) old new (mid, one, others) start =
    at_events q rest mid new others (at_event q e old mid one start)

pub start_stays_fresh : StartStaysFresh
start_stays_fresh q events old new is from_start fresh =
    (at_events q events old new is (record { from_start = from_start; fresh = fresh })).fresh
