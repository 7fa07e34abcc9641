-- One more event at the end of a journal, and what is kept at each moment.
use Rattle.std.proofs.Common.{◌≡◌, ◌≢◌, ℕ, zero, suc, ◌+◌, ◌<◌, ◌≤◌, true, not, nat_eq, List, [], ◌∷◌, ◌++◌, length}
use Rattle.std.proofs.Common.{slice_index_or, arith, ⊎_elim, refl, ◌∙◌, ap, subst}
use Rattle.std.specs.List.{All, Contains}
use Rattle.std.proofs.lemmas.Bool.{cases_eq, eq-eqb, ne_eqb}
use Rattle.std.proofs.lemmas.Bool.Decides.{nat_tests}
use Rattle.std.proofs.lemmas.List.Elements.{Contains-get_or}
use Rattle.sbpl_frontier_rules.specs.sbpl_labels.Counts.{Counts}
use Rattle.sbpl_frontier_rules.specs.sbpl_labels.Marks.{Marks, states_of}
use Rattle.sbpl_frontier_rules.specs.sbpl_search.Query.{Query}
use Rattle.sbpl_frontier_rules.specs.declared.event.Event.{Event}
use Rattle.sbpl_frontier_rules.specs.declared.leg.Leg.{Leg}
use Rattle.sbpl_frontier_rules.specs.Events.{AreEvents, IsEvent}
use Rattle.sbpl_frontier_rules.specs.Frontier.{Frontier, is_due, times_due, times_out, without}
use Rattle.sbpl_frontier_rules.specs.Kept.{IsKept, IsOfOpened}
use Rattle.sbpl_frontier_rules.specs.Laws.{EventsKeep, FirstIsKept, IsLawful, MayBegin}
use Rattle.sbpl_frontier_core.specs.Book.{IsReplay}

-- one more event
pub events_push : (q : Query) (events : List Event) (event : Event) (old mid new : Frontier)
    → AreEvents q events old mid
    → IsEvent q mid event new → AreEvents q (events ++ event ∷ []) old new
events_push q [] event old mid new before next =
    (new, subst (λ (f : Frontier). IsEvent q f event new) before next, refl)
events_push q (first ∷ rest) event old mid new before next =
    (before.0, before.1, events_push q rest event before.0 mid new before.2 next)

pub replay_push : {q : Query} {opening : Marks} {counts : Counts} {events : List Event} {f f' : Frontier}
    (event : Event) (events' : List Event)
    → IsReplay q opening counts events f → IsEvent q f event f' → events' ≡ events ++ event ∷ []
    → IsReplay q opening counts events' f'
replay_push {q} {events = events} {f = f} {f' = f'} event events' replay next pushed =
    rw pushed (record {
      first = replay.first;
      begins = replay.begins;
      leads = events_push q events event replay.first f f' replay.leads next;
    })

-- the laws of the events hold at each moment of a pass
pub kept_by_replay : {q : Query} {opening : Marks} {counts : Counts} {events : List Event} {f : Frontier} → FirstIsKept
    → EventsKeep → IsLawful q
    → MayBegin q opening counts → IsReplay q opening counts events f → IsKept q f
kept_by_replay {q} {opening} {counts} {events} {f} first each lawful may replay =
    each q events replay.first f lawful replay.leads (first q opening counts replay.first may replay.begins)

-- an arc that is out counts
times_of : (out : List Leg) (leg : Leg) → Contains out leg → 1 ≤ times_out out leg.state leg.arc
times_of [] leg among = absurd (omega (arith, among.1))
times_of (first ∷ rest) leg (zero, inside, same) =
    let state : first.state ≡ leg.state = ap (λ (l : Leg). l.state) same in
    let arc : first.arc ≡ leg.arc = ap (λ (l : Leg). l.arc) same in
    grind (arith, nat_tests)
times_of (first ∷ rest) leg (suc k, inside, same) = omega (arith, times_of rest leg (k, omega arith, same))

-- and what counts is out
pub leg_of_times : (out : List Leg) (s k : ℕ) → (times_out out s k ≡ 0 → ⊥)
    → (leg : Leg) × Contains out leg × (leg.state ≡ s)
leg_of_times [] s k some = absurd (some refl)
leg_of_times (first ∷ rest) s k some =
    ⊎_elim
    (λ (at : first.state ≡ s). (first, (0, omega arith, refl), at))
    (λ (apart : first.state ≢ s).
    let skipped : times_out (first ∷ rest) s k ≡ times_out rest s k = grind (arith, nat_tests) in
    let later = leg_of_times rest s k (λ none. some (skipped ∙ none)) in
    (later.0, (suc later.1.0, omega (arith, later.1.1), later.1.2), later.2))
    (cases_eq first.state s)

-- an arc that is out is due, and is of an opened state
pub due_out : (f : Frontier) (leg : Leg) → Contains f.out leg → is_due f leg.state leg.arc ≡ true
due_out f leg among =
    let some = times_of f.out leg among in
    let apart : times_due f leg.state leg.arc ≢ 0 = λ none. omega arith in
    ap not (ne_eqb (times_due f leg.state leg.arc) 0 apart)

pub opened_out : {q : Query} {f : Frontier} (leg : Leg) → IsKept q f → Contains f.out leg
    → IsOfOpened q.network f leg.state leg.arc
opened_out {f = f} leg kept among = kept.of_opened leg.state leg.arc (due_out f leg among)

pub states_out : {q : Query} {f : Frontier} → IsKept q f → All (λ (leg : Leg). leg.state < states_of f.labels) f.out
states_out {q} {f} kept = λ k d inside.
    let at = opened_out (slice_index_or f.out k d) kept (Contains-get_or f.out k d inside) in
    omega (arith, at.source, kept.states)

-- fewer are out once one is taken back
few_without : (ticket : ℕ) (out : List Leg) → length (without ticket out) ≤ length out
few_without ticket [] = omega arith
few_without ticket (first ∷ rest) = grind (arith, few_without ticket rest)

pub fewer_without : (out : List Leg) (leg : Leg) → Contains out leg → length (without leg.ticket out) + 1 ≤ length out
fewer_without [] leg among = absurd (omega (arith, among.1))
fewer_without (first ∷ rest) leg (zero, inside, same) =
    let ticket : nat_eq first.ticket leg.ticket ≡ true =
    eq-eqb first.ticket leg.ticket (ap (λ (l : Leg). l.ticket) same) in
    rw ticket (omega (arith, few_without leg.ticket rest))
fewer_without (first ∷ rest) leg (suc k, inside, same) =
    let later = fewer_without rest leg (k, omega arith, same) in
    grind (arith, few_without leg.ticket rest)
