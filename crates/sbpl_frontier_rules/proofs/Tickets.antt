-- Each ticket is taken at most once, and its judgement comes back after that, at most once.
use Rattle.std.proofs.Common.{◌≡◌, ◌≢◌, ℕ, zero, suc, ◌+◌, ◌<◌, ◌≤◌, ◌⊎◌, nat_eq, cond, Option, List, [], ◌∷◌, ◌++◌}
use Rattle.std.proofs.Common.{arith, ⊎_elim, inl, inr, refl, subst, sym, ap, ◌∙◌}
use Rattle.std.specs.List.{Contains}
use Rattle.std.proofs.lemmas.Bool.{cases_eq, cases_lt, eq-eqb, ne_eqb}
use Rattle.std.proofs.lemmas.List.Elements.{Contains-push_cases}
use Rattle.sbpl_serial.specs.sbpl_search.Query.{Query}
use Rattle.sbpl_frontier_rules.specs.declared.event.Event.{Event}
use Rattle.sbpl_frontier_rules.specs.declared.event.Event.TheVariants.{Opened, Taken, Posted}
use Rattle.sbpl_frontier_rules.specs.declared.leg.Leg.{Leg}
use Rattle.sbpl_frontier_rules.specs.Frontier.{Frontier, without}
use Rattle.sbpl_frontier_rules.specs.Events.{AreEvents, IsEvent, IsPosting, IsTaking}
use Rattle.sbpl_frontier_rules.specs.Journal.{posted_times, taken_times}
use Rattle.sbpl_frontier_rules.specs.Laws.{TicketsGoOnce, WasTaken}

-- 1 where two numbers are the same, and 0 where they are not
abbrev one_of : (a n : ℕ) → ℕ
one_of a n = cond (nat_eq a n) 1 0

one_same : (a n : ℕ) → a ≡ n → one_of a n ≡ 1
one_same a n same = rw (eq-eqb a n same) refl

one_other : (a n : ℕ) → a ≢ n → one_of a n ≡ 0
one_other a n apart = rw (ne_eqb a n apart) refl

-- how often a ticket is among those that are out
abbrev times_of : ℕ → List Leg → ℕ
times_of n [] = 0
times_of n (leg ∷ rest) = one_of leg.ticket n + times_of n rest

times_append : (xs ys : List Leg) (n : ℕ) → times_of n (xs ++ ys) ≡ times_of n xs + times_of n ys
times_append [] ys n = omega arith
times_append (leg ∷ rest) ys n = omega (arith, times_append rest ys n)

times_has : (legs : List Leg) (leg : Leg) → Contains legs leg → 1 ≤ times_of leg.ticket legs
times_has [] leg (place, inside, at) = absurd (omega arith)
times_has (first ∷ rest) leg (zero, inside, at) =
    let same : first.ticket ≡ leg.ticket = ap (λ (l : Leg). l.ticket) at in
    omega (arith, one_same first.ticket leg.ticket same)
times_has (first ∷ rest) leg (suc place, inside, at) = omega (arith, times_has rest leg (place, omega arith, at))

-- without a ticket it is not among them, and each other is as often
without_it : (legs : List Leg) (ticket : ℕ) → times_of ticket (without ticket legs) ≡ 0
without_it [] ticket = refl
without_it (leg ∷ rest) ticket =
    ⊎_elim
    (λ (same : leg.ticket ≡ ticket). rw (eq-eqb leg.ticket ticket same) (without_it rest ticket))
    (λ (apart : leg.ticket ≢ ticket).
    rw (ne_eqb leg.ticket ticket apart) (omega (arith, one_other leg.ticket ticket apart, without_it rest ticket)))
    (cases_eq leg.ticket ticket)

without_other : (legs : List Leg) (ticket n : ℕ) → ticket ≢ n → times_of n (without ticket legs) ≡ times_of n legs
without_other [] ticket n other = refl
without_other (leg ∷ rest) ticket n other =
    ⊎_elim
    (λ (same : leg.ticket ≡ ticket).
    let apart : leg.ticket ≢ n = λ at. other (sym same ∙ at) in
    rw (eq-eqb leg.ticket ticket same) (omega (arith, one_other leg.ticket n apart, without_other rest ticket n other)))
    (λ (apart : leg.ticket ≢ ticket).
    rw (ne_eqb leg.ticket ticket apart) (omega (arith, without_other rest ticket n other)))
    (cases_eq leg.ticket ticket)

-- an element of a list, and of one that is longer by one
contains_more : {X : Type 0} (x : X) (xs : List X) (y : X) → Contains xs y → Contains (x ∷ xs) y
contains_more x xs y (place, inside, at) = (suc place, omega arith, at)

contains_cases : {X : Type 0} (x : X) (xs : List X) (y : X) → Contains (x ∷ xs) y → (x ≡ y) ⊎ Contains xs y
contains_cases x xs y (zero, inside, at) = inl at
contains_cases x xs y (suc place, inside, at) = inr (place, omega arith, at)

contains_without : (legs : List Leg) (ticket : ℕ) (leg : Leg) → Contains (without ticket legs) leg → Contains legs leg
contains_without [] ticket leg has = has
contains_without (first ∷ rest) ticket leg has =
    ⊎_elim
    (λ (same : first.ticket ≡ ticket).
    let inner : Contains (without ticket rest) leg = rw (eq-eqb first.ticket ticket same) at has in
    contains_more first rest leg (contains_without rest ticket leg inner))
    (λ (apart : first.ticket ≢ ticket).
    let inner : Contains (first ∷ without ticket rest) leg = rw (ne_eqb first.ticket ticket apart) at has in
    ⊎_elim
    (λ (at : first ≡ leg). (0, omega arith, at))
    (λ (later : Contains (without ticket rest) leg).
    contains_more first rest leg (contains_without rest ticket leg later))
    (contains_cases first (without ticket rest) leg inner))
    (cases_eq first.ticket ticket)

-- no ticket is out twice, and those that are out are below the next one
record AreNumbered (f : Frontier) : Type 0 where
  once : (n : ℕ) → times_of n f.out ≤ 1
  below : (n : ℕ) → f.next ≤ n → times_of n f.out ≡ 0

-- what an event does to how often a ticket is out
taken_out : (old new : Frontier) (leg : Leg) → IsTaking old leg new → (n : ℕ)
    → times_of n new.out ≡ times_of n old.out + one_of leg.ticket n
taken_out old new leg taking n = omega (arith, ap (times_of n) taking.out, times_append old.out (leg ∷ []) n)

posted_out : (q : Query) (old new : Frontier) (leg : Leg) (cost : Option ℕ) → AreNumbered old
    → IsPosting q.network old leg cost new → (n : ℕ)
    → times_of n new.out + one_of leg.ticket n ≡ times_of n old.out
posted_out q old new leg cost numbered posting n =
    ⊎_elim
    (λ (same : leg.ticket ≡ n).
    let none : times_of n new.out ≡ 0 =
    ap (times_of n) posting.out ∙ ap (λ t. times_of n (without t old.out)) same ∙ without_it old.out n in
    let some : 1 ≤ times_of n old.out = rw (← same) (times_has old.out leg posting.was_out) in
    omega (arith, none, some, one_same leg.ticket n same, numbered.once n))
    (λ (apart : leg.ticket ≢ n).
    omega (arith, ap (times_of n) posting.out, without_other old.out leg.ticket n apart, one_other leg.ticket n apart))
    (cases_eq leg.ticket n)

event_numbered : (q : Query) (e : Event) (old new : Frontier) → IsEvent q old e new → AreNumbered old → AreNumbered new
event_numbered q (Opened s) old new opening numbered =
    record {
      once = λ n. omega (arith, ap (times_of n) opening.out, numbered.once n);
      below = λ n from. omega (arith, ap (times_of n) opening.out, numbered.below n (omega (arith, opening.next)));
    }
event_numbered q (Taken ticket seat s k) old new taking numbered =
    let leg : Leg = record { ticket = ticket; state = s; arc = k } in
    record {
      once = λ n.
          ⊎_elim
          (λ (same : ticket ≡ n).
          omega (
            arith,
            taken_out old new leg taking n,
            one_same ticket n same,
            numbered.below n (omega (arith, taking.ticket)),
          ))
          (λ (apart : ticket ≢ n).
          omega (arith, taken_out old new leg taking n, one_other ticket n apart, numbered.once n))
          (cases_eq ticket n);
      below = λ n from.
          let apart : ticket ≢ n = λ same. absurd (omega (arith, taking.ticket, taking.next)) in
          omega (
            arith,
            taken_out old new leg taking n,
            one_other ticket n apart,
            numbered.below n (omega (arith, taking.next)),
          );
    }
event_numbered q (Posted ticket cost) old new (leg, same, posting) numbered =
    record {
      once = λ n. omega (arith, posted_out q old new leg cost numbered posting n, numbered.once n);
      below = λ n from. omega (
        arith,
        posted_out q old new leg cost numbered posting n,
        numbered.below n (omega (arith, posting.next)),
      );
    }

-- what events do with tickets, from one frontier to another
record Tickets (events : List Event) (old new : Frontier) : Type 0 where
  back : (n : ℕ) → posted_times n events + times_of n new.out ≡ taken_times n events + times_of n old.out
  once : (n : ℕ) → taken_times n events + times_of n old.out ≤ 1
  fresh : (n : ℕ) → n < old.next → taken_times n events ≡ 0

events_tickets : (q : Query) (events : List Event) (old new : Frontier) → AreNumbered old → AreEvents q events old new
    → Tickets events old new
events_tickets q [] old new numbered same =
    record {
      back = λ n. omega (arith, ap (λ (f : Frontier). times_of n f.out) same);
      once = λ n. omega (arith, numbered.once n);
      fresh = λ n below. refl;
    }
events_tickets q (Opened s ∷ rest) old new numbered (mid, opening, further) =
    let later = events_tickets q rest mid new (event_numbered q (Opened s) old mid opening numbered) further in
    record {
      back = λ n. omega (arith, ap (times_of n) opening.out, later.back n);
      once = λ n. omega (arith, ap (times_of n) opening.out, later.once n);
      fresh = λ n below. omega (arith, later.fresh n (omega (arith, opening.next)));
    }
events_tickets q (Taken ticket seat s k ∷ rest) old new numbered (mid, taking, further) =
    let leg : Leg = record { ticket = ticket; state = s; arc = k } in
    let later =
    events_tickets q rest mid new (event_numbered q (Taken ticket seat s k) old mid taking numbered) further in
    record {
      back = λ n. omega (arith, taken_out old mid leg taking n, later.back n);
      once = λ n. omega (arith, taken_out old mid leg taking n, later.once n);
      fresh = λ n below.
          let apart : ticket ≢ n = λ same. absurd (omega (arith, taking.ticket)) in
          omega (arith, one_other ticket n apart, later.fresh n (omega (arith, taking.next)));
    }
events_tickets q (Posted ticket cost ∷ rest) old new numbered (mid, (leg, same, posting), further) =
    let later =
    events_tickets q rest mid new
    (event_numbered q (Posted ticket cost) old mid (leg, same, posting) numbered) further in
    let out : (n : ℕ) → times_of n mid.out + one_of ticket n ≡ times_of n old.out =
    λ n. rw (← same) (posted_out q old mid leg cost numbered posting n) in
    record {
      back = λ n. omega (arith, out n, later.back n);
      once = λ n.
          ⊎_elim
          (λ (below : n < old.next). omega (arith, later.fresh n (omega (arith, posting.next)), numbered.once n))
          (λ (at : old.next ≤ n). omega (arith, numbered.below n at, out n, later.once n))
          (cases_lt n old.next);
      fresh = λ n below. omega (arith, later.fresh n (omega (arith, posting.next)));
    }

-- an arc that is out was out before, or these events handed it out
abbrev TookIt : List Event → Leg → Type 0
TookIt events leg = (seat : ℕ) × Contains events (Taken leg.ticket seat leg.state leg.arc)

event_took : (q : Query) (e : Event) (rest : List Event) (old new : Frontier) → IsEvent q old e new
    → (leg : Leg) → Contains new.out leg
    → Contains old.out leg ⊎ TookIt (e ∷ rest) leg
event_took q (Opened s) rest old new opening leg has = inl (rw opening.out at has)
event_took q (Taken ticket seat s k) rest old new taking leg has =
    let own : Leg = record { ticket = ticket; state = s; arc = k } in
    ⊎_elim
    (λ (earlier : Contains old.out leg). inl earlier)
    (λ (at : own ≡ leg). inr (seat, (0, omega arith, ap (λ (l : Leg). Taken l.ticket seat l.state l.arc) at)))
    (Contains-push_cases old.out own leg (rw taking.out at has))
event_took q (Posted ticket cost) rest old new (own, same, posting) leg has =
    inl (contains_without old.out own.ticket leg (rw posting.out at has))

events_took : (q : Query) (events : List Event) (old new : Frontier) → AreEvents q events old new
    → (leg : Leg) → Contains new.out leg
    → Contains old.out leg ⊎ TookIt events leg
events_took q [] old new same leg has = inl (rw same at has)
events_took q (e ∷ rest) old new (mid, event, further) leg has =
    ⊎_elim
    (λ (earlier : Contains mid.out leg). event_took q e rest old mid event leg earlier)
    (λ (later : TookIt rest leg).
    inr (later.0, contains_more e rest (Taken leg.ticket later.0 leg.state leg.arc) later.1))
    (events_took q rest mid new further leg has)

-- events in two parts
events_split : (q : Query) (before after : List Event) (old new : Frontier) → AreEvents q (before ++ after) old new
    → (mid : Frontier) × AreEvents q before old mid × AreEvents q after mid new
events_split q [] after old new are = (old, refl, are)
events_split q (e ∷ rest) after old new (next, event, further) =
    let parts = events_split q rest after next new further in
    (parts.0, (next, event, parts.1), parts.2)

first_numbered : (old : Frontier) → old.out ≡ [] → AreNumbered old
first_numbered old none =
    record {
      once = λ n. omega (arith, ap (times_of n) none);
      below = λ n from. ap (times_of n) none;
    }

-- a judgement that comes back after these events
record IsFirstPost (q : Query) (before : List Event) (ticket : ℕ) (cost : Option ℕ) : Type 0 where
  was : WasTaken q.network before ticket cost
  fresh : posted_times ticket before ≡ 0

post_after : (q : Query) (before : List Event) (cost : Option ℕ) (old mid new : Frontier) (leg : Leg) → old.out ≡ []
    → AreEvents q before old mid
    → IsPosting q.network mid leg cost new → IsFirstPost q before leg.ticket cost
post_after q before cost old mid new leg none are posting =
    let tickets = events_tickets q before old mid (first_numbered old none) are in
    ⊎_elim
    (λ (earlier : Contains old.out leg).
    let inside : Contains [] leg = rw none at earlier in absurd (omega (arith, inside.1)))
    (λ (took : TookIt before leg).
    record {
      was = record { seat = took.0; state = leg.state; arc = leg.arc; taken = took.1; judged = posting.judged };
      fresh = omega (
        arith,
        times_has mid.out leg posting.was_out,
        tickets.back leg.ticket,
        tickets.once leg.ticket,
        ap (times_of leg.ticket) none,
      );
    })
    (events_took q before old mid are leg posting.was_out)

first_post : (q : Query) (before after : List Event) (ticket : ℕ) (cost : Option ℕ) (old new : Frontier) → old.out ≡ []
    → AreEvents q (before ++ Posted ticket cost ∷ after) old new → IsFirstPost q before ticket cost
first_post q before after ticket cost old new none are =
    let parts = events_split q before (Posted ticket cost ∷ after) old new are in
    let event = parts.2.1 in
    subst (λ n. IsFirstPost q before n cost) event.1
    (post_after q before cost old parts.0 parts.2.0 event.0 none parts.1 event.2)

pub tickets_go_once : TicketsGoOnce
tickets_go_once q m before events old new first are =
    let tickets = events_tickets q events old new (first_numbered old first.none_out) are in
    let here : (n : ℕ) → times_of n old.out ≡ 0 = λ n. ap (times_of n) first.none_out in
    record {
      taken = λ n. omega (arith, tickets.once n, here n);
      posted = λ n. omega (arith, tickets.back n, here n);
      earlier =
          λ begin rest ticket cost is. (first_post q begin rest ticket cost old new first.none_out (rw is at are)).was;
      fresh = λ begin rest ticket cost is.
          (first_post q begin rest ticket cost old new first.none_out (rw is at are)).fresh;
    }
