-- What the events of a call do to what the values under the lock agree on.
use Rattle.std.proofs.Common.{◌≡◌, ℕ, ◌+◌, ◌<◌, Option, List, [], ◌∷◌, ◌++◌, map, length, arith, sym, ap}
use Rattle.std.proofs.Common.{refl, ◌∙◌, append-nil}
use Rattle.std.proofs.lemmas.List.{map-append}
use Rattle.std.proofs.lemmas.List.Elements.{All-push, filter-append}
use Rattle.sbpl_postings.specs.sbpl_claims.Standing.{Standing}
use Rattle.sbpl_postings.specs.sbpl_search.Query.{Query}
use Rattle.sbpl_postings.specs.sbpl_frontier_rules.declared.event.Event.{Event}
use Rattle.sbpl_postings.specs.sbpl_frontier_rules.declared.event.Event.TheVariants.{Opened, Taken, Posted}
use Rattle.sbpl_postings.specs.sbpl_frontier_rules.declared.leg.Leg.{Leg}
use Rattle.sbpl_postings.specs.sbpl_frontier_rules.Events.{IsPosting}
use Rattle.sbpl_postings.specs.sbpl_frontier_rules.Frontier.{without}
use Rattle.sbpl_postings.specs.sbpl_frontier_rules.Journal.{is_taking, posts_in, takes_in}
use Rattle.sbpl_postings.specs.sbpl_frontier_core.Answers.{AreOpenings, IsNextOpening, OpensTo}
use Rattle.sbpl_postings.specs.sbpl_frontier_core.Book.{Book}
use Rattle.sbpl_postings.specs.sbpl_frontier_core.Given.{IsHandedOut}
use Rattle.sbpl_postings.specs.sbpl_frontier_core.Seats.{IsTakenBelow}
use Rattle.sbpl_postings.specs.Drained.{Drained}
use Rattle.sbpl_postings.specs.Steps.{drained_with}
use Rattle.sbpl_postings.specs.declared.post.Post.{Post}
use Rattle.sbpl_frontier.specs.Come.{came_in, comes_back, event_of}
use Rattle.sbpl_frontier.specs.Tied.{AreTied}

-- ---- counts of a longer journal

takes_then : (events : List Event) (e : Event) → takes_in (events ++ e ∷ []) ≡ takes_in events + is_taking e
takes_then [] e = omega arith
takes_then (first ∷ rest) e = omega (arith, takes_then rest e)

came_then : (events : List Event) (e : Event) → came_in (events ++ e ∷ []) ≡ came_in events ++ came_in (e ∷ [])
came_then events e = filter-append comes_back events (e ∷ [])

-- how many judgements came back
pub count_came : (events : List Event) → length (came_in events) ≡ posts_in events
count_came [] = refl
count_came (Opened s ∷ rest) = omega (arith, count_came rest)
count_came (Taken ticket seat state arc ∷ rest) = omega (arith, count_came rest)
count_came (Posted ticket cost ∷ rest) = omega (arith, count_came rest)

-- ---- openings

opening_tied : {seats : ℕ} (q : Query) (s : ℕ) (old new : Book) (k : Standing) (taken : ℕ) (line : Drained)
    → IsNextOpening q old s new → AreTied old k taken line seats → AreTied new k taken line seats
opening_tied {seats} q s old new k taken line is tied = record {
  out = tied.out ∙ sym is.opening.out;
  next = tied.next ∙ sym is.opening.next;
  takes = omega (arith, ap takes_in is.journal, takes_then old.journal (Opened s), tied.takes);
  posts = ap came_in is.journal ∙ came_then old.journal (Opened s) ∙ append-nil (came_in old.journal) ∙ tied.posts;
  told = rw is.journal (All-push (IsTakenBelow seats) old.journal (Opened s) tied.told tt);
}

openings_tied : {seats : ℕ} (q : Query) (states : List ℕ) (old new : Book) (k : Standing) (taken : ℕ) (line : Drained)
    → AreOpenings q states old new → AreTied old k taken line seats → AreTied new k taken line seats
openings_tied q [] old new k taken line same tied = rw same tied
openings_tied q (s ∷ rest) old new k taken line (mid, is, further) tied =
    openings_tied q rest mid new k taken line further (opening_tied q s old mid k taken line is tied)

pub opens_tied : {seats : ℕ} (q : Query) (old new : Book) (k : Standing) (taken : ℕ) (line : Drained)
    → OpensTo q old new → AreTied old k taken line seats → AreTied new k taken line seats
opens_tied q old new k taken line (states, are) tied = openings_tied q states old new k taken line are tied

-- ---- an arc that is handed out

pub taken_tied : {seat : ℕ} {old new : Book} {number state arc taken : ℕ} {line : Drained} {seats : ℕ} (k l : Standing)
    → IsHandedOut seat old number state arc new → seat < seats
    → l.out ≡ k.out ++ (record { ticket = k.next; state = state; arc = arc }) ∷ [] → l.next ≡ k.next + 1
    → AreTied old k taken line seats → AreTied new l (taken + 1) line seats
taken_tied {seat} {old} {number} {state} {arc} {seats = seats} k l is below out next tied =
    let ticket : k.next ≡ number = tied.next ∙ sym is.taking.ticket in
    record {
      out = out ∙ (rw (tied.out, ticket) (sym is.taking.out));
      next = omega (arith, next, tied.next, is.taking.next);
      takes = omega (arith, ap takes_in is.journal, takes_then old.journal (Taken number seat state arc), tied.takes);
      posts =
          ap came_in is.journal ∙ came_then old.journal (Taken number seat state arc)
          ∙ append-nil (came_in old.journal) ∙ tied.posts;
      told =
          rw is.journal
          (All-push (IsTakenBelow seats) old.journal (Taken number seat state arc) tied.told below);
    }

-- ---- a judgement that comes back

pub posted_tied : {seats : ℕ} (q : Query) (old new : Book) (leg : Leg) (cost : Option ℕ) (post : Post) (k l : Standing)
    (taken : ℕ) (line : Drained)
    → IsPosting q.network old.frontier leg cost new.frontier
    → new.journal ≡ old.journal ++ Posted leg.ticket cost ∷ [] → leg.ticket ≡ post.ticket → cost ≡ post.cost
    → l.out ≡ without leg.ticket k.out → l.next ≡ k.next
    → AreTied old k taken line seats → AreTied new l taken (drained_with line post) seats
posted_tied {seats} q old new leg cost post k l taken line is journal ticket paid out next tied =
    let event : Posted leg.ticket cost ≡ event_of post = rw (ticket, paid) refl in
    record {
      out = out ∙ (rw tied.out (sym is.out));
      next = next ∙ tied.next ∙ sym is.next;
      takes = omega (arith, ap takes_in journal, takes_then old.journal (Posted leg.ticket cost), tied.takes);
      posts =
          ap came_in journal ∙ came_then old.journal (Posted leg.ticket cost)
          ∙ ap (λ (es : List Event). es ++ Posted leg.ticket cost ∷ []) tied.posts
          ∙ ap (λ (e : Event). map event_of line.came ++ e ∷ []) event
          ∙ sym (map-append event_of line.came (post ∷ []));
      told =
          rw journal (All-push (IsTakenBelow seats) old.journal (Posted leg.ticket cost) tied.told tt);
    }
