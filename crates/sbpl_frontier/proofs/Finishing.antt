-- What is known once all seats are back and the line is empty.
use Rattle.std.proofs.Common.{◌≡◌, ℕ, ◌+◌, ◌≤◌, List, [], ◌∷◌, ◌++◌, map, length, sum_by, arith, sym, ap}
use Rattle.std.proofs.Common.{subst, ◌∙◌, append-nil}
use Rattle.std.proofs.lemmas.List.{length-map}
use Rattle.std.specs.List.{All}
use Rattle.std.proofs.lemmas.List.Elements.{All-cons, All-nil, All-tail, All-weaker}
use Rattle.std.proofs.lemmas.List.Sums.{sum_by-cons}
use Rattle.sbpl_postings.specs.sbpl_claims.Standing.{Standing}
use Rattle.sbpl_postings.specs.sbpl_frontier_core.Book.{Book}
use Rattle.sbpl_postings.specs.sbpl_frontier_rules.Journal.{posts_in, takes_in}
use Rattle.sbpl_postings.specs.Drained.{Drained}
use Rattle.sbpl_postings.specs.Kept.{AreBrought}
use Rattle.sbpl_postings.specs.Posts.{of}
use Rattle.sbpl_postings.specs.Steps.{ended_with}
use Rattle.sbpl_postings.specs.declared.post.Post.{Post}
use Rattle.sbpl_postings.specs.declared.post.Sent.{Sent}
use Rattle.sbpl_frontier.specs.Come.{HaveCome, event_of}
use Rattle.sbpl_frontier.specs.Tally.{Tally, sent_in}
use Rattle.sbpl_frontier.specs.Tied.{AreTied}
use Rattle.sbpl_frontier.proofs.Summing.{each_of, posts_of, puts_of, puts_within}
use Rattle.sbpl_frontier.proofs.Tying.{count_came}

-- what came back of a worker that goes on, where all that it put in has come out of the line
pub own_come : {count : ℕ} (book : Book) (k : Standing) (taken : ℕ) (line : Drained) (seat : Tally)
    → AreTied book k taken line count
    → of seat.number line.came ≡ seat.posts → HaveCome book.journal (seat ∷ [])
own_come book k taken line seat tied come =
    let Brings : Tally → Type 0 = λ (s : Tally). of s.number line.came ≡ s.posts in
    record { came = line.came; all = tied.posts; each = All-cons Brings seat [] come (All-nil Brings) }

-- what the rule tells where one sender more has ended, it tells of those before
pub brought_before : (line : Drained) (sent : Sent) (items : List Post) → AreBrought (ended_with line sent) items
    → AreBrought line items
brought_before line sent items brought =
    let Brings : Sent → Type 0 = λ (s : Sent). of s.seat (line.came ++ items) ≡ s.posts in record {
      each = All-tail Brings sent line.ended brought.each;
      count = omega (arith, brought.count, sum_by-cons puts_of sent line.ended);
    }

module _ {count : ℕ} (book : Book) (k : Standing) (taken : ℕ) (line : Drained) (seats : List Tally) (before : List Sent)
    (tied : AreTied book k taken line count) (ended : line.ended ≡ map sent_in seats ++ before)
    (brought : AreBrought line []) where
  came : length line.came ≡ posts_in book.journal
  came = sym (length-map line.came event_of) ∙ ap length (sym tied.posts) ∙ count_came book.journal

  all_come : sum_by posts_of seats ≤ posts_in book.journal
  all_come =
      let count : sum_by puts_of (map sent_in seats ++ before) ≤ length line.came =
      subst (λ (sents : List Sent). sum_by puts_of sents ≤ length line.came) ended
      (subst (λ (posts : List Post). sum_by puts_of line.ended ≤ length posts) (append-nil line.came) brought.count) in
      omega (arith, puts_within seats before, count, came)

  -- no arc is out, and each judgement that was posted has come back
  pub none_out : sum_by posts_of seats ≡ sum_by (λ (s : Tally). s.takes) seats
      → taken ≡ sum_by (λ (s : Tally). s.takes) seats
      → posts_in book.journal + length book.frontier.out ≡ takes_in book.journal
      → (length book.frontier.out ≡ 0) × (posts_in book.journal ≡ sum_by posts_of seats)
  none_out even whole back =
      (omega (arith, even, whole, back, all_come, tied.takes), omega (arith, even, whole, back, all_come, tied.takes))

  pub have_come : HaveCome book.journal seats
  have_come =
      let Brings : Sent → Type 0 = λ (s : Sent). of s.seat line.came ≡ s.posts in
      let each : All Brings line.ended =
      All-weaker (λ (s : Sent). of s.seat (line.came ++ []) ≡ s.posts) Brings
      (λ s is. ap (of s.seat) (sym (append-nil line.came)) ∙ is) line.ended brought.each in
      record {
        came = line.came;
        all = tied.posts;
        each = each_of Brings seats before (subst (All Brings) ended each);
      }
