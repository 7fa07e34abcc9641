-- Sums and lists of seats.
use Rattle.std.proofs.Common.{◌≡◌, ℕ, zero, suc, ◌+◌, ◌≤◌, List, [], ◌∷◌, ◌++◌, map, length, sum_by}
use Rattle.std.proofs.Common.{arith, refl, length-append}
use Rattle.std.specs.List.{All}
use Rattle.std.proofs.lemmas.List.Elements.{All-append, All-cons, All-head, All-nil, All-tail}
use Rattle.std.proofs.lemmas.List.Sums.{sum_by-append, sum_by-cons}
use Rattle.sbpl_postings.specs.declared.post.Sent.{Sent}
use Rattle.sbpl_frontier.specs.Tally.{Tally, fresh, fresh_seats, sent_in}

-- ---- one more seat

module _ (f : Tally → ℕ) where
  pub sum_then : (xs : List Tally) (x : Tally) → sum_by f (xs ++ x ∷ []) ≡ sum_by f xs + f x
  sum_then xs x = omega (arith, sum_by-append f xs (x ∷ []), sum_by-cons f x [])

-- ---- fresh seats

pub length_fresh : (count : ℕ) → length (fresh_seats count) ≡ count
length_fresh zero = refl
length_fresh (suc count) = omega (arith, length-append (fresh_seats count) (fresh count ∷ []), length_fresh count)

abbrev pub DidNothing : Tally → Type 0
DidNothing s = (s.takes ≡ 0) × (s.posts ≡ [])

pub none_done : (count : ℕ) → All DidNothing (fresh_seats count)
none_done zero = All-nil DidNothing
none_done (suc count) =
    All-append DidNothing (fresh_seats count) (fresh count ∷ []) (none_done count)
    (All-cons DidNothing (fresh count) [] (refl, refl) (All-nil DidNothing))

-- ---- what the workers in these seats put in, and others

abbrev pub posts_of : Tally → ℕ
posts_of seat = length seat.posts

abbrev pub puts_of : Sent → ℕ
puts_of sent = length sent.posts

-- all senders together put in no fewer than these seats
pub puts_within : (seats : List Tally) (more : List Sent)
    → sum_by posts_of seats ≤ sum_by puts_of (map sent_in seats ++ more)
puts_within [] more = omega arith
puts_within (seat ∷ rest) more =
    omega (
      arith,
      sum_by-cons posts_of seat rest,
      sum_by-cons puts_of (sent_in seat) (map sent_in rest ++ more),
      puts_within rest more,
    )

-- what is true of all is true of these
pub each_of : (P : Sent → Type 0) (seats : List Tally) (more : List Sent) → All P (map sent_in seats ++ more)
    → All (λ (s : Tally). P (sent_in s)) seats
each_of P [] more all = All-nil (λ (s : Tally). P (sent_in s))
each_of P (seat ∷ rest) more all =
    All-cons (λ (s : Tally). P (sent_in s)) seat rest (All-head P (sent_in seat) (map sent_in rest ++ more) all)
    (each_of P rest more (All-tail P (sent_in seat) (map sent_in rest ++ more) all))
