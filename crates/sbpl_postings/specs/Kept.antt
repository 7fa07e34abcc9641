-- The rule of the queue, which every step keeps.
use Rattle.std.specs.Prelude.{◌≡◌, ◌≢◌, ℕ, ◌<◌, ◌≤◌, List, [], ◌∷◌, ◌++◌, length, sum_by, ⊤}
use Rattle.std.specs.List.{All}
use mathlib.Core.Option.{some}
use lib.ListN.{get_elem?}
use Rattle.sbpl_postings.specs.Drained.{Drained}
use Rattle.sbpl_postings.specs.Known.{whole}
use Rattle.sbpl_postings.specs.Posts.{of}
use Rattle.sbpl_postings.specs.declared.post.Post.{Post}
use Rattle.sbpl_postings.specs.declared.post.Sent.{Sent}
use Rattle.sbpl_postings.specs.declared.known.Known.{Known}
use Rattle.sbpl_postings.specs.declared.known.Known.TheVariants.{One}

-- this pass is the drain's, and knows this
abbrev pub IsDrain : List Known → (place : ℕ) → Drained → Type 0
IsDrain views place now = get_elem? views place ≡ some (whole now)

-- this pass is a sender's, and knows this
abbrev pub IsSender : List Known → (place : ℕ) → Sent → Type 0
IsSender views place sent = get_elem? views place ≡ some (One sent)

-- of all these posts, those of this seat are what its sender put in, and the seat is below this number
abbrev pub IsWhole : (made : ℕ) → List Post → Sent → Type 0
IsWhole made all sent = (sent.seat < made) × (of sent.seat all ≡ sent.posts)

-- no two of them have one seat
abbrev pub AreApart : List Sent → Type 0
AreApart [] = ⊤
AreApart (sent ∷ rest) = All (λ other. other.seat ≢ sent.seat) rest × AreApart rest

-- There is one drain. The seats of senders, those that have ended too, all differ and are below the count of those made. For
-- each, what came out and then what the queue holds is what it put in; and a seat that is not made yet has put nothing in.
pub record AreKept (place : ℕ) (now : Drained) (all : List Post) (views : List Known) : Type 0 where
  pub drains : IsDrain views place now
  pub alone : (other : ℕ) (than : Drained) → IsDrain views other than → other ≡ place
  pub live : (at : ℕ) (sent : Sent) → IsSender views at sent → IsWhole now.made all sent
  pub ended : All (IsWhole now.made all) now.ended
  pub apart : (a b : ℕ) (x y : Sent) → a ≢ b → IsSender views a x → IsSender views b y → x.seat ≢ y.seat
  pub left : (at : ℕ) (sent : Sent) → IsSender views at sent → All (λ other. other.seat ≢ sent.seat) now.ended
  pub differ : AreApart now.ended
  pub below : All (λ (p : Post). p.seat < now.made) all

abbrev pub IsKept : (items : List Post) → List Known → Type 0
IsKept items views = (place : ℕ) × (now : Drained) × AreKept place now (now.came ++ items) views

-- for each sender that has ended, what came out and then these items is what it had put in; together they are no fewer than those put in
pub record AreBrought (now : Drained) (items : List Post) : Type 0 where
  pub each : All (λ sent. of sent.seat (now.came ++ items) ≡ sent.posts) now.ended
  pub count : sum_by (λ sent. length sent.posts) now.ended ≤ length (now.came ++ items)
