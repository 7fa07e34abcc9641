-- What a seat counts.
use Rattle.std.specs.Prelude.{ℕ, zero, suc, Option, List, [], ◌∷◌, ◌++◌}
use Rattle.sbpl_postings.specs.declared.post.Post.{Post}
use Rattle.sbpl_postings.specs.declared.post.Sent.{Sent}

-- a seat's number, how many arcs it took, and the judgements that it posted, in order
pub record Tally : Type 0 where
  pub number : ℕ
  pub takes : ℕ
  pub posts : List Post

-- a seat that has done nothing
abbrev pub fresh : ℕ → Tally
fresh number = record { number = number; takes = 0; posts = [] }

-- this many of them, with the numbers from 0 upwards
abbrev pub fresh_seats : ℕ → List Tally
fresh_seats zero = []
fresh_seats (suc count) = fresh_seats count ++ fresh count ∷ []

-- a seat that has posted one more judgement
abbrev pub posted : Tally → (ticket : ℕ) → (cost : Option ℕ) → Tally
posted old ticket cost = record { number = old.number; takes = old.takes; posts = old.posts ++ (record { seat = old.number; ticket = ticket; cost = cost }) ∷ [] }

-- what it put into the line
abbrev pub sent_in : Tally → Sent
sent_in seat = record { seat = seat.number; posts = seat.posts }
