-- What came back from which worker.
use Rattle.std.specs.Prelude.{ℕ, nat_eq, List}
use Rattle.std.specs.List.{filter}
use Rattle.sbpl_frontier_core.specs.declared.name.Pass.{Ghosts as PassGhosts}
use Rattle.sbpl_claims.specs.declared.naming.Naming.{Ghosts as NamingGhosts}
use Rattle.sbpl_postings.specs.declared.post.Post.{Post}
use Rattle.sbpl_postings.specs.declared.posting.Posting.{Posting}

-- of these posts, those of one seat, in order
abbrev pub of : (seat : ℕ) → List Post → List Post
of seat posts = filter (λ p. nat_eq p.seat seat) posts

module _ {N : Type 0} {P : PassGhosts N} {M : Type 0} {Q : NamingGhosts M} where
  -- what contracts see of a posting
  abbrev pub post_of : Posting N M P Q → Post
  post_of p = record { seat = p.seat; ticket = p.judged.number; cost = p.judged.cost }
