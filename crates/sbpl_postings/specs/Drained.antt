-- What is known to whoever takes judgements out of a line.
use Rattle.std.specs.Prelude.{ℕ, List}
use Rattle.sbpl_postings.specs.declared.post.Post.{Post}
use Rattle.sbpl_postings.specs.declared.post.Sent.{Sent}

-- how many senders were made, what came out, in order, and what each sender that has ended had put in
pub record Drained : Type 0 where
  pub made : ℕ
  pub came : List Post
  pub ended : List Sent
