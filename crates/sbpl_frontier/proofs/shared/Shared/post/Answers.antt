use Rattle.std.proofs.Common.{◌≡◌, ℕ, Option, ap, refl}
use Rattle.sbpl_postings.specs.declared.post.Post.{Post}
use Rattle.sbpl_frontier.specs.Tally.{Tally, posted}
use Rattle.sbpl_frontier.proofs.shared.Shared.post.Goals.{in-Err, in_default}
use Rattle.sbpl_frontier.proofs.shared.Shared.post.Goals as goal

posted_alike : {a b : Tally} {n m : ℕ} {x y : Option ℕ} → a ≡ b → n ≡ m → x ≡ y → posted a n x ≡ posted b m y
posted_alike seats numbers costs = cc

pub returns : goal.returns
returns g c = record {
  posted = elim c.match-push.branch [
    | in-Err w ↦
        (let back = w.in-Err.ensures.full in
        rw (w.seat-is, w.post_again.ensures.posted) (posted_alike (rw back.1 c.seat.view_is)
        (rw back.0 (ap (λ (p : Post). p.ticket) c.new-posting.ensures.post))
        (rw back.0 (ap (λ (p : Post). p.cost) c.new-posting.ensures.post))))
    | in_default w ↦ rw (w.seat-is, w.in_default.ensures.pushed, c.new-posting.ensures.post, ← c.seat.view_is) refl
  ];
}

pub post_again-requires : goal.post_again-requires
post_again-requires g c =
    record { seat = rw c.in-Err.ensures.full.0 (ap (λ (p : Post). p.seat) c.new-posting.ensures.post) }
