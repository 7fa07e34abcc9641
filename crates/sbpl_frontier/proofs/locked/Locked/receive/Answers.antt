use Rattle.sbpl_postings.specs.sbpl_frontier_rules.declared.leg.Leg.{Leg}
use Rattle.sbpl_postings.specs.Posts.{post_of}
use Rattle.sbpl_frontier.proofs.Tying.{posted_tied}
use Rattle.sbpl_frontier.proofs.locked.Locked.receive.Goals as goal

pub invariant_of-self-2 : goal.invariant_of-self-2
invariant_of-self-2 g c =
    let judged = c.open-claim.result.0 in
    let leg : Leg = record { ticket = judged.number; state = judged.state; arc = judged.arc } in
    let out = rw c.open-claim.ensures.same at c.settle.ensures.out in
    let tied =
    posted_tied g.N.Pass.query _ _ leg judged.cost (post_of c.in-Some.posting) c.self.inside.keeper c.settle.new.self _
    c.self.inside.drain c.apply.ensures.posted c.apply.ensures.journal
    c.open-claim.ensures.ticket c.open-claim.ensures.cost out c.settle.ensures.next c.self.invariant.1 in
    (c.self.invariant.0, rw c.in-Some.ensures.came tied)
