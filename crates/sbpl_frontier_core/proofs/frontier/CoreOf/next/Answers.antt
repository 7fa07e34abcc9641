use Rattle.std.proofs.Common.{◌∙◌, subst}
use Rattle.sbpl_frontier_core.specs.Answers.{IsNextOpening}
use Rattle.sbpl_frontier_core.specs.Book.{Book}
use Rattle.sbpl_frontier_core.proofs.Answering.{opens_more}
use Rattle.sbpl_frontier_core.proofs.frontier.CoreOf.next.Goals as goal

pub openings-preserved : goal.openings-preserved
openings-preserved g c =
    let q = g.N.Pass.query in
    let waited = rw c.in_default.is at c.in_ok-ticket.ensures.taken in
    let same = c.choose.ensures.same ∙ waited.0 in
    opens_more q c.in-Opens.s c.args.self.now c.openings.self c.expand.new.self c.openings.invariant
    (subst (λ (b : Book). IsNextOpening q b c.in-Opens.s c.expand.new.self) same c.in_ok-expand-in-Opens.ensures.opened)
