use Rattle.std.proofs.lemmas.Result.{MatchResult-weaker}
use Rattle.sbpl_cert.specs.Claims.{claim_of}
use Rattle.sbpl_cert.proofs.Order.{shown_is_clear, shown_is_so, only_none, only_first}
use Rattle.sbpl_cert.proofs.checking.check.Goals as goal

pub returns-clause-none : goal.returns-clause-none
returns-clause-none g c =
    MatchResult-weaker c.first_flaw.result c.first_flaw.ensures.answer (λ _ shown.
    shown_is_clear (g.G.Graph.network c.args.graph.now) c.args.start c.args.goal (claim_of c.args.set.now) shown)
    (λ _ _. tt)

pub returns-clause-only_none : goal.returns-clause-only_none
returns-clause-only_none g c =
    only_none (g.G.Graph.network c.args.graph.now) c.args.start c.args.goal (claim_of c.args.set.now)
    c.first_flaw.result c.first_flaw.ensures.answer

pub returns-clause-only_first : goal.returns-clause-only_first
returns-clause-only_first g c =
    only_first (g.G.Graph.network c.args.graph.now) c.args.start c.args.goal (claim_of c.args.set.now)
    c.first_flaw.result c.first_flaw.ensures.answer

pub returns-clause-so : goal.returns-clause-so
returns-clause-so g c =
    MatchResult-weaker c.first_flaw.result c.first_flaw.ensures.answer
    (λ _ shown.
    shown_is_so (g.G.Graph.network c.args.graph.now) c.args.start c.args.goal (claim_of c.args.set.now)
    c.states-states.ensures.sound c.bound_holds.ensures.every_path c.none_holds.ensures.no_path shown)
    (λ _ _. tt)
