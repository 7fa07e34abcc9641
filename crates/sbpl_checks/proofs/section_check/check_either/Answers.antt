use Rattle.std.proofs.Common.{OnOk, sym, subst}
use Rattle.sbpl_worlds.specs.sbpl_cert.declared.section.Section.{Section}
use Rattle.sbpl_worlds.specs.sbpl_cert.Flaws.{HasNoFlaw}
use Rattle.sbpl_worlds.specs.sbpl_cert.Versions.{claim_by}
use Rattle.sbpl_checks.proofs.section_check.check_either.Goals as goal

pub returns-in-Sparse-clause-none : goal.returns-in-Sparse-clause-none
returns-in-Sparse-clause-none g c =
    subst (λ (s : Section). OnOk c.check_sparse.result (HasNoFlaw (g.G.Graph.network c.args.graph.now) c.args.start
    c.args.goal (claim_by (g.H.Guide.distance c.args.guide.now) s))) (sym c.in-Sparse.is) c.check_sparse.ensures.none
