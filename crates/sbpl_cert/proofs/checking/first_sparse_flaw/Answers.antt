use Rattle.std.proofs.Common.{◌≡◌, ℕ, ap, ◌∙◌}
use Rattle.std.proofs.lemmas.Result.{err_from_is_err_and}
use Rattle.sbpl_labels.specs.sbpl_graph.Laws.{IsConsistent}
use Rattle.sbpl_labels.specs.sbpl_graph.Network.{Network}
use Rattle.sbpl_cert.specs.Checking.{IsGuideRight}
use Rattle.sbpl_cert.specs.Sparse.{SparseSection, sparse_claim}
use Rattle.sbpl_cert.proofs.Order.{bound_shown, low_flaw, stages_passed, support_flaw}
use Rattle.sbpl_cert.proofs.checking.first_sparse_flaw.Goals as goal

-- a consistent guide has no flaw
guide_right : (n : Network) (goal : ℕ) (h : ℕ → ℕ) → IsConsistent n goal h → IsGuideRight n goal h
guide_right n goal h is = (is.at_goal, λ s k t c arc. is.along s k t c arc)

pub returns-in_err-check_support : goal.returns-in_err-check_support
returns-in_err-check_support g c =
    let n = g.G.Graph.network c.args.graph.now in
    let h = g.H.Guide.distance c.args.guide.now in
    let p = err_from_is_err_and c.from_residual.result c.from_residual.ensures.1 in
    rw
    (p.1, p.2)
    (record {
      answer =
          support_flaw n c.args.start c.args.goal (sparse_claim h c.args.set.now) c.in_err-check_support.field-0.0
          c.in_err-check_support.ensures.support;
    })

pub returns-in_err-check_low : goal.returns-in_err-check_low
returns-in_err-check_low g c =
    let n = g.G.Graph.network c.args.graph.now in
    let h = g.H.Guide.distance c.args.guide.now in
    let p = err_from_is_err_and c.from_residual-in_err-check_low.result c.from_residual-in_err-check_low.ensures.1 in
    let low_is : c.set.inside.low ≡ c.args.set.now.low = ap (λ (s : SparseSection). s.low) c.set.view_is in
    let right =
    guide_right n c.args.goal h (g.met.H.Guide.consistent c.args.guide.now n c.args.goal c.requires.guide) in
    let low = rw (c.requires.states, low_is) at c.in_err-check_low.ensures.low in
    rw
    (p.1, p.2)
    (record {
      answer =
          low_flaw n c.args.start c.args.goal (sparse_claim h c.args.set.now) c.in_ok-check_support.ensures.support
          right c.in_err-check_low.field-0.0 low;
    })

pub returns : goal.returns
returns g c =
    let n = g.G.Graph.network c.args.graph.now in
    let h = g.H.Guide.distance c.args.guide.now in
    let s = sparse_claim h c.args.set.now in
    let arcs_are : c.as_slice.result.now ≡ c.args.set.now.arcs =
    c.as_slice.ensures.items ∙ ap (λ (s : SparseSection). s.arcs) c.set.view_is in
    let low_is : c.set.inside.low ≡ c.args.set.now.low = ap (λ (s : SparseSection). s.low) c.set.view_is in
    let outcome_is : c.set.inside.outcome ≡ c.args.set.now.outcome =
    ap (λ (s : SparseSection). s.outcome) c.set.view_is in
    let right =
    guide_right n c.args.goal h (g.met.H.Guide.consistent c.args.guide.now n c.args.goal c.requires.guide) in
    let low = rw (c.requires.states, low_is) at c.in_ok-check_low.ensures.low in
    let labels = rw c.requires.states at c.count-count.ensures.labels.labels in
    let shown = bound_shown n c.args.start c.args.goal s labels c.in_ok-check_support.ensures.support right low in
    let end = rw (arcs_are, low_is, outcome_is) at c.check_outcome.ensures.outcome in
    record { answer = stages_passed n c.args.start c.args.goal s c.check_outcome.result c.requires.goal shown end }
