use Rattle.std.proofs.Common.{◌≡◌, refl, ap, ◌∙◌}
use Rattle.std.proofs.lemmas.Result.{err_from_is_err_and}
use Rattle.sbpl_cert.specs.Claims.{claim_of}
use Rattle.sbpl_cert.specs.Sections.{FullSection}
use Rattle.sbpl_cert.proofs.Order.{bound_shown, guide_flaw, low_flaw, stages_passed, support_flaw}
use Rattle.sbpl_cert.proofs.checking.first_flaw.Goals as goal

pub returns-in_err-check_support : goal.returns-in_err-check_support
returns-in_err-check_support g c =
    let n = g.G.Graph.network c.args.graph.now in
    let p = err_from_is_err_and c.from_residual.result c.from_residual.ensures.1 in
    rw (p.1, p.2) (record {
      answer =
          support_flaw n c.args.start c.args.goal (claim_of c.args.set.now) c.in_err-check_support.field-0.0
          c.in_err-check_support.ensures.support;
    })

pub returns-in_err-check_guide : goal.returns-in_err-check_guide
returns-in_err-check_guide g c =
    let n = g.G.Graph.network c.args.graph.now in
    let p =
    err_from_is_err_and c.from_residual-in_err-check_guide.result c.from_residual-in_err-check_guide.ensures.1 in
    rw
    (p.1, p.2)
    (record {
      answer =
          guide_flaw n c.args.start c.args.goal (claim_of c.args.set.now) refl c.in_ok-check_support.ensures.support
          c.in_err-check_guide.field-0.0 c.in_err-check_guide.ensures.guide;
    })

pub returns-in_err-check_low : goal.returns-in_err-check_low
returns-in_err-check_low g c =
    let n = g.G.Graph.network c.args.graph.now in
    let p = err_from_is_err_and c.from_residual-in_err-check_low.result c.from_residual-in_err-check_low.ensures.1 in
    let low_is : c.set.inside.low ≡ c.args.set.now.low = ap (λ (s : FullSection). s.low) c.set.view_is in
    let low = rw (c.requires.states, low_is) at c.in_err-check_low.ensures.low in
    rw
    (p.1, p.2)
    (record {
      answer =
          low_flaw n c.args.start c.args.goal (claim_of c.args.set.now) c.in_ok-check_support.ensures.support
          c.in_ok-check_guide.ensures.guide c.in_err-check_low.field-0.0 low;
    })

pub returns : goal.returns
returns g c =
    let n = g.G.Graph.network c.args.graph.now in
    let s = claim_of c.args.set.now in
    let arcs_are : c.as_slice.result.now ≡ c.args.set.now.arcs =
    c.as_slice.ensures.items ∙ ap (λ (s : FullSection). s.arcs) c.set.view_is in
    let low_is : c.set.inside.low ≡ c.args.set.now.low = ap (λ (s : FullSection). s.low) c.set.view_is in
    let outcome_is : c.set.inside.outcome ≡ c.args.set.now.outcome =
    ap (λ (s : FullSection). s.outcome) c.set.view_is in
    let low = rw (c.requires.states, low_is) at c.in_ok-check_low.ensures.low in
    let labels = rw c.requires.states at c.count-count.ensures.labels.labels in
    let shown =
    bound_shown n c.args.start c.args.goal s labels c.in_ok-check_support.ensures.support
    c.in_ok-check_guide.ensures.guide low in
    let end = rw (arcs_are, low_is, outcome_is) at c.check_outcome.ensures.outcome in
    record { answer = stages_passed n c.args.start c.args.goal s c.check_outcome.result c.requires.goal shown end }
