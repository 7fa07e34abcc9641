use Rattle.std.proofs.Common.{◌<◌, ℕ, subst}
use Rattle.sbpl_cert.proofs.CutMade.{cut_rows_show}
use Rattle.sbpl_cert.proofs.making.sparse_section_of.Goals as goal

pub returns-clause-shows : goal.returns-clause-shows
returns-clause-shows g c = λ guides supported.
    let n = g.G.Graph.network c.args.graph.now in
    cut_rows_show c.args.outcome n c.args.labels.now (g.H.Guide.distance c.args.guide.now) c.args.goal c.low-low.result
    c.in_ok-rows.rows c.requires.states c.states-states.ensures.sound
    (subst (λ (count : ℕ). c.args.labels.now.start < count) c.requires.states c.start-start.ensures.labels.start_inside)
    (subst (λ (count : ℕ). c.args.goal < count) c.requires.states c.requires.goal)
    c.in_ok-rows.ensures.rows c.low-low.ensures.least
    (g.met.H.Guide.consistent c.args.guide.now n c.args.goal guides) supported
