use Rattle.std.proofs.Common.{◌<◌, ℕ, subst, sym}
use Rattle.sbpl_cert.proofs.MadeShows.{rows_show}
use Rattle.sbpl_cert.proofs.making.section_of.Goals as goal

pub returns-clause-shows : goal.returns-clause-shows
returns-clause-shows g c = λ n same sound guides supported.
    rows_show n _ (g.H.Guide.distance c.args.guide.now) c.args.goal _ _ same c.in_ok-rows_of.ensures.rows sound
    (subst (λ (count : ℕ). c.args.labels.now.start < count) (sym same) c.start-start.ensures.labels.start_inside)
    (subst (λ (count : ℕ). c.args.goal < count) (sym same) c.requires.goal)
    (g.met.H.Guide.consistent c.args.guide.now n c.args.goal guides) supported c.low-low.ensures.least
