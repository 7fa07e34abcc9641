use Rattle.std.proofs.Common.{List, map, string_bytes, sym, ◌∙◌, ap, subst}
use Rattle.sbpl_jobs.specs.sbpl_plans.Boards.{entries_of}
use Rattle.sbpl_jobs.specs.sbpl_promises.Published.{Entry}
use Rattle.sbpl_jobs.specs.sbpl_promises.Run.{job_named}
use Rattle.sbpl_jobs.specs.sbpl_promises.RunPromises.{RunPromises}
use Rattle.sbpl_jobs.specs.sbpl_report.Statuses.{number_of}
use Rattle.sbpl_cli.proofs.top.run_to_end.Goals as goal

pub returns-clause-promises : goal.returns-clause-promises
returns-clause-promises g c =
    let named = job_named c.args.words.now in
    let s = g.D.Desk.state c.args.desk.now in
    let u = g.D.Desk.state c.run_words.new.desk in
    let lent = c.new-live.ensures.publisher in
    let back = c.publisher-1.given.1 (sym (ap (λ p. p.ghost_name) lent) ∙ sym c.run_words.ensures.same.0) in
    subst (λ (l : List Entry). RunPromises named s u l c.publisher-1.given.0.published (number_of c.run_words.result.status))
    (ap (λ p. p.now.published) lent)
    (subst (λ (l : List Entry). RunPromises named s u (entries_of c.new-live.result) l (number_of c.run_words.result.status))
    (sym (ap (λ p. p.published) back))
    (c.runs_keep_promises.ensures.law named s _ _ _ _ c.run_words.ensures.ends.ends))

pub returns-clause-headline : goal.returns-clause-headline
returns-clause-headline g c =
    c.promises_show_the_headline.ensures.law (map string_bytes c.args.words.now) (g.D.Desk.state c.args.desk.now) _ _ _
    _
    (c.runs_keep_promises.ensures.law (job_named c.args.words.now) (g.D.Desk.state c.args.desk.now) _ _ _ _
    c.run_words.ensures.ends.ends)

pub returns-clause-board : goal.returns-clause-board
returns-clause-board g c =
    let lent = c.new-live.ensures.publisher in
    let back = c.publisher-1.given.1 (sym (ap (λ p. p.ghost_name) lent) ∙ sym c.run_words.ensures.same.0) in
    ap (λ p. p.board) back ∙ c.run_words.ensures.same.1 ∙ ap (λ p. p.now.board) lent
