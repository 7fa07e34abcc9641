use Rattle.std.proofs.Common.{List, map, string_bytes, sym, ◌∙◌, ap, subst}
use Rattle.sbpl_cli.specs.Answered.{IsAnswered}
use Rattle.sbpl_cli.specs.sbpl_plans.Boards.{entries_of}
use Rattle.sbpl_cli.specs.sbpl_promises.Published.{Entry}
use Rattle.sbpl_main.proofs.progress.answer_live.Goals as goal

pub returns-clause-answered : goal.returns-clause-answered
returns-clause-answered g c =
    let words = map string_bytes c.args.words.now in
    let s = g.D.Desk.state c.args.desk.now in
    let u = g.D.Desk.state c.answer.new.desk in
    let lent = c.new-live.ensures.publisher in
    let back = c.publisher-1.given.1 (sym (ap (λ p. p.ghost_name) lent) ∙ sym c.answer.ensures.same.0) in
    subst (λ (l : List Entry). IsAnswered words s u l c.publisher-1.given.0.published c.answer.result)
    (ap (λ p. p.now.published) lent)
    (subst (λ (l : List Entry). IsAnswered words s u (entries_of c.new-live.result) l c.answer.result)
    (sym (ap (λ p. p.published) back)) c.answer.ensures.answered)

pub returns-clause-board : goal.returns-clause-board
returns-clause-board g c =
    let lent = c.new-live.ensures.publisher in
    let back = c.publisher-1.given.1 (sym (ap (λ p. p.ghost_name) lent) ∙ sym c.answer.ensures.same.0) in
    ap (λ p. p.board) back ∙ c.answer.ensures.same.1 ∙ ap (λ p. p.now.board) lent
