use Rattle.std.proofs.Common.{arith, ◌∙◌}
use Rattle.std.proofs.lemmas.List.{take_rest}
use Rattle.sbpl_fixed.proofs.Tokens.{none_left, one_left}
use Rattle.sbpl_fixed.proofs.token.next_token.Goals as goal

pub returns-then-from-text-clause-first : goal.returns-then-from-text-clause-first
returns-then-from-text-clause-first c =
    c.search_start-start.ensures.first
    ∙ none_left c.args.text.now c.search_start-start.result c.blank_front.result
    (rw take_rest at c.blank_front.ensures.count) c.if-from-text.true

pub returns-clause-inside : goal.returns-clause-inside
returns-clause-inside c =
    let more =
    one_left c.args.text.now c.search_start-start.result c.blank_front.result c.filled_front.result
    (rw take_rest at c.blank_front.ensures.count) (rw take_rest at c.filled_front.ensures.count) (omega arith) in
    let some = more.0 in
    (omega arith, omega arith, omega arith)

pub returns-clause-first : goal.returns-clause-first
returns-clause-first c =
    let more =
    one_left c.args.text.now c.search_start-start.result c.blank_front.result c.filled_front.result
    (rw take_rest at c.blank_front.ensures.count) (rw take_rest at c.filled_front.ensures.count) (omega arith) in
    c.search_start-start.ensures.first ∙ more.1
