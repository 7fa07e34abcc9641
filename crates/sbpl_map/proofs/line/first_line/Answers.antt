use Rattle.std.proofs.Common.{◌<◌, length, sym, ◌∙◌, arith}
use Rattle.std.proofs.lemmas.List.{take_rest}
use Rattle.sbpl_map.proofs.Lines.{only_line, line_before}
use Rattle.sbpl_map.proofs.line.first_line.Goals as goal

pub returns-then-end-text-clause-lines : goal.returns-then-end-text-clause-lines
returns-then-end-text-clause-lines c =
    only_line c.args.text.now c.requires.some (sym c.line_len-end.ensures.count ∙ c.if-end-text.true)

pub returns-clause-lines : goal.returns-clause-lines
returns-clause-lines c =
    let some : c.line_len-end.result < length c.args.text.now =
    omega (arith, c.line_len-end.ensures.bound, c.if-end-text.false) in
    rw (take_rest, c.without_return.ensures.line)
    (line_before c.args.text.now c.line_len-end.result c.line_len-end.ensures.count some)
