use Rattle.std.proofs.Common.{◌+◌, [], length, drop, sym, ap, ◌∙◌, append-nil, take_all, arith}
use Rattle.std.proofs.Math.Seq.{drop-length}
use Rattle.std.specs.Io.BufRead.{drop_through, take_through}
use Rattle.sbpl_desk.proofs.Hearing.{after_feed, after_none, through_feed, through_none}
use Rattle.sbpl_desk.proofs.line.line_len.Goals as goal

pub returns-in-Some-clause-line : goal.returns-in-Some-clause-line
returns-in-Some-clause-line c =
    let bytes = c.args.bytes.now in
    through_feed bytes [] c.in-Some.at c.in-Some.ensures ∙ ap (take_through 10) (append-nil bytes)

pub returns-in-Some-clause-rest : goal.returns-in-Some-clause-rest
returns-in-Some-clause-rest c =
    let bytes = c.args.bytes.now in
    sym (append-nil (drop (c.in-Some.at + 1) bytes)) ∙ after_feed bytes [] c.in-Some.at c.in-Some.ensures
    ∙ ap (drop_through 10) (append-nil bytes)

pub returns-in-None-clause-line : goal.returns-in-None-clause-line
returns-in-None-clause-line c =
    let bytes = c.args.bytes.now in
    take_all (length bytes) bytes (omega arith) ∙ sym (through_none bytes c.in-None.ensures)

pub returns-in-None-clause-rest : goal.returns-in-None-clause-rest
returns-in-None-clause-rest c =
    let bytes = c.args.bytes.now in drop-length bytes ∙ sym (after_none bytes c.in-None.ensures)
