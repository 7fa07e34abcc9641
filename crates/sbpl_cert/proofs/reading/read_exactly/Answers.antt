use Rattle.std.proofs.Common.{arith, ◌∙◌, ap}
use Rattle.sbpl_fixed.specs.Formats.{Left}
use Rattle.sbpl_cert.proofs.ReadLaws.{ends_after, read_to, right_after_end}
use Rattle.sbpl_cert.proofs.reading.read_exactly.Goals as goal

pub overflow_add-result : goal.overflow_add-result
overflow_add-result c =
    let last = rw c.from-reader.ensures.start at c.in_ok-set.ensures.last in
    let end = c.in_ok-set.ensures.end ∙ ap (λ (l : Left). l.end) c.from-reader.ensures.start in
    let w =
    ends_after c.tokens_are_longest_runs.ensures.on c.args.text.now c.args.at c.in_ok-set.place
    c.read_section.new.reader c.requires.inside last end in
    omega (arith, w.1)

pub returns-clause-inside : goal.returns-clause-inside
returns-clause-inside c =
    let last = rw c.from-reader.ensures.start at c.in_ok-set.ensures.last in
    let end = c.in_ok-set.ensures.end ∙ ap (λ (l : Left). l.end) c.from-reader.ensures.start in
    let w =
    ends_after c.tokens_are_longest_runs.ensures.on c.args.text.now c.args.at c.in_ok-set.place
    c.read_section.new.reader c.requires.inside last end in
    (w.0, w.1)

pub returns-clause-after : goal.returns-clause-after
returns-clause-after c =
    let last = rw c.from-reader.ensures.start at c.in_ok-set.ensures.last in
    let end = c.in_ok-set.ensures.end ∙ ap (λ (l : Left). l.end) c.from-reader.ensures.start in
    let w =
    ends_after c.tokens_are_longest_runs.ensures.on c.args.text.now c.args.at c.in_ok-set.place
    c.read_section.new.reader c.requires.inside last end in
    right_after_end c.args.text.now c.args.at c.in_ok-set.place c.read_section.new.reader last w.2

pub returns-clause-exact : goal.returns-clause-exact
returns-clause-exact c =
    let last = rw c.from-reader.ensures.start at c.in_ok-set.ensures.last in
    let end = c.in_ok-set.ensures.end ∙ ap (λ (l : Left). l.end) c.from-reader.ensures.start in
    let w =
    ends_after c.tokens_are_longest_runs.ensures.on c.args.text.now c.args.at c.in_ok-set.place
    c.read_section.new.reader c.requires.inside last end in
    let read = rw c.from-reader.ensures.start at c.in_ok-set.ensures.read in
    read ∙ read_to c.in_ok-set.set w.2
