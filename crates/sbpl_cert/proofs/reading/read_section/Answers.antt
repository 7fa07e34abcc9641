use Rattle.sbpl_cert.proofs.ReadLaws.{section_ends}
use Rattle.sbpl_cert.proofs.reading.read_section.Goals as goal

pub returns-clause-last : goal.returns-clause-last
returns-clause-last c =
    (section_ends c.reading_is_what_is_said.ensures.law c.args.plan c.args.states c.args.reader.now
    c.read_front.new.reader c.word.new.self c.in_ok-set.set c.in_ok-place.place _ c.in_ok-set.ensures.read
    c.in_ok-place.ensures.read).0

pub returns-clause-end : goal.returns-clause-end
returns-clause-end c =
    (section_ends c.reading_is_what_is_said.ensures.law c.args.plan c.args.states c.args.reader.now
    c.read_front.new.reader c.word.new.self c.in_ok-set.set c.in_ok-place.place _ c.in_ok-set.ensures.read
    c.in_ok-place.ensures.read).1
