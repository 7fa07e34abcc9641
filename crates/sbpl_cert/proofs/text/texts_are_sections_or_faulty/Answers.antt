use Rattle.sbpl_fixed.specs.Unsigned.{NumbersAreTheirDigits}
use Rattle.sbpl_cert.proofs.ReadLaws.{Reading}
use Rattle.sbpl_cert.proofs.TextLaws.{each_is_either, format_is, never_both, one_fault, one_value}
use Rattle.sbpl_cert.proofs.WrittenText.{written_means}
use Rattle.sbpl_cert.proofs.text.texts_are_sections_or_faulty.Goals as goal

numbers : (c : goal.After-printed_words_are_tokens) → NumbersAreTheirDigits
numbers c = c.unsigned_numbers_are_their_digits.ensures.law

reading : (c : goal.After-printed_words_are_tokens) → Reading
reading c = c.reading_is_what_is_said.ensures.law

pub returns-clause-format : goal.returns-clause-format
returns-clause-format c = format_is (numbers c) (reading c)

pub returns-clause-either : goal.returns-clause-either
returns-clause-either c = each_is_either (numbers c) (reading c)

pub returns-clause-not_both : goal.returns-clause-not_both
returns-clause-not_both c = never_both (numbers c) (reading c)

pub returns-clause-one_value : goal.returns-clause-one_value
returns-clause-one_value c ts rest more s u h k = one_value (numbers c) (reading c) ts rest more s u h k

pub returns-clause-one_fault : goal.returns-clause-one_fault
returns-clause-one_fault c = one_fault (numbers c) (reading c)

pub returns-clause-written : goal.returns-clause-written
returns-clause-written c = written_means (numbers c) c.printed_words_are_tokens.ensures.words
