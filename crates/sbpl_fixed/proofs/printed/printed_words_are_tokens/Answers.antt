use Rattle.sbpl_fixed.proofs.ReadBack.{nanos_are_words, wholes_are_words, words_are_tokens}
use Rattle.sbpl_fixed.proofs.ReadBack.{last_words_are_tokens, blanks_part_tokens}
use Rattle.sbpl_fixed.proofs.printed.printed_words_are_tokens.Goals as goal

pub returns-clause-nanos : goal.returns-clause-nanos
returns-clause-nanos c = nanos_are_words

pub returns-clause-wholes : goal.returns-clause-wholes
returns-clause-wholes c = wholes_are_words

pub returns-clause-words : goal.returns-clause-words
returns-clause-words c = words_are_tokens

pub returns-clause-last : goal.returns-clause-last
returns-clause-last c = last_words_are_tokens

pub returns-clause-blanks : goal.returns-clause-blanks
returns-clause-blanks c = blanks_part_tokens
