use Rattle.sbpl_fixed.proofs.Items.{words_are_met, words_are_missed, numbers_are_met}
use Rattle.sbpl_fixed.proofs.Items.{numbers_without_form, numbers_out_of_range}
use Rattle.sbpl_fixed.proofs.formats.items_in_plain_words.Goals as goal

pub returns-clause-word : goal.returns-clause-word
returns-clause-word c = words_are_met

pub returns-clause-other_word : goal.returns-clause-other_word
returns-clause-other_word c = words_are_missed

pub returns-clause-number : goal.returns-clause-number
returns-clause-number c = numbers_are_met

pub returns-clause-no_number : goal.returns-clause-no_number
returns-clause-no_number c = numbers_without_form

pub returns-clause-out_of_range : goal.returns-clause-out_of_range
returns-clause-out_of_range c = numbers_out_of_range
