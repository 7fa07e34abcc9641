use Rattle.sbpl_fixed.proofs.UnsignedText.{digits_have_values, no_others_are_digits, millis_have_values}
use Rattle.sbpl_fixed.proofs.UnsignedText.{no_others_are_millis, decimals_are_digits, decimals_are_read_back}
use Rattle.sbpl_fixed.proofs.UnsignedText.{decimals_are_words, thousandths_are_millis}
use Rattle.sbpl_fixed.proofs.UnsignedText.{thousandths_are_read_back, thousandths_are_words}
use Rattle.sbpl_fixed.proofs.unsigned.unsigned_numbers_are_their_digits.Goals as goal

pub returns : goal.returns
returns c = record {
  law = record {
    digits = digits_have_values;
    other_digits = no_others_are_digits;
    millis = millis_have_values;
    other_millis = no_others_are_millis;
    printed_digits = decimals_are_digits;
    digits_back = decimals_are_read_back;
    digit_words = decimals_are_words;
    printed_millis = thousandths_are_millis;
    millis_back = thousandths_are_read_back;
    milli_words = thousandths_are_words;
  };
}
