use Rattle.sbpl_fixed.proofs.Forms.{wholes_have_values, no_others_are_whole, decimals_have_values}
use Rattle.sbpl_fixed.proofs.Forms.{no_others_are_decimals, zeros_after, write_numbers}
use Rattle.sbpl_fixed.proofs.number.numbers_are_read_by_parts.Goals as goal

pub returns-clause-wholes : goal.returns-clause-wholes
returns-clause-wholes c = wholes_have_values

pub returns-clause-other_wholes : goal.returns-clause-other_wholes
returns-clause-other_wholes c = no_others_are_whole

pub returns-clause-decimals : goal.returns-clause-decimals
returns-clause-decimals c = decimals_have_values

pub returns-clause-other_decimals : goal.returns-clause-other_decimals
returns-clause-other_decimals c = no_others_are_decimals

pub returns-clause-missing : goal.returns-clause-missing
returns-clause-missing c = zeros_after

pub returns-clause-digits : goal.returns-clause-digits
returns-clause-digits c = write_numbers
