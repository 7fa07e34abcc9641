use Rattle.sbpl_fixed.proofs.ReadBack.{nanos_are_read_back, millis_are_read_back, wholes_are_read_back}
use Rattle.sbpl_fixed.proofs.printed.printed_numbers_are_read_back.Goals as goal

pub returns-clause-nanos : goal.returns-clause-nanos
returns-clause-nanos c = nanos_are_read_back

pub returns-clause-millis : goal.returns-clause-millis
returns-clause-millis c = millis_are_read_back

pub returns-clause-wholes : goal.returns-clause-wholes
returns-clause-wholes c = wholes_are_read_back
