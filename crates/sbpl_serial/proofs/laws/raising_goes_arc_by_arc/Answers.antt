use Rattle.sbpl_serial.proofs.Raising.{raising_begins, raising_ends, raising_goes_on, raising_lowers_none}
use Rattle.sbpl_serial.proofs.laws.raising_goes_arc_by_arc.Goals as goal

pub returns : goal.returns
returns c = record {
  begins = raising_begins;
  goes_on = raising_goes_on;
  lowers_none = raising_lowers_none;
  ends = raising_ends;
}
