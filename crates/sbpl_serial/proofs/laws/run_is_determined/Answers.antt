use Rattle.sbpl_serial.proofs.Guiding.{guide_at_states}
use Rattle.sbpl_serial.proofs.Leading.{runs_go_on, equal_runs_agree, rest_ends_runs}
use Rattle.sbpl_serial.proofs.Determining.{serial_is_determined}
use Rattle.sbpl_serial.proofs.Beginning.{begun_anew, begun_repaired, initial_is_one}
use Rattle.sbpl_serial.proofs.laws.run_is_determined.Goals as goal

pub returns : goal.returns
returns c = record {
  longer = runs_go_on;
  as_long = equal_runs_agree;
  at_rest = rest_ends_runs;
  guided = guide_at_states;
  determined = serial_is_determined;
  initial = initial_is_one;
  anew = begun_anew;
  repaired = begun_repaired;
}
