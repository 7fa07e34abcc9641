use Rattle.sbpl_serial.proofs.Beginning.{begun_by}
use Rattle.sbpl_serial.proofs.planner.SerialDetermined.is_determined.Goals as goal

pub returns-clause-beginnings : goal.returns-clause-beginnings
returns-clause-beginnings g c = begun_by g.P.Policy.REPAIRS
