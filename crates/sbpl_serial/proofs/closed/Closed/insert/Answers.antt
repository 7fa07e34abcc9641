use Rattle.sbpl_serial.proofs.Marking.{marked}
use Rattle.sbpl_serial.proofs.closed.Closed.insert.Goals as goal

pub returns : goal.returns
returns c = record {
  closed = rw (← c.self.view_is, c.set.ensures.list) (marked c.self.inside.marks c.args.s c.self.inside.pass);
}
