use Rattle.std.proofs.Common.{arith}
use Rattle.sbpl_serial.proofs.Exactness.{exact_repaired}
use Rattle.sbpl_serial.proofs.Repairing.{only_touched, over_or_touched}
use Rattle.sbpl_serial.proofs.repair.change_labels.Goals as goal

pub returns-clause-repaired : goal.returns-clause-repaired
returns-clause-repaired g c = record {
  repaired = c.recompute_all.ensures.repaired;
  exact =
      exact_repaired c.states-states.ensures.sound c.states-states.ensures.tails c.start-start.ensures.labels
      c.requires.states c.recompute_all.ensures.repaired
      (λ t inside apart none. c.requires.changeable.untouched t (omega (arith, c.requires.states)) apart none);
}

pub returns-clause-under : goal.returns-clause-under
returns-clause-under g c none s inside under = only_touched _ _ _ _ c.recompute_all.ensures.repaired none s inside under

pub returns-clause-over : goal.returns-clause-over
returns-clause-over g c s over = over_or_touched _ _ _ _ c.recompute_all.ensures.repaired s over
