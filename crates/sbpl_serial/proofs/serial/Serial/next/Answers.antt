use Rattle.sbpl_search.specs.sbpl_labels.Marks.{g_of}
use Rattle.sbpl_serial.specs.Keys.{goal_key}
use Rattle.sbpl_serial.proofs.Resting.{first_below}
use Rattle.sbpl_serial.proofs.serial.Serial.next.Goals as goal

pub returns-clause-next : goal.returns-clause-next
returns-clause-next g c =
    let inside = c.self.inside in
    let tells = simp (c.from.ensures, c.g-g.ensures.value) at c.is_below.ensures.below in
    rw (← c.self.view_is, c.then_some.ensures)
    (first_below inside.queue (goal_key (g_of inside.labels inside.goal)) c.in_ok-s.s _ c.is_below.result
    c.in_ok-s.ensures.least tells)
