use Rattle.std.proofs.Common.{arith, refl}
use Rattle.sbpl_serial.specs.Run.{none_closed}
use Rattle.sbpl_serial.proofs.Gathering.{opened_waiting}
use Rattle.sbpl_serial.proofs.Together.{together_none}
use Rattle.sbpl_serial.proofs.serial.Serial.restart.Goals as goal

pub invariant_of-self : goal.invariant_of-self
invariant_of-self g c =
    let parts = c.self.invariant in
    let opened = c.restart.ensures.opened in
    let same = opened.states in
    together_none (omega (arith, parts.goal_inside)) (omega (arith, c.clear.ensures.states, parts.closed_states))
    c.clear.ensures.none c.clear-2.ensures.empty (omega (arith, c.clear-2.ensures.room, parts.enough_room))
    (omega (arith, c.put.ensures.changed.states, c.clear-3.ensures.states, parts.queue_states)) (opened_waiting
    none_closed _ _ c.args.start _ opened refl c.put.ensures.changed)
