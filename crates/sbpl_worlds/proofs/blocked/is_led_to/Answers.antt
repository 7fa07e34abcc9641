use Rattle.std.proofs.Common.{arith}
use Rattle.sbpl_worlds.proofs.Blocking.{none_enters}
use Rattle.sbpl_worlds.proofs.blocked.is_led_to.Goals as goal

pub returns-clause-none : goal.returns-clause-none
returns-clause-none g c = λ is.
    none_enters _ _ c.loop-j.j c.states-states.ensures.tails
    (let past = c.loop-j-test.false in let count = c.tail_fan-j-end.ensures.value in let end = c.loop-j.auto.j-end in omega arith)
    c.loop-j.invariant
