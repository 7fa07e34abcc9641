use Rattle.std.proofs.Common.{◌≡◌, All, length, arith, ap, sym, subst, ◌∙◌}
use Rattle.sbpl_frontier.proofs.Summing.{DidNothing, length_fresh, none_done}
use Rattle.sbpl_frontier.proofs.seat.deal.Goals as goal

pub returns-clause-all : goal.returns-clause-all
returns-clause-all g c =
    let places = c.loop-number.places in
    let number = c.loop-number.number in
    let dealt : length places.items ≡ number = ap length c.loop-number.invariant.0 ∙ length_fresh number in
    omega (arith, dealt, c.loop-number-test.false, c.loop-number.auto.number-end)

pub returns-clause-none : goal.returns-clause-none
returns-clause-none g c = subst (All DidNothing) (sym c.loop-number.invariant.0) (none_done c.loop-number.number)
