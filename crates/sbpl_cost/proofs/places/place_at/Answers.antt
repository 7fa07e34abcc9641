use Rattle.sbpl_cost.proofs.PlaceLaws.{state_of_place_of}
use Rattle.sbpl_cost.proofs.places.place_at.Goals as goal

pub returns-clause-back : goal.returns-clause-back
returns-clause-back c = rw (← c.env.view_is) (state_of_place_of _ c.env.invariant c.args.s)
