use Rattle.sbpl_frontier_core.proofs.Finishing.{given_up, over_held}
use Rattle.sbpl_frontier_core.proofs.frontier.CoreOf.give_up.Goals as goal

pub returns : goal.returns
returns g c =
    let laws = c.events_keep.ensures in
    record {
      given_up = rw (← c.self.view_is) (given_up c.self.invariant.5 laws.first laws.each laws.once);
      over = over_held c.self.invariant.5;
    }
